use Rattle.pac_inputs.proofs.Common.{AllWithin, IsPartitionPoint-from_clause, arith, length, rules, sym, ◌<◌, ◌∙◌}
use Rattle.pac_inputs.proofs.Searches.{is_over, IsOver, ends-parted, none-open, first-open}
use Rattle.pac_inputs.proofs.script.held_up_to.Goals as goal

pub returns-then-place-entries : goal.returns-then-place-entries
returns-then-place-entries c =
    let entries = c.args.entries.now in
    let frame = c.args.frame in
    let point =
    IsPartitionPoint-from_clause (is_over frame) _ _ c.partition_point-place.ensures.partitioned (ends-parted entries frame c.requires)
    (λ a r q k. search rules) in
    let all : AllWithin (IsOver frame) entries 0 (length entries) = rw (← c.if-place-entries.true) point.0 in
    c.empty.ensures tt ∙ sym (none-open entries frame all)

pub returns : goal.returns
returns c =
    let entries = c.args.entries.now in
    let frame = c.args.frame in
    let point =
    IsPartitionPoint-from_clause (is_over frame) _ _ c.partition_point-place.ensures.partitioned (ends-parted entries frame c.requires)
    (λ a r q k. search rules) in
    let within : c.partition_point-place.result < length entries =
    omega (arith, c.partition_point-place.ensures.bound, c.if-place-entries.false) in
    sym (first-open entries frame c.partition_point-place.result _ within point.0 point.1)
