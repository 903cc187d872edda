-- The map, if bytes of one are handed in.
use Rattle.pac_live.proofs.Common.{Some, ap, arith, length, nat_tests, refl, rules, sym, take_all, ◌∙◌, ◌≢◌}
use Rattle.pac_live.proofs.UntilEnds.{gone-same, some-map}
use Rattle.pac_live.proofs.live_until.go_by.Goals as goal

pub chunk-requires : goal.chunk-requires
chunk-requires c = search (rules, arith, some-map)

pub returns-then-is_empty : goal.returns-then-is_empty
returns-then-is_empty c = grind (arith, gone-same)

pub returns : goal.returns
returns c =
    let some : length c.args.watched.now ≢ 0 = grind (arith, nat_tests) in
    let map = some-map c.args.watched.now c.requires.map some in
    let whole = c.chunk.ensures ∙ take_all 65536 c.args.watched.now (omega arith) in
    gone-same (λ address. refl) (ap Some (c.new-watch.ensures.marks ∙ whole) ∙ sym map.1) refl c.go_told-2.ensures
