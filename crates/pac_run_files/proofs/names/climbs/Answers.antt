use Rattle.pac_run_files.proofs.Common.{Bool, None, Some, ap, arith, climbs, rules, slash, split_parts, sym, ◌||◌, ◌∙◌}
use Rattle.pac_run_files.proofs.NameParts.{climbs-split, climbs-none}
use Rattle.pac_run_files.proofs.names.climbs.Goals as goal

pub parts-preserved : goal.parts-preserved
parts-preserved c =
    let part = c.in-Some.part.now in
    let more = c.in-Some.more.now in
    let split = split_parts slash c.parts.rest.now (Some (c.in-Some.part, c.in-Some.more)) c.in-Some.ensures.cases (omega arith) in
    let stays = sym c.eq.ensures ∙ c.if-eq.false in (
      search rules,
      sym (ap climbs split.0 ∙ climbs-split part more split.1 ∙ ap (λ (fact : Bool). fact || climbs more) stays) ∙ c.parts.invariant.1,
    )

pub returns : goal.returns
returns c =
    let none = split_parts slash c.parts.rest.now None c.in_default.ensures.cases (omega arith) in
    c.eq-2.ensures ∙ sym (climbs-none c.parts.rest.now none) ∙ c.parts.invariant.1
