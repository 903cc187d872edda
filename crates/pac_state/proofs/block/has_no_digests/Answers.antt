use Rattle.pac_state.proofs.Common.{bytes_at_place, bytes_eq-Decides, no_digest, rules, sym, ◌∙◌, ◌≡◌}

pub returns-then-eq : Rattle.pac_state.proofs.block.has_no_digests.Goals.returns-then-eq
returns-then-eq c =
    let first = bytes_eq-Decides no_digest c.part.result.now in
    let second = bytes_eq-Decides no_digest c.part-then-eq.result.now in
    let set : no_digest ≡ bytes_at_place 10 20 c.args.block.now = first.0 (sym c.eq.ensures ∙ c.if-eq.true) ∙ c.part.ensures in search rules
