use Rattle.pac_inputs.proofs.Common.{ap, arith, drop, is_comma_byte, more-parts, take_rest, ◌∙◌}

pub returns-in-len1-up-clause-more : Rattle.pac_inputs.proofs.line.first_name.Goals.returns-in-len1-up-clause-more
returns-in-len1-up-clause-more c =
    let rest = c.split_at.result.1.now in
    let back = c.split_at.ensures.back ∙ ap (λ n. drop n c.args.names.now) c.name_len.ensures.value in
    rw (take_rest rest 1, c.split_at.ensures.front, c.name_len.ensures.value)
    (more-parts is_comma_byte c.args.names.now rest back (omega (arith, c.in-len1-up.len_at_least)))
