use Rattle.std.proofs.Common.{◌≡◌, ◌-◌, ◌+◌, ◌∙◌, ap, take, drop, rules, arith}
use Rattle.std.proofs.lemmas.List.{places}
use Rattle.std.proofs.lemmas.Nat.{le_bytes_8}

pub returns : Rattle.pac_wave.proofs.settings.word.Goals.returns
returns c =
    let eight : c.args.place + 8 - c.args.place ≡ 8 = omega arith in
    le_bytes_8 _ _ (search (rules, places)) (search (rules, places)) c.from_le_bytes.ensures
    ∙ (c.copy_from_slice.ensures.after ∙ ap (λ n. take n (drop c.args.place c.args.registers.now)) eight)
