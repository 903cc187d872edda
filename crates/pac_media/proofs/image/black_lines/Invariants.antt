use Rattle.pac_media.proofs.Common.{replicate, tabulate, ◌≡◌}

abbrev pub invariant-loop : Rattle.pac_media.proofs.image.black_lines.Given.invariant-loop
invariant-loop l = l.lines.items ≡ tabulate l.counter (λ _. replicate 288 0)
