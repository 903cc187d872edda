use Rattle.pac_debug.proofs.Common.{drop, length, take, told_lines, ◌-◌, ◌≡◌}

abbrev pub invariant-loop-place : Rattle.pac_debug.proofs.past.last_steps.Given.invariant-loop-place
invariant-loop-place l = (length l.steps ≡ 256) × (take l.place l.steps ≡ take l.place (drop (l.told - l.shown) (told_lines l.fn.session)))
