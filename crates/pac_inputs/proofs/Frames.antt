-- A script's table of last frames, and the lines that it stands for.
use Rattle.pac_inputs.proofs.Common.{HeldUntil, List, Rises, Stretch, [], ap, arith, cases_Bool, entry_stretches, get_or, held_after}
use Rattle.pac_inputs.proofs.Common.{held_up_to, inl, inr, le-ltb, length, lt-ltb, nat_le, nat_tests, refl, stretch_after, sub-one}
use Rattle.pac_inputs.proofs.Common.{total_frames, ℕ, ◌++◌, ◌+◌, ◌-◌, ◌<◌, ◌∷◌, ◌≡◌, ◌≤◌}

ends : (before : ℕ) (entry : HeldUntil) → before ≤ entry.end → before + (entry.end - before) ≡ entry.end
ends before entry h = omega (arith, h)

pub found-up-to : (before : ℕ) (entries : List HeldUntil) (frame : ℕ) → Rises before entries → before < frame
    → held_after before (entry_stretches before entries) frame ≡ held_up_to entries frame
found-up-to before [] frame h later = refl
found-up-to before (entry ∷ entries) frame (first, more) later =
    rw (ends before entry first, lt-ltb before frame later)
    (elim (cases_Bool (nat_le frame entry.end)) [
      | inl e ↦ rw e refl
      | inr e ↦ rw e (found-up-to entry.end entries frame more (grind (arith, nat_tests, e)))
    ])

pub nothing-first : (before : ℕ) (lines : List Stretch) → held_after before lines 0 ≡ 0
nothing-first before [] = refl
nothing-first before (line ∷ lines) = rw (le-ltb before 0 (omega arith)) (nothing-first (before + line.frames) lines)

-- an entry after others
pub entry-after : (before : ℕ) (entries : List HeldUntil) (entry : HeldUntil) → Rises before entries
    → entry_stretches before (entries ++ entry ∷ []) ≡ entry_stretches before entries
    ++ stretch_after (before + total_frames (entry_stretches before entries)) entry ∷ []
entry-after before [] entry h = ap (λ n. stretch_after n entry ∷ []) (none before)
  where
    none : (n : ℕ) → n ≡ n + 0
    none n = omega arith
entry-after before (first ∷ entries) entry (rises, more) =
    let rest = total_frames (entry_stretches first.end entries) in
    let same : first.end + rest ≡ before + ((first.end - before) + rest) = omega (arith, rises) in
    cc (entry-after first.end entries entry more, same)

pub rises-after : (before : ℕ) (entries : List HeldUntil) (entry : HeldUntil) → Rises before entries
    → before + total_frames (entry_stretches before entries) ≤ entry.end → Rises before (entries ++ entry ∷ [])
rises-after before [] entry h end = (omega arith, tt)
rises-after before (first ∷ entries) entry (rises, more) end = (rises, rises-after first.end entries entry more (omega (arith, rises)))

pub total-after : (lines : List Stretch) (line : Stretch) → total_frames (lines ++ line ∷ []) ≡ total_frames lines + line.frames
total-after [] line = omega arith
total-after (first ∷ lines) line = let more = total-after lines line in omega (arith, more)

-- the frames of a table's lines are those up to its last one's end
last-of : (before : ℕ) (first : HeldUntil) (entries : List HeldUntil) (d : HeldUntil) → Rises before (first ∷ entries)
    → before + total_frames (entry_stretches before (first ∷ entries)) ≡ (get_or (first ∷ entries) (length entries) d).end
last-of before first [] d (rises, more) = omega (arith, rises)
last-of before first (second ∷ entries) d (rises, more) = omega (arith, rises, last-of first.end second entries d more)

pub last-ends : (entries : List HeldUntil) (d : HeldUntil) → Rises 0 entries → 0 < length entries
    → total_frames (entry_stretches 0 entries) ≡ (get_or entries (length entries - 1) d).end
last-ends [] d h some = absurd (omega (arith, some))
last-ends (first ∷ entries) d h some = rw sub-one (omega (arith, last-of 0 first entries d h))

pub ruleset last_entries = (last-ends)

pub ruleset added_entries = (entry-after, rises-after, total-after)

pub ruleset held_entries = (found-up-to, nothing-first)
