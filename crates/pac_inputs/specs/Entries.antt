-- For proofs: a script's lines by the last frame of each, as the table of them is kept.
use Rattle.std.specs.Prelude.{ℕ, ◌-◌, ◌≤◌, List, [], ◌∷◌, nat_le, if◌then◌else◌}
use Rattle.pac_inputs.specs.declared.line.Stretch.{Stretch}
use Rattle.pac_inputs.specs.declared.script.HeldUntil.{HeldUntil}
use Rattle.pac_inputs.specs.Inputs.{mask}

-- the line of an entry, after so many frames
abbrev pub stretch_after : ℕ → HeldUntil → Stretch
stretch_after before entry = record { frames = entry.end - before; inputs = entry.inputs }

-- the lines of these entries, after so many frames
abbrev pub entry_stretches : ℕ → List HeldUntil → List Stretch
entry_stretches before [] = []
entry_stretches before (entry ∷ entries) = stretch_after before entry ∷ entry_stretches entry.end entries

-- no line ends before the one that it follows
abbrev pub Rises : ℕ → List HeldUntil → Type 0
Rises before [] = Unit {0}
Rises before (entry ∷ entries) = (before ≤ entry.end) × Rises entry.end entries

-- the inputs of the first entry that ends with the frame or after it
abbrev pub held_up_to : List HeldUntil → ℕ → ℕ
held_up_to [] frame = 0
held_up_to (entry ∷ entries) frame = if nat_le frame entry.end then mask entry.inputs else held_up_to entries frame
