-- Believed: what a script says of each frame. Its lines follow one another, and frames count from 1.
use Rattle.std.specs.Prelude.{ℕ, ◌+◌, ◌&&◌, List, [], ◌∷◌, nat_lt, nat_le, if◌then◌else◌}
use Rattle.pac_inputs.specs.declared.line.Stretch.{Stretch}
use Rattle.pac_inputs.specs.Inputs.{mask}

-- the most frames that a script may have (this profile)
abbrev pub most_frames : ℕ
most_frames = 36000

-- the frames of a script
abbrev pub total_frames : List Stretch → ℕ
total_frames [] = 0
total_frames (line ∷ lines) = line.frames + total_frames lines

-- The inputs of the line that covers a frame, of lines with so many frames before them: the frame comes
-- after those, and is one of the line's own. Where no line covers it, nothing is held.
abbrev pub held_after : ℕ → List Stretch → ℕ → ℕ
held_after before [] frame = 0
held_after before (line ∷ lines) frame =
    if nat_lt before frame && nat_le frame (before + line.frames) then mask line.inputs
    else held_after (before + line.frames) lines frame

-- the inputs held in a frame
abbrev pub held : List Stretch → ℕ → ℕ
held lines frame = held_after 0 lines frame
