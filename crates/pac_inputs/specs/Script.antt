-- Believed: what a script says: so many frames with so many inputs held, line by line, and its first fault (this
-- profile).
use Rattle.std.specs.Prelude.{ℕ, ◌+◌, ◌==◌, List, [], ◌∷◌, ◌++◌}
use Rattle.std.specs.Prelude.{Option, Some, None, ok_or, Result, Ok, Err, nat_lt, if◌then◌else◌}
use Rattle.std.specs.Str.Lines.{lines}
use Rattle.pac_lex.specs.Results.{◌>>=◌}
use Rattle.pac_lex.specs.Tokens.{begins}
use Rattle.pac_lex.specs.Words.{words_of_line}
use Rattle.pac_inputs.specs.declared.fault.ScriptCode.{ScriptCode}
use Rattle.pac_inputs.specs.declared.fault.ScriptCode.TheVariants.{Names, Count, Length}
use Rattle.pac_inputs.specs.declared.fault.ScriptFault.{ScriptFault}
use Rattle.pac_inputs.specs.declared.line.Stretch.{Stretch}
use Rattle.pac_inputs.specs.Inputs.{inputs_of}
use Rattle.pac_inputs.specs.Stretches.{total_frames, most_frames}
use Rattle.pac_inputs.specs.Words.{frame_count, inputs_named}

-- ---- one line

-- the inputs of the words after the count: of the one that there has to be
abbrev pub only_inputs : List (List ℕ) → Option ℕ
only_inputs (word ∷ []) = inputs_named word
only_inputs after = None

abbrev pub meaning_with_count : List ℕ → List (List ℕ) → Result (Option Stretch) ScriptCode
meaning_with_count word after = do
  count ← ok_or (frame_count word) Count
  held ← ok_or (only_inputs after) Names
  Ok (Some (record { frames = count; inputs = inputs_of held }))

-- the first word of a comment begins with `#`
abbrev pub meaning_of_words : List (List ℕ) → Result (Option Stretch) ScriptCode
meaning_of_words [] = Ok None
meaning_of_words (word ∷ after) = if begins (λ b. b == 35) word then Ok None else meaning_with_count word after

-- What a line says by itself: nothing, where it has no word or is a comment; so many frames with these
-- inputs held; or a fault.
unfoldable pub meaning : List ℕ → Result (Option Stretch) ScriptCode
meaning line = meaning_of_words (words_of_line line)

-- ---- all lines

abbrev pub with_meaning : List Stretch → Result (Option Stretch) ScriptCode → Result (List Stretch) ScriptCode
with_meaning before (Err code) = Err code
with_meaning before (Ok None) = Ok before
with_meaning before (Ok (Some line)) =
    if nat_lt most_frames (total_frames before + line.frames) then Err Length else Ok (before ++ line ∷ [])

-- what a line and those before it say together
abbrev pub with_line : List Stretch → List ℕ → Result (List Stretch) ScriptCode
with_line before line = with_meaning before (meaning line)

abbrev pub with_line_number : ℕ → Result (List Stretch) ScriptCode → Result (List Stretch) ScriptFault
with_line_number number (Ok lines) = Ok lines
with_line_number number (Err code) = Err (record { code = code; line = number })

-- What the lines from this number on, and those before them, say together; or the first fault.
unfoldable pub script_from_line : ℕ → List Stretch → List (List ℕ) → Result (List Stretch) ScriptFault
script_from_line number before [] = Ok before
script_from_line number before (line ∷ lines) =
    with_line_number number (with_line before line) >>= λ after. script_from_line (number + 1) after lines

-- the script of a text, or the text's first fault
abbrev pub script_of : List ℕ → Result (List Stretch) ScriptFault
script_of text = script_from_line 1 [] (lines text)

-- ---- scripts and faults, as what holds of the lines
