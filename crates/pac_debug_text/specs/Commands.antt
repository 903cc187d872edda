-- Believed: the commands of the debugger, and how a line tells one (this profile).
use Rattle.std.specs.Prelude.{ℕ, ◌==◌, List, [], ◌∷◌, codes, Option, Some, None, Result, Ok, Err, option_map, option_and_then}
use Rattle.std.specs.Prelude.{if◌then◌else◌}
use Rattle.std.specs.Map.{lookup}
use Rattle.std.specs.Str.{bytes_eq}
use Rattle.pac_lex.specs.Words.{words_of_line}
use Rattle.pac_debug_text.specs.declared.command.Command.{Command}
use Rattle.pac_debug_text.specs.declared.command.Command.TheVariants as commands
use Rattle.pac_debug_text.specs.declared.command.NoCommand.{NoCommand}
use Rattle.pac_debug_text.specs.declared.slot.Slot.{Slot}
use Rattle.pac_debug_text.specs.declared.slot.Slot.TheVariants.{First, Second, Third, Fourth}
use Rattle.pac_debug_text.specs.declared.verb.Verb.{Verb}
use Rattle.pac_debug_text.specs.declared.verb.Verb.TheVariants as verbs
use Rattle.pac_debug_text.specs.Numbers.{number_within, address_of}

-- the name of each command
abbrev pub verb_names : List (List ℕ × Verb)
verb_names =
    (codes "step", verbs.Step) ∷ (codes "continue", verbs.Continue) ∷ (codes "frames", verbs.Frames) ∷ (codes "back", verbs.Back)
    ∷ (codes "return", verbs.Return) ∷ (codes "keep", verbs.Keep) ∷ (codes "break", verbs.Break) ∷ (codes "unbreak", verbs.Unbreak)
    ∷ (codes "regs", verbs.Regs) ∷ (codes "mem", verbs.Mem) ∷ (codes "dis", verbs.Dis) ∷ (codes "history", verbs.History) ∷ []

unfoldable pub verb_of : List ℕ → Option Verb
verb_of word = lookup (bytes_eq word) verb_names

-- the greatest numbers of steps, of frames, and of bytes, instructions and lines
abbrev pub most_steps : ℕ
most_steps = 1000000

abbrev pub most_command_frames : ℕ
most_command_frames = 36000

abbrev pub most_shown : ℕ
most_shown = 256

-- a slot by its number
abbrev pub slot_at : ℕ → Slot
slot_at n = if n == 1 then First else if n == 2 then Second else if n == 3 then Third else Fourth

abbrev pub slot_of : List ℕ → Option Slot
slot_of word = option_map slot_at (number_within 4 word)

-- what the only word says, if there is one word; nothing, if there is none; and what an address and a count say
abbrev pub single_word : {A : Type 0} → (List ℕ → Option A) → List (List ℕ) → Option A
single_word read (word ∷ []) = read word
single_word read others = None

abbrev pub without_words : Command → List (List ℕ) → Option Command
without_words command [] = Some command
without_words command others = None

abbrev pub address_and_count : List (List ℕ) → Option (ℕ × ℕ)
address_and_count (first ∷ second ∷ []) =
    option_and_then (λ at. option_map (λ count. (at, count)) (number_within most_shown second)) (address_of first)
address_and_count others = None

-- the command of a name and the words after it
abbrev pub command_named : Verb → List (List ℕ) → Option Command
command_named verbs.Step operands = option_map commands.Step (single_word (number_within most_steps) operands)
command_named verbs.Continue operands = without_words commands.Continue operands
command_named verbs.Frames operands = option_map commands.Frames (single_word (number_within most_command_frames) operands)
command_named verbs.Back operands = option_map commands.Back (single_word (number_within most_steps) operands)
command_named verbs.Return operands = option_map commands.Return (single_word slot_of operands)
command_named verbs.Keep operands = option_map commands.Keep (single_word slot_of operands)
command_named verbs.Break operands = option_map commands.Break (single_word address_of operands)
command_named verbs.Unbreak operands = option_map commands.Unbreak (single_word address_of operands)
command_named verbs.Regs operands = without_words commands.Regs operands
command_named verbs.Mem operands = option_map (λ found. commands.Mem found.0 found.1) (address_and_count operands)
command_named verbs.Dis operands = option_map (λ found. commands.Dis found.0 found.1) (address_and_count operands)
command_named verbs.History operands = option_map commands.History (single_word (number_within most_shown) operands)

-- the command of a line's words; a line without words tells none and is no fault
abbrev pub command_result : Option Command → Result Command NoCommand
command_result None = Err (record {})
command_result (Some command) = Ok command

abbrev pub command_of_words : List (List ℕ) → Option (Result Command NoCommand)
command_of_words [] = None
command_of_words (name ∷ operands) = Some (command_result (option_and_then (λ verb. command_named verb operands) (verb_of name)))

unfoldable pub command_of : List ℕ → Option (Result Command NoCommand)
command_of line = command_of_words (words_of_line line)
