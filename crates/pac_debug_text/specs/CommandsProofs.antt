-- For proofs: what proofs say of the definitions of Commands.antt.
use Rattle.pac_debug_text.specs.declared.command.Command.TheVariants as commands
use Rattle.std.specs.Prelude.{ℕ, ◌≤◌, ⊤}
use Rattle.pac_debug_text.specs.declared.command.Command.{Command}
use Rattle.pac_debug_text.specs.Commands.{most_steps, most_command_frames, most_shown}

-- the ranges of a command's numbers
abbrev pub IsWithin : ℕ → ℕ → Type 0
IsWithin most n = (1 ≤ n) × (n ≤ most)

abbrev pub IsCommandInRange : Command → Type 0
IsCommandInRange (commands.Step n) = IsWithin most_steps n
IsCommandInRange (commands.Frames n) = IsWithin most_command_frames n
IsCommandInRange (commands.Back n) = IsWithin most_steps n
IsCommandInRange (commands.Mem at count) = IsWithin most_shown count
IsCommandInRange (commands.Dis at count) = IsWithin most_shown count
IsCommandInRange (commands.History n) = IsWithin most_shown n
IsCommandInRange others = ⊤
