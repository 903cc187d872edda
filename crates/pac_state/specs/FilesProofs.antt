-- For proofs: what proofs say of the definitions of Files.antt.
use Rattle.pac_board.specs.RomParts.{Parts}
use Rattle.std.specs.Prelude.{List, ℕ, Result, Ok, Err, ◌≡◌}
use Rattle.pac_board.specs.State.{BoardValue}
use Rattle.pac_state.specs.declared.fault.LoadRefused.{LoadRefused}
use Rattle.pac_state.specs.Files.{IsFile, board_of_file}
use Rattle.pac_state.specs.declared.fault.LoadFault.TheVariants.{NoMemory}

-- Exactly the files of a set are taken, want of memory apart, and the board is that of the file, whichever state and version
-- it is said to be the text of.
abbrev pub Accepts : Parts → List ℕ → Result BoardValue LoadRefused → Type 0
Accepts set bytes (Ok board) = record {
  file : IsFile set bytes;
  board : (file : IsFile set bytes) → board ≡ board_of_file set file;
}
Accepts set bytes (Err refused) = IsFile set bytes → refused.fault ≡ NoMemory
