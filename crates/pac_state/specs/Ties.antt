-- Law: two accounts of what is taken as a file, tied on a public function of the crate.
use Rattle.std.specs.Prelude.{◌<◌, ℕ, List, get_or, Ok, Err}
use Rattle.pac_board.specs.RomParts.{Parts}
use Rattle.pac_board.specs.State.{BoardValue}
use Rattle.pac_state.specs.declared.fault.LoadFault.{LoadFault}
use Rattle.pac_state.specs.FilesLaws.{AcceptsFile}
use Rattle.pac_state.specs.SavedLaws.{ReadsFile}

-- What is read of bytes, said by the fields that stand in them, is what is said by the files that there are: the same boards come of it,
-- and where there is a fault they are no file.
pub record IsReadAsFile (set : Parts) (bytes : List ℕ) : Type 0 where
  pub accepted : (board : BoardValue) → ReadsFile set bytes (Ok board) → AcceptsFile set bytes (Ok board)
  pub read : (board : BoardValue) → AcceptsFile set bytes (Ok board) → ReadsFile set bytes (Ok board)
  pub refused : (fault : LoadFault) → ReadsFile set bytes (Err fault) → AcceptsFile set bytes (Err fault)

abbrev pub ReadingIsAccepting : Type 0
ReadingIsAccepting = (set : Parts) (bytes : List ℕ) → ((i : ℕ) → get_or bytes i 0 < 256) → IsReadAsFile set bytes
