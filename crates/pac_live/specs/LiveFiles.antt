-- Believed: state files of a live board.
use Rattle.std.specs.Prelude.{◌≡◌, ◌≢◌, ℕ, List, length, Ok, Err}
use Rattle.pac_board.specs.State.{BoardValue}
use Rattle.pac_state.specs.declared.fault.LoadFault.TheVariants.{NoMemory}
use Rattle.pac_state.specs.Files.{IsFile, board_of_file}
use Rattle.pac_state.specs.Saved.{RefusesFile, file_size}
use Rattle.pac_state.specs.Text.{save_text, written_version}
use Rattle.pac_block.specs.declared.codes.HostFault.TheVariants.{WrongLength, NoFile}
use Rattle.pac_live.specs.Live.{BoardCall}

-- the state file of the board, of the version that is written
abbrev pub Saving : (text text_after : List ℕ) → BoardCall
Saving text text_after (Ok done) old new =
    (length text ≡ file_size) × (text_after ≡ save_text written_version old.set old.state) × (new ≡ old)
Saving text text_after (Err WrongLength) old new = (length text ≢ file_size) × (new ≡ old) × (text_after ≡ text)
Saving text text_after (Err fault) old new = ⊥

-- the board of a state file of its ROMs, which goes on counting its steps
pub record HasTakenFile (text : List ℕ) (old new : BoardValue) : Type 0 where
  pub file : IsFile old.set text
  pub board : new ≡ record (board_of_file old.set file) { made = old.made }

abbrev pub Loading : (text : List ℕ) → BoardCall
Loading text (Ok done) old new = HasTakenFile text old new
Loading text (Err (NoFile fault)) old new =
    RefusesFile old.set text fault × (fault ≢ NoMemory) × (IsFile old.set text → ⊥) × (new ≡ old)
Loading text (Err fault) old new = ⊥
