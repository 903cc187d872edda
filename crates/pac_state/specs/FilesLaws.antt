-- Law: what is proved of the definitions of Files.antt.
use Rattle.pac_board.specs.RomParts.{Parts}
use Rattle.std.specs.Prelude.{List, ℕ, Result, Ok, Err, ◌≡◌}
use Rattle.pac_board.specs.State.{BoardValue, BoardState}
use Rattle.pac_state.specs.declared.fault.LoadFault.{LoadFault}
use Rattle.pac_state.specs.Files.{IsFile, board_of_file, IsState}
use Rattle.pac_state.specs.Reading.{state_in}
use Rattle.pac_state.specs.Text.{save_text}
use Rattle.pac_state.specs.declared.fault.LoadRefused.{LoadRefused}
use Rattle.pac_state.specs.declared.fault.LoadFault.TheVariants.{NoMemory}

-- Exactly the files of a set are taken, where no memory is wanted, and the board is that of the file.
abbrev pub AcceptsFile : Parts → List ℕ → Result BoardValue LoadFault → Type 0
AcceptsFile set bytes (Ok board) = record {
  file : IsFile set bytes;
  board : (file : IsFile set bytes) → board ≡ board_of_file set file;
}
AcceptsFile set bytes (Err fault) = IsFile set bytes → ⊥

-- Reading a state back out of its text gives the state.
abbrev pub StatesAreReadBack : Type 0
StatesAreReadBack = (version : ℕ) (set : Parts) (state : BoardState) → IsState state → state_in (save_text version set state) ≡ state

-- Two states that have one text, with one set, are one state.
abbrev pub TextsTellStates : Type 0
TextsTellStates =
    (version : ℕ) (set : Parts) (one other : BoardState) → IsState one → IsState other
    → save_text version set one ≡ save_text version set other → one ≡ other

-- What was saved of a board gives a board with the same state, or there isn't the memory; the set comes back.
abbrev pub LoadsAgain : Parts → BoardValue → Result BoardValue LoadRefused → Type 0
LoadsAgain set old (Ok board) = board ≡ record { set = set; state = old.state; made = 0 }
LoadsAgain set old (Err refused) = record {
  same_set : refused.set ≡ set;
  fault : refused.fault ≡ NoMemory;
}
