-- For proofs: what proofs say of the definitions of Saved.antt.
use Rattle.pac_board.specs.RomParts.{Parts}
use Rattle.std.specs.Prelude.{List, ℕ, Result, Ok, None, Err, ◌≡◌, ◌≢◌}
use Rattle.pac_board.specs.BoardFields.{Fields}
use Rattle.pac_board.specs.Fields.{state_of, AreBoardFields}
use Rattle.pac_board.specs.State.{BoardValue}
use Rattle.pac_state.specs.declared.fault.LoadRefused.{LoadRefused}
use Rattle.pac_state.specs.Saved.{load_fault, IsText, RefusesFile}
use Rattle.pac_roms_manifest.specs.Sets.{digest_of}
use Rattle.pac_state.specs.SavedLaws.{loaded_board}
use Rattle.pac_state.specs.declared.fault.LoadFault.{LoadFault}
use Rattle.pac_state.specs.Reading.{state_in}
use Rattle.pac_state.specs.declared.fault.LoadFault.TheVariants.{NoMemory}

-- the board of a file, or why there is none, with the set that was handed in
abbrev pub LoadsBoard : Parts → List ℕ → Result BoardValue LoadRefused → Type 0
LoadsBoard set bytes (Ok board) = record {
  sound : load_fault (digest_of set) bytes ≡ None;
  text : IsText bytes;
  board : board ≡ loaded_board set bytes;
}
LoadsBoard set bytes (Err refused) = record {
  same_set : refused.set ≡ set;
  fault : RefusesFile set bytes refused.fault;
}

-- the answer of a call that takes the set, by that of one to which it is lent
abbrev pub refused_with : Parts → Result BoardValue LoadFault → Result BoardValue LoadRefused
refused_with set (Ok board) = Ok board
refused_with set (Err fault) = Err (record { fault = fault; set = set })

-- the fields that stand in a file, or what is wrong with it
abbrev pub FindsFields : Parts → List ℕ → Result Fields LoadFault → Type 0
FindsFields set bytes (Ok fields) = record {
  sound : load_fault (digest_of set) bytes ≡ None;
  text : IsText bytes;
  state : state_of fields ≡ state_in bytes;
  in_range : AreBoardFields fields;
}
FindsFields set bytes (Err fault) = record {
  refuses : RefusesFile set bytes fault;
  of_file : fault ≢ NoMemory;
}
