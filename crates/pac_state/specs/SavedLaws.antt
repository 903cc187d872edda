-- Law: what is proved of the definitions of Saved.antt.
use Rattle.pac_board.specs.RomParts.{Parts}
use Rattle.std.specs.Prelude.{List, ℕ, Result, Ok, None, Err, ◌≡◌, ◌≢◌}
use Rattle.pac_board.specs.State.{BoardValue}
use Rattle.pac_state.specs.Saved.{upgraded_board, version_in, load_fault, IsText, RefusesFile}
use Rattle.pac_state.specs.Reading.{state_in}
use Rattle.pac_state.specs.declared.fault.LoadFault.{LoadFault}
use Rattle.pac_roms_manifest.specs.Sets.{digest_of}
use Rattle.pac_state.specs.declared.fault.LoadFault.TheVariants.{NoMemory}

abbrev pub loaded_board : Parts → List ℕ → BoardValue
loaded_board set bytes = upgraded_board (version_in bytes) (record { set = set; state = state_in bytes; made = 0 })

-- the board of a file, or what is wrong with the file, where the set is lent and no memory is wanted
abbrev pub ReadsFile : Parts → List ℕ → Result BoardValue LoadFault → Type 0
ReadsFile set bytes (Ok board) = record {
  sound : load_fault (digest_of set) bytes ≡ None;
  text : IsText bytes;
  board : board ≡ loaded_board set bytes;
}
ReadsFile set bytes (Err fault) = record {
  refuses : RefusesFile set bytes fault;
  of_file : fault ≢ NoMemory;
}
