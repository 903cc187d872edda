-- For proofs: whether a step may be done.
use Rattle.std.specs.Prelude.{◌<◌, ◌≤◌, ℕ, Result, Ok, Err}
use Rattle.pac_board.specs.State.{latest}
use Rattle.pac_block.specs.declared.codes.HostFault.{HostFault}
use Rattle.pac_block.specs.declared.codes.HostFault.TheVariants.{TooLong, NoRoom}

abbrev pub MayStep : (time room : ℕ) → Result (Unit {0}) HostFault → Type 0
MayStep time room (Ok done) = (time < latest) × (2 ≤ room)
MayStep time room (Err TooLong) = latest ≤ time
MayStep time room (Err NoRoom) = (time < latest) × (room < 2)
MayStep time room (Err fault) = ⊥
