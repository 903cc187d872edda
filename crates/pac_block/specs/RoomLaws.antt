-- Law: room for samples over lists of calls, proved on a public function of the crate.
use Rattle.std.specs.Prelude.{◌≡◌, ◌≤◌, ⊤, ℕ, ℤ, ◌+◌, ◌*◌, ◌/◌, List, [], ◌∷◌}
use Rattle.pac_state.specs.Reading.{state_in}
use Rattle.pac_block.specs.declared.codes.HostFault.TheVariants.{NoRoom}
use Rattle.pac_block.specs.Host.{most_samples, room_of, ExecFails}
use Rattle.pac_block.specs.HostLaws.{HostCall, PowerOn, TakeFile, IsCallDone}

-- calls were done one after another, each with ROMs of its own
abbrev pub AreDoneOver : (calls : List (List ℕ × HostCall)) → (old new : List ℕ) → Type 0
AreDoneOver [] old new = new ≡ old
AreDoneOver (call ∷ calls) old new = (between : List ℕ) × IsCallDone call.0 call.1 old between × AreDoneOver calls between new

-- none of them takes a state file
abbrev pub TakesNoFile : HostCall → Type 0
TakesNoFile (TakeFile text) = ⊥
TakesNoFile call = ⊤

abbrev pub NoneTakesAFile : List (List ℕ × HostCall) → Type 0
NoneTakesAFile [] = ⊤
NoneTakesAFile (call ∷ calls) = TakesNoFile call.1 × NoneTakesAFile calls

-- A buffer has the room that a call for so many microseconds needs, and no such call is refused for want of it, whatever ROMs it has.
pub record HasRoomFor (block : List ℕ) (microseconds : ℕ) (samples : List ℤ) : Type 0 where
  pub room : most_samples (state_in block) microseconds ≤ room_of samples
  pub done : (roms : List ℕ) → ExecFails roms block microseconds samples NoRoom → ⊥

-- After power-on, and whatever calls came since but those that take a state file, room for 12 samples for each 125 microseconds and two
-- more is enough.
abbrev pub RoomIsEnough : Type 0
RoomIsEnough =
    (roms : List ℕ) (switches : ℕ) (calls : List (List ℕ × HostCall)) (old block : List ℕ) (microseconds : ℕ) (samples : List ℤ)
    → AreDoneOver ((roms, PowerOn switches) ∷ calls) old block → NoneTakesAFile calls
    → microseconds * 12 / 125 + 2 ≤ room_of samples → HasRoomFor block microseconds samples
