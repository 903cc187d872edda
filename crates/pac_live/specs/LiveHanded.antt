-- For proofs: what is asked of a live board's handle before its board is reached.
use Rattle.std.specs.Prelude.{◌≡◌, ◌≢◌, ◌≤◌, List, ℕ, length, Result, Ok, Err}
use Rattle.pac_block.specs.declared.codes.HostFault.{HostFault}
use Rattle.pac_block.specs.declared.codes.HostFault.TheVariants.{Closed}
use Rattle.pac_live.specs.declared.live.PacLive.{PacLive}
use Rattle.pac_block.specs.Host.{roms_size}
use Rattle.pac_live.specs.Live.{OpenFails}
use Rattle.pac_live.specs.LiveMemory.{live_seal, live_size}

-- whether a handle is open
abbrev pub IsOpenOr : PacLive → Result (Unit {0}) HostFault → Type 0
IsOpenOr live (Ok done) = live.seal ≡ live_seal
IsOpenOr live (Err fault) = (live.seal ≢ live_seal) × (fault ≡ Closed)

-- it isn't any more
pub record IsMadeClosed (old new : PacLive) : Type 0 where
  pub closed : new.seal ≢ live_seal
  pub handle : new ≡ record old { seal = new.seal }

-- whether a board may be opened in its memory, with these ROMs
abbrev pub MayOpen : (roms : List ℕ) → PacLive → Result (Unit {0}) HostFault → Type 0
MayOpen roms live (Ok done) = (length roms ≡ roms_size) × (live_size ≤ live.size)
MayOpen roms live (Err fault) = OpenFails roms live fault
