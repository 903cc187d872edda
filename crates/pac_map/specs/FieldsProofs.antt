-- For proofs: what proofs say of the definitions of Fields.antt.
use Rattle.pac_map.specs.declared.memory.fields.MemoryFields.{MemoryFields}
use Rattle.pac_map.specs.View.{HoldWhatTheyCan}
use Rattle.pac_latch.specs.Latched.{watchdog_limit}
use Rattle.std.specs.Prelude.{◌≤◌}

-- fields that a board can have: the registers of the wave generator hold what they can, and the watchdog's count is at most
-- the one at which it resets the board
pub record AreMemoryFields (fields : MemoryFields) : Type 0 where
  pub registers : HoldWhatTheyCan fields.registers
  pub count : fields.count ≤ watchdog_limit
