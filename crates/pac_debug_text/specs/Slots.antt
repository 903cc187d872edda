-- Believed: the four slots of a session (this profile).
use Rattle.std.specs.Prelude.{ℕ}
use Rattle.pac_debug_text.specs.declared.slot.Slot.{Slot}
use Rattle.pac_debug_text.specs.declared.slot.Slot.TheVariants.{First, Second, Third, Fourth}

-- the place of a slot among the four, from 0
abbrev pub slot_index : Slot → ℕ
slot_index First = 0
slot_index Second = 1
slot_index Third = 2
slot_index Fourth = 3
