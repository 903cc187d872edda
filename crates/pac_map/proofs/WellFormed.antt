-- A view stays one that a board can have, at power-on and whatever happens to the board.
use Rattle.pac_map.proofs.Common.{BusPlace, Entry, IsWellFormed, List, View, Write, arith, get_or-set_at, get_or-set_other, get_or_past}
use Rattle.pac_map.proofs.Common.{kept_nibble, length, length-replicate, length-set, nat_tests, power_on_view, refl, rules, slice_index}
use Rattle.pac_map.proofs.Common.{slice_set, suc, view_after, view_after_write, zero, zero_ram, ℕ, ◌≡◌}

pub length-cleared : (count : ℕ) → length (zero_ram count) ≡ count
unfolding zero_ram
length-cleared count = length-replicate count 0

-- each cell of cleared RAM is 0
pub cleared-at : (count place : ℕ) → slice_index (zero_ram count) place ≡ 0
unfolding zero_ram
cleared-at zero place = refl
cleared-at (suc count) zero = refl
cleared-at (suc count) (suc place) = cleared-at count place

-- a register that holds 0, or what it holds already, keeps it
kept-zero : (register : ℕ) → kept_nibble register 0 ≡ 0
kept-zero register = search rules

pub kept-again : (register byte : ℕ) → kept_nibble register (kept_nibble register byte) ≡ kept_nibble register byte
kept-again register byte = search rules

pub power-on-well-formed : (switches : ℕ) → IsWellFormed (power_on_view switches)
power-on-well-formed switches = search (rules, length-cleared, cleared-at, kept-zero)

-- registers that hold what they can go on so when one is written
set-keeps : (registers : List ℕ) (register byte place : ℕ)
    → ((other : ℕ) → kept_nibble other (slice_index registers other) ≡ slice_index registers other)
    → let later = slice_set registers register (kept_nibble register byte) in
    kept_nibble place (slice_index later place) ≡ slice_index later place
set-keeps registers register byte place holds =
    grind (arith, nat_tests, get_or-set_at, get_or-set_other, get_or_past, length-set, kept-again, kept-zero, holds place)

written-well-formed : (view : View) (place : BusPlace) (byte : ℕ) → IsWellFormed view → IsWellFormed (view_after_write view place byte)
written-well-formed view place byte well = search (rules, length-set, set-keeps)

pub view-after-well-formed : (view : View) (entry : Entry) → IsWellFormed view → IsWellFormed (view_after view entry)
view-after-well-formed view (Write place byte) well = written-well-formed view place byte well
view-after-well-formed view entry well = search rules
