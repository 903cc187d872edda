-- For proofs: lines whose bytes lie apart, as a layout keeps them.
use Rattle.std.specs.Prelude.{◌≡◌, ℕ, ◌+◌, ◌≤◌, Bool, false, List, [], ◌∷◌, ◌++◌, map}
use Rattle.std.specs.List.{range_with_len}
use Rattle.pac_asm_program.specs.Programs.{rom_size}
use Rattle.pac_asm.specs.declared.place.Span.{Span}
use Rattle.pac_asm.specs.declared.place.LineLayout.{LineLayout}
use Rattle.pac_asm.specs.declared.place.LineLayout.TheVariants.{Blank, Skipped, Placed}
use Rattle.pac_asm.specs.Standings.{is_taken, overlaps}

-- The bytes of a span lie in the ROM, and none of these lines has one of them.
pub record IsFree (above : List LineLayout) (span : Span) : Type 0 where
  pub inside : span.at + span.size ≤ rom_size
  pub apart : overlaps above span ≡ false

abbrev pub IsFreePlace : List LineLayout → LineLayout → Type 0
IsFreePlace above Blank = Unit {0}
IsFreePlace above Skipped = Unit {0}
IsFreePlace above (Placed span) = IsFree above span

-- each of the places below lies apart from all before it
abbrev pub ArePlacesApart : List LineLayout → List LineLayout → Type 0
ArePlacesApart above [] = Unit {0}
ArePlacesApart above (place ∷ below) = IsFreePlace above place × ArePlacesApart (above ++ place ∷ []) below

-- for each address below a limit, whether one of these lines has a byte there
unfoldable pub cells_below : ℕ → List LineLayout → List Bool
cells_below limit places = map (is_taken places) (range_with_len 0 limit)

-- what a layout keeps: its places lie apart, and these are the cells that they take
pub record IsLaidOut (places : List LineLayout) (taken : List Bool) : Type 0 where
  pub apart : ArePlacesApart [] places
  pub cells : taken ≡ cells_below rom_size places
