-- Believed: what the lines above leave to a line in the first phase, and where its bytes may stand.
use Rattle.std.specs.Prelude.{ℕ, ℤ, pos, negsuc, ◌+◌, Bool, true, false, ◌&&◌, List, [], nat_lt, nat_le, Option, Some, None}
use Rattle.std.specs.Prelude.{is_none, Result, Ok, Err, if◌then◌else◌}
use Rattle.std.specs.List.{list_any, range_with_len}
use Rattle.pac_expr.specs.Trees.{Tree}
use Rattle.pac_expr.specs.Values.{ValueResult, tree_value}
use Rattle.pac_expr.specs.declared.evaluation.ValueError.TheVariants as values
use Rattle.pac_asm_program.specs.Names.{Symbol, number_of_symbol, with_symbol}
use Rattle.pac_asm_program.specs.Programs.{rom_size}
use Rattle.pac_asm.specs.declared.condition.IfState.{IfState}
use Rattle.pac_asm.specs.declared.place.Span.{Span}
use Rattle.pac_asm.specs.declared.place.LineLayout.{LineLayout}
use Rattle.pac_asm.specs.declared.place.LineLayout.TheVariants.{Placed}
use Rattle.pac_asm.specs.declared.fault.AsmCode.{AsmCode}
use Rattle.pac_asm.specs.declared.fault.AsmCode.TheVariants.{NotDefinedAbove, OutsideRom, Overlap, Arithmetic}

-- the address reached, the names defined in their order, what became of each line, and the open IFs, the innermost first
pub record Standing : Type 0 where
  pub at : ℕ
  pub symbols : List Symbol
  pub places : List LineLayout
  pub conditions : List IfState

-- before the first line
abbrev pub first_standing : Standing
first_standing = record { at = 0; symbols = []; places = []; conditions = [] }

-- ---- expressions whose value the first phase needs

-- A4 and A10: a name that isn't defined above, and then arithmetic
abbrev pub value_above : ValueResult → Result ℤ AsmCode
value_above (Ok number) = Ok number
value_above (Err values.Undefined) = Err NotDefinedAbove
value_above (Err values.OutOfRange) = Err Arithmetic
value_above (Err values.DivisionByZero) = Err Arithmetic

-- `$` is the address of the line
abbrev pub known_value : Standing → Tree → Result ℤ AsmCode
known_value above tree = value_above (tree_value (number_of_symbol above.symbols) above.at tree)

-- A5: an address, or a count of bytes, from 0 to 4000H
abbrev pub within_rom : ℤ → Result ℕ AsmCode
within_rom (pos number) = if nat_le number rom_size then Ok number else Err OutsideRom
within_rom (negsuc number) = Err OutsideRom

-- ---- labels

-- whether a line may have this label: no line above defines the name
abbrev pub is_new : List Symbol → Option (List ℕ) → Bool
is_new symbols None = true
is_new symbols (Some name) = is_none (number_of_symbol symbols name)

abbrev pub with_label : List Symbol → Option (List ℕ) → ℤ → List Symbol
with_label symbols None number = symbols
with_label symbols (Some name) number = with_symbol symbols name number

-- ---- bytes

abbrev pub span_covers : Span → ℕ → Bool
span_covers span cell = nat_le span.at cell && nat_lt cell (span.at + span.size)

abbrev pub place_covers : ℕ → LineLayout → Bool
place_covers cell (Placed span) = span_covers span cell
place_covers cell _ = false

-- whether one of these lines has a byte at an address
abbrev pub is_taken : List LineLayout → ℕ → Bool
is_taken places cell = list_any (place_covers cell) places

-- whether one of these lines has a byte where a span has one
abbrev pub overlaps : List LineLayout → Span → Bool
overlaps places span = list_any (is_taken places) (range_with_len span.at span.size)

-- A5 and A6: so many bytes at the address reached; none at all may stand at 4000H too
abbrev pub room_for : Standing → ℕ → Result Span AsmCode
room_for above size =
    let span : Span = record { at = above.at; size = size } in
    if nat_lt rom_size (above.at + size) then Err OutsideRom
    else (if overlaps above.places span then Err Overlap else Ok span)
