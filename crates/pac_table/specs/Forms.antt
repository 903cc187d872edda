-- Law: the forms in source against the codes: each operand fills a part that the code has, and each part of the code
-- is filled by one operand, or named by the mnemonic of a family.
use Rattle.std.specs.Prelude.{ℕ, ◌<◌, ◌+◌, ◌==◌, Bool, true, false, ◌&&◌, ◌||◌, if◌then◌else◌, IsTrue}
use Rattle.pac_table.specs.declared.patterns.Page.{Page}
use Rattle.pac_table.specs.declared.patterns.Page.TheVariants as page
use Rattle.pac_table.specs.declared.patterns.Field.{Field}
use Rattle.pac_table.specs.declared.patterns.Field.TheVariants as field
use Rattle.pac_table.specs.declared.patterns.Immediate.{Immediate}
use Rattle.pac_table.specs.declared.patterns.Immediate.TheVariants as immediate
use Rattle.pac_table.specs.declared.patterns.Pattern.{Pattern}
use Rattle.pac_table.specs.declared.operands.Name.{Name}
use Rattle.pac_table.specs.declared.operands.Name.TheVariants as name
use Rattle.pac_table.specs.declared.operands.NameList.{NameList}
use Rattle.pac_table.specs.declared.operands.NameList.TheVariants as list
use Rattle.pac_table.specs.declared.operands.NumberKind.{NumberKind}
use Rattle.pac_table.specs.declared.operands.NumberKind.TheVariants as kind
use Rattle.pac_table.specs.declared.operands.Shape.{Shape}
use Rattle.pac_table.specs.declared.operands.Shape.TheVariants.{Named, AtName, FirstField, SecondField, Indexed, Number, AtNumber}
use Rattle.pac_table.specs.declared.table.Row.{Row}
use Rattle.pac_table.specs.Mnemonics.{is_family}
use Rattle.pac_table.specs.Instructions.{row_count, row_at}

abbrev pub is_register : Field → Bool
is_register field.RegisterHigh = true
is_register field.RegisterLow = true
is_register _ = false

abbrev pub is_pair : Field → Bool
is_pair field.Pair = true
is_pair _ = false

abbrev pub is_stack_pair : Field → Bool
is_stack_pair field.StackPair = true
is_stack_pair _ = false

abbrev pub is_index_pair : Field → Bool
is_index_pair field.IndexPair = true
is_index_pair _ = false

abbrev pub is_condition : Field → Bool
is_condition field.Condition = true
is_condition _ = false

abbrev pub is_relative_condition : Field → Bool
is_relative_condition field.RelativeCondition = true
is_relative_condition _ = false

abbrev pub is_bit_number : Field → Bool
is_bit_number field.BitNumber = true
is_bit_number _ = false

abbrev pub is_restart_place : Field → Bool
is_restart_place field.RestartPlace = true
is_restart_place _ = false

abbrev pub is_present : Field → Bool
is_present field.Absent = false
is_present _ = true

abbrev pub is_alu_operation : Field → Bool
is_alu_operation field.AluOperation = true
is_alu_operation _ = false

abbrev pub is_shift_operation : Field → Bool
is_shift_operation field.ShiftOperation = true
is_shift_operation _ = false

-- whether n, nn, e or d follows the opcode byte
abbrev pub has_byte : Immediate → Bool
has_byte immediate.Byte = true
has_byte immediate.DisplacementByte = true
has_byte _ = false

abbrev pub has_word : Immediate → Bool
has_word immediate.Word = true
has_word _ = false

abbrev pub has_distance : Immediate → Bool
has_distance immediate.Relative = true
has_distance _ = false

abbrev pub has_displacement : Immediate → Bool
has_displacement immediate.Displacement = true
has_displacement immediate.DisplacementByte = true
has_displacement _ = false

-- whether a page is that of IX, or of IY
abbrev pub is_of_ix : Page → Bool
is_of_ix page.Dd = true
is_of_ix page.DdCb = true
is_of_ix _ = false

abbrev pub is_of_iy : Page → Bool
is_of_iy page.Fd = true
is_of_iy page.FdCb = true
is_of_iy _ = false

-- whether a field lists these names
abbrev pub is_field_of : NameList → Field → Bool
is_field_of list.Registers some = is_register some
is_field_of list.Pairs some = is_pair some
is_field_of list.StackPairs some = is_stack_pair some
is_field_of list.PairsWithIx some = is_index_pair some
is_field_of list.PairsWithIy some = is_index_pair some
is_field_of list.Conditions some = is_condition some
is_field_of list.RelativeConditions some = is_relative_condition some

-- whether a name, or a list of names, is written on a page: IX on its own alone, and IY on its own
abbrev pub is_written_on : Page → Name → Bool
is_written_on some name.Ix = is_of_ix some
is_written_on some name.Iy = is_of_iy some
is_written_on some _ = true

abbrev pub is_listed_on : Page → NameList → Bool
is_listed_on some list.PairsWithIx = is_of_ix some
is_listed_on some list.PairsWithIy = is_of_iy some
is_listed_on some _ = true

-- whether the code has a part for a number
abbrev pub has_number : Pattern → NumberKind → Bool
has_number pattern kind.Byte = has_byte pattern.immediate
has_number pattern kind.Word = has_word pattern.immediate
has_number pattern kind.Target = has_distance pattern.immediate
has_number pattern kind.Bit = is_bit_number pattern.first
has_number pattern kind.Restart = is_restart_place pattern.first
has_number pattern (kind.Mode mode) = true

-- whether the code has the part that an operand fills, and the prefix that the operand means
abbrev pub fits_code : Pattern → Shape → Bool
fits_code pattern (Named some) = is_written_on pattern.page some
fits_code pattern (AtName some) = is_written_on pattern.page some
fits_code pattern (Indexed some) = is_written_on pattern.page some && has_displacement pattern.immediate
fits_code pattern (FirstField names) = is_listed_on pattern.page names && is_field_of names pattern.first
fits_code pattern (SecondField names) = is_listed_on pattern.page names && is_field_of names pattern.second
fits_code pattern (Number some) = has_number pattern some
fits_code pattern (AtNumber some) = has_number pattern some
fits_code pattern _ = true

-- whether an operand fills the first field, the second, n or nn, or e or d
abbrev pub fills_first : Shape → Bool
fills_first (FirstField names) = true
fills_first (Number kind.Bit) = true
fills_first (Number kind.Restart) = true
fills_first _ = false

abbrev pub fills_second : Shape → Bool
fills_second (SecondField names) = true
fills_second _ = false

abbrev pub fills_word : Shape → Bool
fills_word (Number kind.Byte) = true
fills_word (Number kind.Word) = true
fills_word (AtNumber kind.Byte) = true
fills_word (AtNumber kind.Word) = true
fills_word _ = false

abbrev pub fills_displacement : Shape → Bool
fills_displacement (Number kind.Target) = true
fills_displacement (Indexed some) = true
fills_displacement _ = false

abbrev pub one_if : Bool → ℕ
one_if test = if test then 1 else 0

-- how many operands of a form fill a part
abbrev pub filler_count : Row → (Shape → Bool) → ℕ
filler_count row fills = one_if (fills row.operands.first) + one_if (fills row.operands.second)

-- whether the form of a row fills its code, each part once
abbrev pub fills_code : Row → Bool
fills_code row =
    let pattern = row.pattern in
    let family = is_family row.operands.mnemonic in
    fits_code pattern row.operands.first && fits_code pattern row.operands.second &&
    one_if family == one_if (is_alu_operation pattern.first || is_shift_operation pattern.first) &&
    filler_count row fills_first + one_if family == one_if (is_present pattern.first) &&
    filler_count row fills_second == one_if (is_present pattern.second) &&
    filler_count row fills_word == one_if (has_byte pattern.immediate || has_word pattern.immediate) &&
    filler_count row fills_displacement == one_if (has_distance pattern.immediate || has_displacement pattern.immediate)

abbrev pub FillsCodes : Type 0
FillsCodes = (row : ℕ) → row < row_count → IsTrue (fills_code (row_at row))
