-- Believed: the notation of the instruction table, which is the manual's (Zilog Z80 CPU User Manual UM0080, "Z80 Instruction
-- Description"): how a form in source and a code in letters are read.
use Prim.Native.String.{String}
use Rattle.std.specs.Prelude.{ℕ, ◌+◌, ◌*◌, ◌==◌, ◌||◌, not, nat_eq, if◌then◌else◌, codes, bytes_eq}
use Rattle.std.specs.Prelude.{List, [], ◌∷◌, ◌++◌, map, fold, filter, find, take, drop, get_or}
use Rattle.std.specs.Prelude.{Option, unwrap_or, option_map, option_to_list}
use Rattle.std.specs.List.{before_first, after_first}
use Rattle.std.specs.Str.{byte}
use Rattle.pac_table.specs.declared.patterns.Page.{Page}
use Rattle.pac_table.specs.declared.patterns.Page.TheVariants.{Fd, FdCb}
use Rattle.pac_table.specs.declared.patterns.Field.{Field}
use Rattle.pac_table.specs.declared.patterns.Field.TheVariants as field
use Rattle.pac_table.specs.declared.patterns.Immediate.{Immediate}
use Rattle.pac_table.specs.declared.patterns.Immediate.TheVariants as immediate
use Rattle.pac_table.specs.declared.patterns.Pattern.{Pattern}
use Rattle.pac_table.specs.declared.operands.Mnemonic.TheVariants.{Nop}
use Rattle.pac_table.specs.declared.operands.Name.{Name}
use Rattle.pac_table.specs.declared.operands.Name.TheVariants as name
use Rattle.pac_table.specs.declared.operands.NameList.{NameList}
use Rattle.pac_table.specs.declared.operands.NameList.TheVariants as list
use Rattle.pac_table.specs.declared.operands.NumberKind.TheVariants as kind
use Rattle.pac_table.specs.declared.operands.Shape.{Shape}
use Rattle.pac_table.specs.declared.operands.Shape.TheVariants as shape
use Rattle.pac_table.specs.declared.operands.Shape.TheVariants.{Named, AlternateAf, AtName, FirstField, SecondField}
use Rattle.pac_table.specs.declared.operands.Shape.TheVariants.{Indexed, Number, AtNumber}
use Rattle.pac_table.specs.declared.operands.Operands.{Operands}
use Rattle.pac_table.specs.declared.effects.Effect.{Effect}
use Rattle.pac_table.specs.declared.table.Row.{Row}
use Rattle.pac_table.specs.Patterns.{is_displacement_first}
use Rattle.pac_table.specs.Mnemonics.{operation_words}

-- what a word stands for in a list of words
abbrev pub stands_for : {A : Type 0} → List (List ℕ × A) → List ℕ → Option A
stands_for words word = option_map (λ entry. entry.1) (find (λ entry. bytes_eq word entry.0) words)

-- a code: the opcode byte in eight bits and letters, and what follows it
abbrev pub fixed_bits : List ℕ → ℕ
fixed_bits code = fold (λ bits character. 2 * bits + (if character == byte "1" then 1 else 0)) 0 (take 8 code)

-- the letters that bits 5 to 3 may have, and those of bits 2 to 0
abbrev pub high_fields : List (List ℕ × Field)
high_fields =
    (codes "rrr", field.RegisterHigh) ∷ (codes "dd", field.Pair) ∷ (codes "ss", field.Pair) ∷ (codes "qq", field.StackPair) ∷
    (codes "pp", field.IndexPair) ∷ (codes "ccc", field.Condition) ∷ (codes "jj", field.RelativeCondition) ∷
    (codes "bbb", field.BitNumber) ∷ (codes "ttt", field.RestartPlace) ∷ (codes "ooo", field.AluOperation) ∷
    (codes "kkk", field.ShiftOperation) ∷ []

abbrev pub low_fields : List (List ℕ × Field)
low_fields = (codes "rrr", field.RegisterLow) ∷ (codes "sss", field.RegisterLow) ∷ []

abbrev pub letters_among : List ℕ → List ℕ
letters_among bits = filter (λ character. not (character == byte "0" || character == byte "1")) bits

abbrev pub fields_read : List ℕ → List Field
fields_read code =
    option_to_list (stands_for high_fields (letters_among (take 3 (drop 2 code)))) ++
    option_to_list (stands_for low_fields (letters_among (take 3 (drop 5 code))))

-- what follows the opcode byte; after DD CB and FD CB d stands before it, and isn't written
abbrev pub immediates : List (List ℕ × Immediate)
immediates =
    (codes " n", immediate.Byte) ∷ (codes " nn", immediate.Word) ∷ (codes " e", immediate.Relative) ∷
    (codes " d", immediate.Displacement) ∷ (codes " d n", immediate.DisplacementByte) ∷ []

abbrev pub immediate_read : Page → List ℕ → Immediate
immediate_read page code =
    if is_displacement_first page then immediate.Displacement else unwrap_or (stands_for immediates (drop 8 code)) immediate.Absent

abbrev pub pattern_read : Page → List ℕ → Pattern
pattern_read page code =
    record {
      page = page;
      opcode = fixed_bits code;
      first = get_or (fields_read code) 0 field.Absent;
      second = get_or (fields_read code) 1 field.Absent;
      immediate = immediate_read page code;
    }

-- the operands of a form: r is the register in the code's first field, s the one in its second
abbrev pub operands : List (List ℕ × Shape)
operands =
    (codes "A", Named name.A) ∷ (codes "r", FirstField list.Registers) ∷ (codes "s", SecondField list.Registers) ∷
    (codes "I", Named name.I) ∷ (codes "R", Named name.R) ∷ (codes "n", Number kind.Byte) ∷ (codes "nn", Number kind.Word) ∷
    (codes "(n)", AtNumber kind.Byte) ∷ (codes "(nn)", AtNumber kind.Word) ∷
    (codes "(BC)", AtName name.Bc) ∷ (codes "(DE)", AtName name.De) ∷ (codes "(HL)", AtName name.Hl) ∷ (codes "(SP)", AtName name.Sp) ∷
    (codes "(C)", AtName name.C) ∷ (codes "DE", Named name.De) ∷ (codes "HL", Named name.Hl) ∷ (codes "SP", Named name.Sp) ∷
    (codes "AF", Named name.Af) ∷ (codes "AF'", AlternateAf) ∷
    (codes "dd", FirstField list.Pairs) ∷ (codes "ss", FirstField list.Pairs) ∷ (codes "qq", FirstField list.StackPairs) ∷
    (codes "e", Number kind.Target) ∷ (codes "cc", FirstField list.Conditions) ∷ (codes "jj", FirstField list.RelativeConditions) ∷
    (codes "b", Number kind.Bit) ∷ (codes "p", Number kind.Restart) ∷
    (codes "0", Number (kind.Mode 0)) ∷ (codes "1", Number (kind.Mode 1)) ∷ (codes "2", Number (kind.Mode 2)) ∷ []

-- those with IX; after FD they are those with IY
abbrev pub words_with_ix : Name → NameList → List (List ℕ × Shape)
words_with_ix index pairs =
    (codes "IX", Named index) ∷ (codes "(IX)", AtName index) ∷ (codes "(IX+d)", Indexed index) ∷ (codes "pp", FirstField pairs) ∷ []

abbrev pub index_operands : Page → List (List ℕ × Shape)
index_operands Fd = words_with_ix name.Iy list.PairsWithIy
index_operands FdCb = words_with_ix name.Iy list.PairsWithIy
index_operands _ = words_with_ix name.Ix list.PairsWithIx

abbrev pub shape_read : Page → List ℕ → Shape
shape_read page word = unwrap_or (stands_for (operands ++ index_operands page) word) shape.Absent

-- a form: the operation, and after a blank its operands, parted by a comma
abbrev pub form_read : Page → List ℕ → Operands
form_read page form =
    let written = after_first (nat_eq (byte " ")) form in
    record {
      mnemonic = unwrap_or (stands_for operation_words (before_first (nat_eq (byte " ")) form)) Nop;
      first = shape_read page (before_first (nat_eq (byte ",")) written);
      second = shape_read page (after_first (nat_eq (byte ",")) written);
    }

-- a row: its form, its code, its time where it is taken or repeats, its other time, and what it does in its group
abbrev pub row : {Does : Type 0} → String → String → ℕ → ℕ → Does → Page → (Does → Effect) → Row
row form code ticks ticks_other does page group =
    record {
      pattern = pattern_read page (codes code);
      operands = form_read page (codes form);
      ticks = ticks;
      ticks_other = ticks_other;
      effect = group does;
    }

-- the rows of a group of the manual on a page
abbrev pub group_on : {Does : Type 0} → Page → (Does → Effect) → List (Page → (Does → Effect) → Row) → List Row
group_on page group rows = map (λ some. some page group) rows
