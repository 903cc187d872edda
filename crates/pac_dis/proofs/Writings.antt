-- What is shown of some bytes, how long its text is (16 bytes at most), and the numbers written in it.
use Rattle.pac_dis.proofs.Common.{Begins, Disassembles, Instruction, IsInstruction, List, None, Option, Some, arith, code, common_steps}
use Rattle.pac_dis.proofs.Common.{data_text, instruction_text, length, rules, slice_index, subst, sym, ℕ, ◌≡◌, ◌≤◌, Absent, AlternateAf}
use Rattle.pac_dis.proofs.Common.{AtName, AtNumber, Bool, FirstField, Immediate, Indexed, IsDisplacement, IsSignedByte, Name, Named, Number}
use Rattle.pac_dis.proofs.Common.{NumberKind, Row, SecondField, Shape, [], and_parts, blank_code, byte_text, comma_code, displacement_text}
use Rattle.pac_dis.proofs.Common.{get_or, hex_byte, hex_word, in_parentheses, ints, leading_zero, leb-true, length-append, list_all}
use Rattle.pac_dis.proofs.Common.{list_all-get_or, lists, ltb-true, map, marked_operands, max, name_text, names_in, nat_le, nat_lt, not}
use Rattle.pac_dis.proofs.Common.{number_text, operand_text, operand_texts, operands_of, operation_name, operation_text, option_map_or}
use Rattle.pac_dis.proofs.Common.{pattern_of, refl, row-passes, row_at, suc, table, text_of_name, true, unwrap_or, word_text}
use Rattle.pac_dis.proofs.Common.{written_operands, ℤ, ◌&&◌, ◌+◌, ◌/◌, ◌<◌, ◌||◌, ◌∷◌, Operands, ShowsEach, ShowsNumbers, if◌then◌else◌}
use Rattle.pac_dis.proofs.Common.{listed_shapes, word_limit}
use Rattle.pac_dis.proofs.Fronts.{begins-within}
use Rattle.pac_table.specs.declared.operands.NumberKind.TheVariants as kind
use Rattle.pac_table.specs.declared.operands.Name.TheVariants as name
use Rattle.pac_table.specs.declared.operands.Shape.TheVariants as shape

-- ---- what is shown of some bytes, by what they begin with

-- an instruction, which is the only one
pub shows-instruction : (at : ℕ) (bytes text : List ℕ) (i : Instruction) (size : ℕ) → IsInstruction i → Begins (code i) bytes
    → ((j : Instruction) → IsInstruction j → Begins (code j) bytes
    → ◌≡◌ {A = Option (Instruction × ℕ)} (Some (i, size)) (Some (j, length (code j))))
    → text ≡ instruction_text at i → Disassembles at bytes text size
shows-instruction at bytes text i size valid begins only is = grind (arith, common_steps)

-- which lies in the bytes
pub shown-within : (bytes : List ℕ) (i : Instruction) (size : ℕ) → Begins (code i) bytes → size ≡ length (code i) → size ≤ length bytes
shown-within bytes i size begins is = subst (λ n. n ≤ length bytes) (sym is) (begins-within (code i) bytes begins)

-- none, and so the first byte alone
pub shows-byte : (at : ℕ) (bytes text : List ℕ)
    → ((j : Instruction) → IsInstruction j → Begins (code j) bytes → ◌≡◌ {A = Option (Instruction × ℕ)} None (Some (j, length (code j))))
    → text ≡ data_text (slice_index bytes 0) → Disassembles at bytes text 1
shows-byte at bytes text none is = search rules

-- ---- numbers

length-zero-le : (first : ℕ) (b : Bool) → nat_lt first 10 ≡ b → length (leading_zero first) ≤ 1
length-zero-le first b is = search rules

length-hex-byte : (byte : ℕ) → length (hex_byte byte) ≡ 2
unfolding hex_byte
length-hex-byte byte = refl

length-hex-word : (word : ℕ) → length (hex_word word) ≡ 4
unfolding hex_word
length-hex-word word = refl

pub length-byte-le : (byte : ℕ) → length (byte_text byte) ≤ 4
unfolding byte_text
length-byte-le byte = simp length-append (omega (arith, length-zero-le (byte / 16) _ refl, length-hex-byte byte))

pub length-word-le : (word : ℕ) → length (word_text word) ≤ 6
unfolding word_text
length-word-le word = simp length-append (omega (arith, length-zero-le (word / 4096) _ refl, length-hex-word word))

-- a byte below A0H has no leading zero
length-low-byte : (byte : ℕ) → byte < 160 → length (byte_text byte) ≡ 3
unfolding byte_text hex_byte
length-low-byte byte below = search rules

pub length-displacement-le : (d : ℤ) → IsSignedByte d → length (displacement_text d) ≤ 4
unfolding displacement_text
length-displacement-le d is = grind (arith, ints, length-append, length-low-byte)

-- ---- operands

-- the most bytes that a number of a kind has
abbrev longest_number : NumberKind → ℕ
longest_number kind.Byte = 4
longest_number kind.Restart = 4
longest_number kind.Word = 6
longest_number kind.Target = 6
longest_number some = 1

length-number-le : (at : ℕ) (i : Instruction) (some : NumberKind) → length (number_text at i some) ≤ longest_number some
length-number-le at i some = grind (arith, length-byte-le, length-word-le)

-- the most bytes that an entry of a list has, where some have none
abbrev longest : {A : Type 0} → (A → ℕ) → List (Option A) → ℕ
longest size_of [] = 0
longest size_of (entry ∷ entries) = max (option_map_or size_of entry 0) (longest size_of entries)

entry-le : {A : Type 0} (size_of : A → ℕ) (entries : List (Option A)) (k : ℕ) →
    option_map_or size_of (get_or entries k None) 0 ≤ longest size_of entries
entry-le size_of (entry ∷ entries) (suc k) = omega (arith, entry-le size_of entries k)
entry-le size_of entries k = omega arith

abbrev name_length : Name → ℕ
name_length name = length (text_of_name name)

length-name : (name : Option Name) → length (name_text name) ≡ option_map_or name_length name 0
length-name name = search rules

-- the most bytes that an operand has
abbrev longest_operand : Shape → ℕ
longest_operand Absent = 0
longest_operand (Named name) = name_length name
longest_operand AlternateAf = 3
longest_operand (AtName name) = name_length name + 2
longest_operand (FirstField names) = longest name_length (names_in names)
longest_operand (SecondField names) = longest name_length (names_in names)
longest_operand (Indexed name) = name_length name + 6
longest_operand (Number some) = longest_number some
longest_operand (AtNumber some) = longest_number some + 2

length-in-parentheses : (inner : List ℕ) → length (in_parentheses inner) ≡ length inner + 2
length-in-parentheses inner = simp length-append (omega arith)

length-operand-le : (at : ℕ) (i : Instruction) (some : Shape) → IsSignedByte i.disp → length (operand_text at i some) ≤ longest_operand some
length-operand-le at i some is =
    grind (arith, entry-le, length-append, length-displacement-le, length-in-parentheses, length-name, length-number-le)

-- ---- whole texts

-- the most bytes of operands, with a mark before each
abbrev room : List Shape → ℕ
room [] = 0
room (shape ∷ shapes) = longest_operand shape + 1 + room shapes

length-marked-le : (at : ℕ) (i : Instruction) → IsSignedByte i.disp → (mark : ℕ) (shapes : List Shape)
    → length (marked_operands mark (map (operand_text at i) shapes)) ≤ room shapes
length-marked-le at i is mark [] = omega arith
length-marked-le at i is mark (shape ∷ shapes) =
    simp length-append (omega (arith, length-operand-le at i shape is, length-marked-le at i is comma_code shapes))

-- d and e are signed bytes; where a row has neither, 0
signed-displacement : (some : Immediate) (d : ℤ) → IsDisplacement some d → IsSignedByte d
signed-displacement some d is = search rules

abbrev first_eight : List ℕ
first_eight = 0 ∷ 1 ∷ 2 ∷ 3 ∷ 4 ∷ 5 ∷ 6 ∷ 7 ∷ []

-- whether an operation has a name, and its text 16 bytes at most, where its first field may hold a value
abbrev is_shown : Row → ℕ → Bool
is_shown row value =
    not (lists row.pattern.first value) || (nat_lt 0 (length (unwrap_or (operation_name row.operands.mnemonic value) []))
    && nat_le (length (unwrap_or (operation_name row.operands.mnemonic value) []) + room (written_operands row.operands value)) 16)

rows-are-shown : list_all (λ row. list_all (is_shown row) first_eight) table ≡ true
unfolding table
rows-are-shown = refl

eight-at : (k : ℕ) → k < 8 → get_or first_eight k 0 ≡ k
eight-at k below = search rules

-- the first field holds a number below 8
field-below : (i : Instruction) → IsInstruction i → i.p < 8
field-below i is = search rules

second-of-or : (a b : Bool) → a ≡ true → (not a || b) ≡ true → b ≡ true
second-of-or a b is either = search rules

named-and-fits : (i : Instruction) → IsInstruction i →
    (0 < length (operation_text i)) × (length (operation_text i) + room (written_operands (operands_of i) i.p) ≤ 16)
named-and-fits i is =
    let all = row-passes (λ row. list_all (is_shown row) first_eight) rows-are-shown i.row is.row in
    let here = list_all-get_or (is_shown (row_at i.row)) first_eight i.p 0 all (field-below i is) in
    let shown = and_parts _ _ (second-of-or _ _ is.first (subst (λ p. is_shown (row_at i.row) p ≡ true) (eight-at i.p (field-below i is)) here)) in
    (ltb-true 0 _ shown.0, leb-true _ 16 shown.1)

pub operation-named : (i : Instruction) → IsInstruction i → 0 < length (operation_text i)
operation-named i is = (named-and-fits i is).0

-- after the name of the operation there is room for the operands
pub operands-fit : (at : ℕ) (i : Instruction) (text : List ℕ) → IsInstruction i → length text ≡ length (operation_text i) →
    length text + length (marked_operands blank_code (operand_texts at i)) ≤ 16
operands-fit at i text is same =
    let signed = signed-displacement (pattern_of i).immediate i.disp is.disp in
    omega (arith, length-marked-le at i signed blank_code (written_operands (operands_of i) i.p), (named-and-fits i is).1, same)

-- an instruction's text has 16 bytes at most, and one at least
pub text-fits : (at : ℕ) (i : Instruction) → IsInstruction i → length (instruction_text at i) ≤ 16
unfolding instruction_text
text-fits at i is = simp length-append (operands-fit at i (operation_text i) is refl)

pub text-shown : (at : ℕ) (i : Instruction) → IsInstruction i → 0 < length (instruction_text at i)
unfolding instruction_text
text-shown at i is = simp length-append (omega (arith, operation-named i is))

-- ---- numbers in range

-- whether the numbers that are written are in range for a code that ends so
abbrev in_range : Immediate → NumberKind → Bool
in_range some kind.Byte = nat_le (word_limit some) 256
in_range some (kind.Mode number) = nat_lt number 10
in_range some _ = true

abbrev has_range : Immediate → Shape → Bool
has_range some (Number number) = in_range some number
has_range some (AtNumber number) = in_range some number
has_range some _ = true

abbrev row_has_range : Row → Bool
row_has_range row =
    has_range row.pattern.immediate row.operands.first && has_range row.pattern.immediate row.operands.second

rows-have-range : list_all row_has_range table ≡ true
unfolding table
rows-have-range = refl

shows-numbers : (i : Instruction) (some : Immediate) (writing : Shape) → i.word < word_limit some → has_range some writing ≡ true →
    ShowsNumbers i writing
shows-numbers i some writing below is = search rules

ranges : (i : Instruction) → IsInstruction i
    → (has_range (pattern_of i).immediate (operands_of i).first ≡ true) × (has_range (pattern_of i).immediate (operands_of i).second ≡ true)
ranges i is = and_parts _ _ (row-passes row_has_range rows-have-range i.row is.row)

shows-written : (i : Instruction) (form : Operands) (b : Bool) → ShowsNumbers i form.first → ShowsNumbers i form.second
    → ShowsEach i (if b then listed_shapes (shape.Named name.A) form.first else listed_shapes form.first form.second)
shows-written i form b shows more = search rules

-- each number that is written in an instruction of the table is in range
pub shows-each : (i : Instruction) → IsInstruction i → ShowsEach i (written_operands (operands_of i) i.p)
shows-each i is =
    let immediate = (pattern_of i).immediate in
    shows-written i (operands_of i) _ (shows-numbers i immediate _ is.word (ranges i is).0)
    (shows-numbers i immediate _ is.word (ranges i is).1)
