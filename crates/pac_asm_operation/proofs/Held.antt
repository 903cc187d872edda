-- The operands in the parts of the code, one by one; and what the code of a row holds is an instruction of that row.
use Rattle.pac_asm_operation.proofs.Common.{Bool, Instruction, List, None, Operand, Option, Shape, Some, [], all_take, and_parts, ap}
use Rattle.pac_asm_operation.proofs.Common.{are_forms, arith, common_steps, false, false≢true, if◌then◌else◌, listed_shapes, operand_pair}
use Rattle.pac_asm_operation.proofs.Common.{rules, sym, takes, true, with_all_operands, with_operand, ℕ, ℤ, ◌&&◌, ◌∙◌, ◌∷◌}
use Rattle.pac_asm_operation.proofs.Common.{◌≡◌, IfSome, IsInstruction, IsSome, holds}
use Rattle.pac_asm_operation.proofs.Common.{ltb-true, refl, row_at, row_count, with_row_number, ◌<◌}

-- ---- operands that have a form, in the parts of the code, one by one

abbrev pub taken : Shape → ℕ → Operand ℤ → Instruction → Option Instruction
taken some next operand i = if takes some next operand then Some (with_operand some next operand i) else None

abbrev pub all_taken : List Shape → ℕ → List (Operand ℤ) → Instruction → Option Instruction
all_taken shapes next operands i = if all_take shapes next operands then Some (with_all_operands shapes next operands i) else None

pub filled-one : (a b : Shape) (next : ℕ) (x : Operand ℤ) (i : Instruction) → are_forms (listed_shapes a b) (x ∷ []) ≡ true →
    all_taken (listed_shapes a b) next (x ∷ []) i ≡ taken a next x i
filled-one a b next x i are = grind (arith, common_steps)

two-taken : (test more : Bool) (i : Instruction) (second : Option Instruction) → (if more then Some i else None) ≡ second →
    (if test && more then Some i else None) ≡ (if test then second else None)
two-taken test more i second is = search rules

pub filled-two : (a b : Shape) (next : ℕ) (x y : Operand ℤ) (i : Instruction) → are_forms (listed_shapes a b) (x ∷ y ∷ []) ≡ true
    → all_taken (listed_shapes a b) next (x ∷ y ∷ []) i ≡ (if takes a next x then taken b next y (with_operand a next x i) else None)
filled-two a b next x y i are = grind (arith, and_parts, false≢true, two-taken)

-- ---- the same for the two operands as they are kept

pub none-filled : (a b : Shape) (next : ℕ) (first second : Option (Operand ℤ)) (x : Operand ℤ) (i : Instruction) → first ≡ Some x →
    are_forms (listed_shapes a b) (operand_pair first second) ≡ true → None ≡ taken a next x i →
    None ≡ all_taken (listed_shapes a b) next (operand_pair first second) i
none-filled a b next first second x i is are none = search rules

pub one-filled : (a b : Shape) (next : ℕ) (first second : Option (Operand ℤ)) (x : Operand ℤ) (i j : Instruction) → first ≡ Some x →
    second ≡ None → are_forms (listed_shapes a b) (operand_pair first second) ≡ true → Some j ≡ taken a next x i →
    Some j ≡ all_taken (listed_shapes a b) next (operand_pair first second) i
one-filled a b next first second x i j is none are some = grind (arith, filled-one)

pub two-filled : (a b : Shape) (next : ℕ) (first second : Option (Operand ℤ)) (x z : Operand ℤ) (i j : Instruction) (o : Option Instruction)
    → first ≡ Some x → second ≡ Some z → are_forms (listed_shapes a b) (operand_pair first second) ≡ true → Some j ≡ taken a next x i
    → o ≡ taken b next z j → o ≡ all_taken (listed_shapes a b) next (operand_pair first second) i
two-filled a b next first second x z i j o is also are some last =
    let forms = rw (is, also) at are in
    rw (is, also)
    (last ∙ and-second (takes a next x) (with_operand a next x i) j (taken b next z) some ∙ sym (filled-two a b next x z i forms))
  where
    and-second : (test : Bool) (i j : Instruction) (more : Instruction → Option Instruction) → Some j ≡ (if test then Some i else None) →
        more j ≡ (if test then more i else None)
    and-second true i j more some = let same : j ≡ i = cc in ap more same
    and-second false i j more some = absurd (cc)

-- ---- what the code of a row holds is an instruction of that row

pub held-instruction : (n : ℕ) (parts : Instruction) → n < row_count → holds (row_at n).pattern parts ≡ true →
    IsInstruction (with_row_number n parts)
held-instruction n parts below is = grind (arith, and_parts, ltb-true)

pub instruction-held : (n : ℕ) (parts : Instruction) → IsInstruction (with_row_number n parts) → holds (row_at n).pattern parts ≡ true
instruction-held n parts is = search rules

-- ---- the instruction of a row, where it is one

pub picked : (result : Option Instruction) (test : Bool) (value : Instruction) → (IsSome result → test ≡ true)
    → (test ≡ true → IsSome result) → IfSome result (λ i. i ≡ value) → result ≡ (if test then Some value else None)
picked result test value given back is = search rules

-- four tests of which the third fails
pub unsuited : (size fits take held : Bool) (i j : Instruction) → None ≡ (if take then Some j else None) →
    None ≡ (if size && fits && take && held then Some i else None)
unsuited size fits true held i j none = absurd (cc)
unsuited true true false held i j none = refl
unsuited true false false held i j none = refl
unsuited false fits false held i j none = refl

-- four tests of which all but the last pass
pub suited : (size fits take : Bool) (held : Instruction → Bool) (n : ℕ) (parts made : Instruction) → size ≡ true → fits ≡ true
    → Some parts ≡ (if take then Some made else None) → (if held parts then Some (with_row_number n parts) else None)
    ≡ (if size && fits && take && held made then Some (with_row_number n made) else None)
suited size fits true held n parts made is also some = let same : parts ≡ made = cc in rw (is, also, same) refl
suited size fits false held n parts made is also some = absurd (cc)
