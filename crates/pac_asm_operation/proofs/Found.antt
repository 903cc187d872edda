-- What an operation keeps is the operation of the definitions, and the instruction found in its rows is the first that
-- the whole table has.
use Rattle.pac_asm_operation.proofs.Common.{All, All-head, All-tail, Bool, List, None, Option, Row, Some, [], ap, arith, cases_Bool}
use Rattle.pac_asm_operation.proofs.Common.{common_steps, cond-false, cond-true, drop, find, get_or, get_or_default, if◌then◌else◌, inl}
use Rattle.pac_asm_operation.proofs.Common.{inr, is_some, length, option_map, position, position-cons, refl, row_at, rows_named}
use Rattle.pac_asm_operation.proofs.Common.{rows_named_from, rules, suc, sym, table, true, value_named, ℕ, ◌+◌, ◌<◌, ◌∙◌, ◌∷◌, ◌≡◌}
use Rattle.pac_asm_operation.proofs.Common.{AreNamed, Err, IfOk, IfSome, Instruction, IsKept, Lexeme, Ok, Operand, Operands, Operation}
use Rattle.pac_asm_operation.proofs.Common.{OperationFault, Range, Shape, Token, Tree, and-false, and_parts, are_forms, chosen_instruction}
use Rattle.pac_asm_operation.proofs.Common.{code, eqb-true, false, find-map-same, find-same, fits, fits_row, instruction_in_row}
use Rattle.pac_asm_operation.proofs.Common.{instruction_of, is_form, kept_operation, map, ok_or, operand_pair}
use Rattle.pac_asm_operation.proofs.Common.{operands_of_parts, operation_of, operation_size, option_and_then, parts_at_commas, parts_in_row}
use Rattle.pac_asm_operation.proofs.Common.{position-all-fail, present_shape, row_count, row_for, row_size, seen_operand, seen_operands}
use Rattle.pac_asm_operation.proofs.Common.{seen_operation, suits, suits_as, suits_row, unwrap_or, valued_operands, with_tree}
use Rattle.pac_asm_operation.proofs.Common.{without_place, written_operands, ℤ, ◌&&◌, ◌==◌}
use denote.Ref.{Bor}

-- ---- the rows with a name

-- the rows from n on are these
abbrev RowsFrom : ℕ → List Row → Type 0
RowsFrom n rows = (k : ℕ) (d : Row) → k < length rows → row_at (n + k) ≡ get_or rows k d

next-rows : (n : ℕ) (row : Row) (rows : List Row) → RowsFrom n (row ∷ rows) → RowsFrom (n + 1) rows
next-rows n row rows from k d below =
    let place : n + 1 + k ≡ n + suc k = omega arith in
    ap row_at place ∙ from (suc k) d (omega (arith, below))

search-from : (word : List ℕ) (p : Row → Bool) (n : ℕ) (rows : List Row) →
    ((row : Row) → p row ≡ true → is_some (value_named row.operands.mnemonic word) ≡ true) → RowsFrom n rows →
    find (λ m. p (row_at m)) (rows_named_from word n rows) ≡ option_map (λ k. n + k) (position p rows)
search-from word p n [] named from = refl
search-from word p n (row ∷ rows) named from =
    let rest = search-from word p (n + 1) rows named (next-rows n row rows from) in
    let here : row_at n ≡ row = ap row_at (let same : n ≡ n + 0 = omega arith in same) ∙ from 0 row (omega arith) in
    let test : ℕ → Bool = λ m. p (row_at m) in
    let right = ap (option_map (λ k. n + k)) (position-cons p row rows) in grind (arith, cases_Bool, cond-false, cond-true)

same-option : (o : Option ℕ) → option_map (λ k. 0 + k) o ≡ o
same-option o = search rules

table-rows : RowsFrom 0 table
unfolding row_at
table-rows k d below = let place : 0 + k ≡ k = omega arith in ap row_at place ∙ get_or_default table k _ d below

pub named-search : (word : List ℕ) (p : Row → Bool) → ((row : Row) → p row ≡ true → is_some (value_named row.operands.mnemonic word) ≡ true)
    → position p table ≡ find (λ n. p (row_at n)) (rows_named word)
unfolding rows_named
named-search word p named = sym (search-from word p 0 table named table-rows ∙ same-option (position p table))

-- ---- searches of a list of numbers

pub record FoundAt (p : ℕ → Bool) (P : ℕ → Type 0) (n : ℕ) : Type 0 where
  pub passes : p n ≡ true
  pub holds : P n

pub found-at : (p : ℕ → Bool) (P : ℕ → Type 0) (xs : List ℕ) (n : ℕ) → find p xs ≡ Some n → All P xs → FoundAt p P n
found-at p P [] n found all = absurd (cc)
found-at p P (x ∷ xs) n found all =
    elim (cases_Bool (p x)) [
      | inl passes ↦ grind (arith, All-head, cond-true)
      | inr fails ↦
          found-at p P xs n (sym (cond-false (p x) (Some x) (find p xs) fails) ∙ found) (All-tail P x xs all)
    ]

-- ---- one step of such a search

pub found-placed : {Y : Type 0} (p : ℕ → Bool) (f : ℕ → Y) (xs : List ℕ) (k : ℕ) (y : Y) → k < length xs → find p (drop k xs) ≡ find p xs
    → Some y ≡ (if p (get_or xs k 0) then Some (f (get_or xs k 0)) else None) → Some y ≡ option_map f (find p xs)
found-placed p f xs k y below so_far is = grind (arith, common_steps)

pub more-placed : {Y : Type 0} (p : ℕ → Bool) (f : ℕ → Y) (xs : List ℕ) (k : ℕ) → k < length xs → find p (drop k xs) ≡ find p xs
    → None ≡ (if p (get_or xs k 0) then Some (f (get_or xs k 0)) else None) → find p (drop (k + 1) xs) ≡ find p xs
more-placed p f xs k below so_far is = grind (arith, common_steps)

-- ---- what an operation keeps is the operation of the definitions

abbrev pub Place : Type 0
Place = Bor (List Token)

-- ---- operands by their trees

tree-kept : (operand : Operand Place) → with_tree (without_place operand) ≡ seen_operand operand
tree-kept operand = search rules

trees-kept : (operands : List (Operand Place)) → map with_tree (map without_place operands) ≡ map seen_operand operands
trees-kept [] = refl
trees-kept (operand ∷ operands) = cc (tree-kept operand, trees-kept operands)

pub kept-operands : (word : List ℕ) (first second : Option (Operand Place)) →
    (seen_operation (kept_operation word first second)).operands ≡ seen_operands first second
kept-operands word first second = trees-kept (operand_pair first second)

form-seen : (some : Shape) (operand : Operand Place) → is_form some (seen_operand operand) ≡ is_form some operand
form-seen some operand = search rules

forms-seen : (shapes : List Shape) (operands : List (Operand Place)) →
    are_forms shapes (map seen_operand operands) ≡ are_forms shapes operands
forms-seen [] [] = refl
forms-seen [] (operand ∷ operands) = refl
forms-seen (some ∷ shapes) [] = refl
forms-seen (some ∷ shapes) (operand ∷ operands) = cc (form-seen some operand, forms-seen shapes operands)

-- ---- the first row

pub first-is : (word rows : List ℕ) (family : ℕ) (operands : List (Operand Place)) → rows ≡ rows_named word → AreNamed word family rows →
    find (fits_row family operands) rows ≡ row_for word (map seen_operand operands)
unfolding row_for
first-is word rows family operands are named =
    let trees = map seen_operand operands in
    sym (
    named-search word (fits word trees) (λ row is. (and_parts (is_some (value_named row.operands.mnemonic word)) _ is).0) ∙
    ap (find (λ n. fits word trees (row_at n))) (sym are) ∙
    find-same (λ n. fits word trees (row_at n)) (fits_row family operands) rows
    (λ k d below. grind (arith, forms-seen)))

-- ---- too many operands

present-long : {A : Type 0} (b : Shape) (y z : Operand A) (zs : List (Operand A)) → are_forms (present_shape b) (y ∷ z ∷ zs) ≡ false
present-long b y z zs = search rules

written-long : {A : Type 0} (form : Operands) (value : ℕ) (x y z : Operand A) (zs : List (Operand A)) →
    are_forms (written_operands form value) (x ∷ y ∷ z ∷ zs) ≡ false
written-long form value x y z zs = grind (arith, and-false, present-long)

no-row : (word : List ℕ) (operands : List (Operand Tree)) → 2 < length operands → row_for word operands ≡ None
unfolding row_for
no-row word (x ∷ y ∷ z ∷ zs) more = grind (arith, and-false, position-all-fail, written-long)
no-row word operands more = absurd (omega (arith, more))

abbrev made : List ℕ → List (Operand Tree) → Option ℕ → Option Operation
made word operands row = if is_some row then Some (record { word = word; operands = operands }) else None

abbrev with_operands : List ℕ → Option (List (Operand Tree)) → Option Operation
with_operands word operands = option_and_then (λ all. made word all (row_for word all)) operands

pub too-many : (word : List ℕ) (operands : Option (List (Operand Tree))) → IfSome operands (λ all. 2 < length all) →
    with_operands word operands ≡ None
too-many word operands more = grind (arith, no-row)

-- ---- the operation that is read

pub read-none : (word : List ℕ) (tokens : List Lexeme) → IfSome (operands_of_parts (parts_at_commas tokens)) (λ all. 2 < length all) →
    operation_of word tokens ≡ None
unfolding operation_of
read-none word tokens more = too-many word (operands_of_parts (parts_at_commas tokens)) more

read-with : (word : List ℕ) (tokens : List Lexeme) (operands : List (Operand Tree))
    → operands_of_parts (parts_at_commas tokens) ≡ Some operands → operation_of word tokens ≡ made word operands (row_for word operands)
unfolding operation_of
read-with word tokens operands are = ap (with_operands word) are

pub read-unfit : (word rows : List ℕ) (tokens : List Lexeme) (family : ℕ) (first second : Option (Operand Place)) →
    operands_of_parts (parts_at_commas tokens) ≡ Some (seen_operands first second) → rows ≡ rows_named word → AreNamed word family rows →
    None ≡ find (fits_row family (operand_pair first second)) rows → operation_of word tokens ≡ None
read-unfit word rows tokens family first second operands are named none =
    cc (read-with word tokens (seen_operands first second) operands, none, first-is word rows family (operand_pair first second) are named)

pub read-fit : (word rows : List ℕ) (tokens : List Lexeme) (family n : ℕ) (first second : Option (Operand Place)) →
    operands_of_parts (parts_at_commas tokens) ≡ Some (seen_operands first second) → rows ≡ rows_named word → AreNamed word family rows →
    Some n ≡ find (fits_row family (operand_pair first second)) rows →
    Some (seen_operation (kept_operation word first second)) ≡ operation_of word tokens
read-fit word rows tokens family n first second operands are named found =
    sym (
    read-with word tokens (seen_operands first second) operands ∙
    ap (made word (seen_operands first second)) (sym (found ∙ first-is word rows family (operand_pair first second) are named)) ∙
    ap (λ (os : List (Operand Tree)). Some (record { word = word; operands = os })) (sym (kept-operands word first second)))

pub size-kept : (word rows : List ℕ) (family n size : ℕ) (first second : Option (Operand Place)) → rows ≡ rows_named word →
    AreNamed word family rows → Some n ≡ find (fits_row family (operand_pair first second)) rows → size ≡ row_size (row_at n) →
    size ≡ operation_size (seen_operation (kept_operation word first second))
unfolding operation_size
size-kept word rows family n size first second are named found is = grind (arith, first-is, kept-operands)

-- ---- the instruction

pub instruction-fault : (names : List ℕ → Option ℤ) (here : ℕ) (word : List ℕ) (first second : Option (Operand Place))
    (fault : OperationFault) → Err fault ≡ valued_operands names here (seen_operands first second)
    → Err fault ≡ instruction_of names here (seen_operation (kept_operation word first second))
unfolding instruction_of
instruction-fault names here word first second fault is = search rules

chosen-is : (word rows : List ℕ) (family size next : ℕ) (operands : List (Operand ℤ)) → rows ≡ rows_named word → AreNamed word family rows →
    ok_or (option_map (parts_in_row family next operands) (find (suits_row family size next operands) rows)) Range
    ≡ chosen_instruction word size next
    operands
chosen-is word rows family size next operands are named =
    sym (
    ap (λ (row : Option ℕ). ok_or (option_map (instruction_in_row word next operands) row) Range)
    (named-search word (suits word size next operands) (λ row is. (and_parts (is_some (value_named row.operands.mnemonic word)) _ is).0) ∙
    ap (find (λ n. suits word size next operands (row_at n))) (sym are) ∙
    find-same (λ n. suits word size next operands (row_at n)) (suits_row family size next operands) rows
    (λ k d below.
    ap (λ (o : Option ℕ). is_some o && suits_as (unwrap_or o 0) size next operands (row_at (get_or rows k d))) (named k d below))) ∙
    ap (λ (o : Option Instruction). ok_or o Range)
    (grind (arith, find-map-same)))
  where
    instruction_at : Instruction → ℕ → Instruction
    instruction_at parts n = record parts { row = n }

pub instruction-placed : (names : List ℕ → Option ℤ) (here : ℕ) (word rows : List ℕ) (family size : ℕ)
    (first second : Option (Operand Place))
    (operands : List (Operand ℤ)) → IsKept word rows family size first second →
    Ok operands ≡ valued_operands names here (seen_operands first second) →
    ok_or (option_map (parts_in_row family (here + size) operands) (find (suits_row family size (here + size) operands) rows)) Range ≡
    instruction_of names here (seen_operation (kept_operation word first second))
unfolding instruction_of
instruction-placed names here word rows family size first second operands is valued = grind (arith, chosen-is, kept-operands)

-- ---- its size

code-length : (i : Instruction) → length (code i) ≡ row_size (row_at i.row)
code-length i = search rules

sized : (family size next : ℕ) (operands : List (Operand ℤ)) (rows : List ℕ) (found : Option ℕ) →
    find (suits_row family size next operands) rows ≡ found →
    IfOk (ok_or (option_map (parts_in_row family next operands) found) Range) (λ i. length (code i) ≡ size)
sized family size next operands rows None is = tt
sized family size next operands rows (Some n) is =
    let at = found-at (suits_row family size next operands) (λ _. Unit {0}) rows n is (λ k d below. tt) in
    let held = and_parts _ _ at.passes in
    let fit = and_parts (row_size (row_at n) == size) _ (and_parts _ _ held.0).0 in
    code-length (parts_in_row family next operands n) ∙ eqb-true (row_size (row_at n)) size fit.0

pub instruction-sized : (family size next : ℕ) (operands : List (Operand ℤ)) (rows : List ℕ) →
    IfOk (ok_or (option_map (parts_in_row family next operands) (find (suits_row family size next operands) rows)) Range)
    (λ i. length (code i) ≡ size)
instruction-sized family size next operands rows = grind (arith, sized)

-- ---- what was valued, and the row found

pub row-below : (p : ℕ → Bool) (rows : List ℕ) (n : ℕ) → Some n ≡ find p rows → All (λ m. m < row_count) rows → n < row_count
row-below p rows n found below = (found-at p (λ m. m < row_count) rows n (sym found) below).holds

pub ruleset readings = (read-none, read-unfit, row-below, size-kept)
