-- A part ends at its comma; and the operands of a list of parts.
use Rattle.std.proofs.lemmas.Grind.{common_steps}
use Rattle.pac_asm_operation.proofs.Common.{Bool, List, Token, [], ap, arith, cases_Bool, cond, drop, drop-map, inl, inr, is_comma, length}
use Rattle.pac_asm_operation.proofs.Common.{length-map, not, onto_first, position_or_len, refl, rules, slice_split}
use Rattle.pac_asm_operation.proofs.Common.{slice_split-cons_no, slice_split_first, take, take-map, view, views, ℕ, ◌+◌}
use Rattle.pac_asm_operation.proofs.Common.{◌-◌, ◌<◌, ◌∙◌, ◌∷◌, ◌≡◌, ◌≤◌, IfSome, Lexeme, Operand, Option, Some, Tree, length-slice_split}
use Rattle.pac_asm_operation.proofs.Common.{operand_of, operands_of_parts, option_and_then, option_map}

-- where nothing passes before the end, there is one part
one-part : {X : Type 0} (p : X → Bool) (xs : List X) → length xs ≤ position_or_len p xs → slice_split p xs ≡ xs ∷ []
one-part p [] past = refl
one-part p (x ∷ xs) past =
    elim (cases_Bool (p x)) [
      | inl passes ↦ search rules
      | inr fails ↦
          let more : position_or_len p (x ∷ xs) ≡ 1 + position_or_len p xs = ap (λ b. cond (not b) (1 + position_or_len p xs) 0) fails in
          slice_split-cons_no p x xs fails ∙ ap (onto_first x) (one-part p xs (omega (arith, past, more)))
    ]

pub whole-part : (tokens : List Token) (at : ℕ) → at ≡ position_or_len is_comma (views tokens) → length tokens ≤ at →
    slice_split is_comma (views tokens) ≡ views tokens ∷ []
whole-part tokens at is past =
    one-part is_comma (views tokens) (omega (arith, is, past, length-map tokens view))

pub first-part : (tokens : List Token) (at : ℕ) → at ≡ position_or_len is_comma (views tokens) → at < length tokens →
    slice_split is_comma (views tokens) ≡
    views (take at tokens) ∷ slice_split is_comma (views (take (length tokens - (at + 1)) (drop (at + 1) tokens)))
first-part tokens at is below = grind (arith, drop-map, length-map, slice_split_first, take-map, common_steps)

pub ruleset parts = (first-part, whole-part)

-- ---- the operands of a list of parts

abbrev pub AreMore : ℕ → Option (List (Operand Tree)) → Type 0
AreMore n operands = IfSome operands (λ all. n < length all)

abbrev pub operand_before : Option (Operand Tree) → Option (List (Operand Tree)) → Option (List (Operand Tree))
operand_before first operands = option_and_then (λ operand. option_map (λ more. operand ∷ more) operands) first

-- one operand more
pub more-before : (n : ℕ) (first : Option (Operand Tree)) (operands : Option (List (Operand Tree))) → AreMore n operands →
    AreMore (n + 1) (operand_before first operands)
more-before n first operands more = search rules

some-part : (parts : List (List Lexeme)) → 0 < length parts → AreMore 0 (operands_of_parts parts)
some-part [] some = absurd (omega (arith, some))
some-part (part ∷ parts) some = at-least (operand_of part) (operands_of_parts parts)
  where
    at-least : (first : Option (Operand Tree)) (operands : Option (List (Operand Tree))) → AreMore 0 (operand_before first operands)
    at-least (Some first) (Some all) = omega arith
    at-least first operands = tt

-- after a comma there is a part at least
pub split-has-part : (tokens : List Lexeme) → AreMore 0 (operands_of_parts (slice_split is_comma tokens))
split-has-part tokens = grind (arith, length-slice_split, some-part)
