-- Names read one after another, and bytes that can be no name.
use Rattle.pac_inputs.proofs.Common.{Bool, Bor, IsUtf8, IsUtf8-from_ascii, List, None, Option, Row, Some, [], and_parts, arith, cases_Bool}
use Rattle.pac_inputs.proofs.Common.{find_name, find_row, get_or, inl, input_bits, inr, is_ascii, is_comma_byte, last-part, length}
use Rattle.pac_inputs.proofs.Common.{list_all, ltb-true, more-parts, nat_eq, option_map, pointwise, refl, same_text, slice_split, subst}
use Rattle.pac_inputs.proofs.Common.{suc, sym, true, with_names, zero, ℕ, ◌+◌, ◌<◌, ◌∷◌, ◌≡◌}

ascii-at : (bytes : List ℕ) → list_all is_ascii bytes ≡ true → (i : ℕ) → get_or bytes i 0 < 128
ascii-at [] all i = omega arith
ascii-at (b ∷ bytes) all zero = ltb-true b 128 (and_parts (is_ascii b) (list_all is_ascii bytes) all).0
ascii-at (b ∷ bytes) all (suc i) = ascii-at bytes (and_parts (is_ascii b) (list_all is_ascii bytes) all).1 i

abbrev in_ascii : Row → Bool
in_ascii row = list_all is_ascii row.0

unread : (table : List Row) (name : List ℕ) → list_all in_ascii table ≡ true → (IsUtf8 name → ⊥) → find_row table name ≡ None
unfolding find_row
unread [] name all bad = refl
unread (row ∷ table) name all bad =
    let both = and_parts (in_ascii row) (list_all in_ascii table) all in
    elim (cases_Bool (pointwise nat_eq row.0 name)) [
      | inl e ↦ absurd (bad (subst IsUtf8 (same_text row.0 name (sym e)) (IsUtf8-from_ascii row.0 (ascii-at row.0 both.0))))
      | inr e ↦ rw e (unread table name both.1 bad)
    ]

pub no-text-no-input : (name : List ℕ) → (IsUtf8 name → ⊥) → find_name input_bits name ≡ None
no-text-no-input name bad = grind (arith, cases_Bool, unread)

-- these bits held, and the inputs of the names that are left
abbrev pub with_rest : ℕ → Option (List ℕ) → Option ℕ
with_rest held None = Some held
with_rest held (Some names) = with_names held (slice_split is_comma_byte names)

abbrev pub texts : Option (Bor (List ℕ)) → Option (List ℕ)
texts names = option_map (λ b. b.now) names

-- one more than the bytes that are left
abbrev pub left : Option (List ℕ) → ℕ
left None = 0
left (Some names) = length names + 1

pub ruleset all_parts = (last-part, more-parts)

pub ruleset unread_names = (no-text-no-input)
