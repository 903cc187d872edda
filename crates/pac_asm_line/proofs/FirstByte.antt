-- A line that begins with neither E nor I begins with no word by which lines count or are skipped.
use Rattle.pac_asm_line.proofs.Common.{Bool, Conditional, Directive, List, [], agree_below, agree_below_at, and_parts, ap, arith}
use Rattle.pac_asm_line.proofs.Common.{begins_directive, cases_Bool, cond-false, cond-true, conditional_of_directive, conditional_word}
use Rattle.pac_asm_line.proofs.Common.{directive_names, directive_of, false, false≢true, filter, inl, inr, is_name_byte, list_all, lookup}
use Rattle.pac_asm_line.proofs.Common.{may_begin_conditional, not, prefix_len, refl, slice_get, str_eq_ignore_ascii_case, suc, sym, take}
use Rattle.pac_asm_line.proofs.Common.{take_while, true, with-letter, ℕ, ◌+◌, ◌<◌, ◌||◌, ◌∙◌, ◌∷◌, ◌≡◌}
use Rattle.std.specs.Prelude.{Option, Some, None, is_some}

-- a directive that has nothing to do with counting
abbrev is_other : List ℕ × Directive → Bool
is_other entry = not (is_some (conditional_of_directive (Some entry.1)))

each-byte : agree_below (λ b. may_begin_conditional b || list_all is_other (filter (begins_directive b) directive_names)) (λ b. true) 256
    ≡ true
each-byte = refl

others : (b : ℕ) → b < 256 → may_begin_conditional b ≡ false → list_all is_other (filter (begins_directive b) directive_names) ≡ true
others b below is =
    sym (ap (λ (c : Bool). c || list_all is_other (filter (begins_directive b) directive_names)) is) ∙
    agree_below_at (λ b. may_begin_conditional b || list_all is_other (filter (begins_directive b) directive_names)) (λ b. true) 256 b
    each-byte below

none-of : (found : Option Conditional) → not (is_some found) ≡ true → found ≡ None
none-of None is = refl
none-of (Some x) is = absurd (false≢true is)

none-found : (p : List ℕ → Bool) (es : List (List ℕ × Directive)) → list_all is_other es ≡ true →
    conditional_of_directive (lookup p es) ≡ None
none-found p [] all = refl
none-found p (e ∷ es) all =
    let parts = and_parts (is_other e) (list_all is_other es) all in
    elim (cases_Bool (p e.0)) [
      | inl is ↦ ap conditional_of_directive (cond-true (p e.0) (Some e.1) (lookup p es) is)
          ∙ none-of (conditional_of_directive (Some e.1)) parts.0
      | inr not ↦ ap conditional_of_directive (cond-false (p e.0) (Some e.1) (lookup p es) not) ∙ none-found p es parts.1
    ]

no-word : conditional_word [] ≡ None
unfolding directive_of
no-word = refl

word-none : (b : ℕ) (word : List ℕ) → b < 256 → may_begin_conditional b ≡ false → conditional_word (b ∷ word) ≡ None
word-none b word below is =
    ap conditional_of_directive (sym (with-letter (b ∷ word) b refl)) ∙
    none-found (str_eq_ignore_ascii_case (b ∷ word)) (filter (begins_directive b) directive_names) (others b below is)

pub nothing-first : (rest : List ℕ) → None ≡ slice_get rest 0 → None ≡ conditional_word (take_while is_name_byte rest)
nothing-first [] is = sym no-word
nothing-first (b ∷ rest) is = absurd (cc)

one-more : (n : ℕ) → 1 + n ≡ suc n
one-more n = omega arith

pub other-first : (rest : List ℕ) (b : ℕ) → Some b ≡ slice_get rest 0 → b < 256 → may_begin_conditional b ≡ false →
    None ≡ conditional_word (take_while is_name_byte rest)
other-first [] b at below is = absurd (cc)
other-first (x ∷ rest) b at below is =
    let same : b ≡ x = cc in
    elim (cases_Bool (is_name_byte x)) [
      | inl goes ↦
          sym (ap (λ (n : ℕ). conditional_word (take n (x ∷ rest)))
          (cond-true (is_name_byte x) (1 + prefix_len is_name_byte rest) 0 goes ∙ one-more (prefix_len is_name_byte rest)) ∙
          word-none x (take (prefix_len is_name_byte rest) rest) (rw same at below) (rw same at is))
      | inr ends ↦
          sym (ap (λ (n : ℕ). conditional_word (take n (x ∷ rest)))
          (cond-false (is_name_byte x) (1 + prefix_len is_name_byte rest) 0 ends) ∙ no-word)
    ]
