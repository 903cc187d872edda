-- The directives are found by their first letter, and a word that is longer than all of them is none.
use Rattle.pac_asm_operation.proofs.Common.{List, None, Some, [], and_parts, cond-false, directive_names, directive_of, is_written}
use Rattle.pac_asm_operation.proofs.Common.{leb-true, length, list_all, lookup, nat_le, not-longer, refl, true, ℕ, ◌<◌, ◌∙◌, ◌∷◌, ◌≡◌}
use Rattle.pac_asm_operation.proofs.Common.{Directive, ap, begins_directive, filter, slice_get, str_eq_ignore_ascii_case}
use Rattle.pac_lemmas.proofs.Letters.{same-first-letter}
use Rattle.pac_lemmas.proofs.Lookups.{lookup-filter}

-- ---- a word that is longer than all directives is none of them

none-longer : {X : Type 0} (word : List ℕ) (most : ℕ) (es : List (List ℕ × X)) →
    list_all (λ e. nat_le (length e.0) most) es ≡ true → most < length word → lookup (is_written word) es ≡ None
none-longer word most [] all longer = refl
none-longer word most (e ∷ es) all longer =
    let parts = and_parts (nat_le (length e.0) most) (list_all (λ e. nat_le (length e.0) most) es) all in
    cond-false (is_written word e.0) (Some e.1) (lookup (is_written word) es)
    (not-longer word e.0 most (leb-true (length e.0) most parts.0) longer) ∙
    none-longer word most es parts.1 longer

pub no-directive : (word : List ℕ) → 5 < length word → directive_of word ≡ None
unfolding directive_of
no-directive word longer = none-longer word 5 directive_names refl longer

-- ---- the directives are found by their first letter

-- no word at all is no directive
pub no-letter : (word : List ℕ) → None ≡ slice_get word 0 → None ≡ directive_of word
unfolding directive_of
no-letter [] is = refl
no-letter (b ∷ rest) is = absurd (cc)

-- a directive's name begins with the letter of the word that it is
begins : (b x : ℕ) (rest : List ℕ) (entry : List ℕ × Directive) → b ≡ x → str_eq_ignore_ascii_case (x ∷ rest) entry.0 ≡ true →
    begins_directive b entry ≡ true
begins b x rest entry same is = ap (λ letter. begins_directive letter entry) same ∙ same-first-letter x rest entry.0 is

-- a word is one of the directives that begin with its letter, or none
pub with-letter : (word : List ℕ) (b : ℕ) → Some b ≡ slice_get word 0 →
    lookup (str_eq_ignore_ascii_case word) (filter (begins_directive b) directive_names) ≡ directive_of word
unfolding directive_of
with-letter [] b is = absurd (cc)
with-letter (x ∷ rest) b is =
    let same : b ≡ x = cc in
    lookup-filter (str_eq_ignore_ascii_case (x ∷ rest)) (begins_directive b) directive_names (λ entry. begins b x rest entry same)
