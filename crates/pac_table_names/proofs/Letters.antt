-- The names of registers, pairs and conditions are found by their first letter.
use Rattle.pac_table_names.proofs.Common.{List, Name, None, Some, [], ap, begins_name, every_name, filter, find, find-filter, is_written}
use Rattle.pac_table_names.proofs.Common.{name_of, refl, same-first-letter, slice_get, text_of_name, true, ℕ, ◌∙◌, ◌∷◌, ◌≡◌}

written-begins : (b : ℕ) (rest : List ℕ) (some : Name) → is_written (b ∷ rest) (text_of_name some) ≡ true → begins_name b some ≡ true
written-begins b rest some is = same-first-letter b rest (text_of_name some) is

-- the name that a word is, by a search of the names
pub name-found : (word : List ℕ) → find (λ some. is_written word (text_of_name some)) every_name ≡ name_of word
unfolding name_of
name-found word = refl

-- no word at all is no name
pub no-letter : (word : List ℕ) → None ≡ slice_get word 0 → None ≡ name_of word
unfolding name_of
no-letter [] is = refl
no-letter (b ∷ rest) is = absurd (cc)

-- a word is one of the names that begin with its letter, or none
pub with-letter : (word : List ℕ) (b : ℕ) → Some b ≡ slice_get word 0 →
    find (λ some. is_written word (text_of_name some)) (filter (begins_name b) every_name) ≡ name_of word
with-letter [] b is = absurd (cc)
with-letter (x ∷ rest) b is =
    let same : b ≡ x = cc in
    ap (λ (y : ℕ). find (λ some. is_written (x ∷ rest) (text_of_name some)) (filter (begins_name y) every_name)) same ∙
    find-filter (λ some. is_written (x ∷ rest) (text_of_name some)) (begins_name x) every_name (written-begins x rest) ∙
    name-found (x ∷ rest)
