-- A word that is longer than all names is none of them.
use Rattle.pac_table_names.proofs.Common.{List, None, Some, [], and_parts, ap, arith, bytes_eq-Decides, cases_Bool, cond-false, every_name}
use Rattle.pac_table_names.proofs.Common.{false, family_value, find, inl, inr, is_text, is_written, leb-true, length, length-map}
use Rattle.pac_table_names.proofs.Common.{letters_of, list_all, name_of, nat_le, operation_names, refl, rows_named, str_to_ascii_lowercase}
use Rattle.pac_table_names.proofs.Common.{sym, table, text_of_name, to_ascii_lowercase, true, word_list, ℕ, ◌<◌, ◌∙◌, ◌∷◌, ◌≡◌, ◌≤◌}
use Rattle.pac_table_names.proofs.Letters.{name-found}

pub not-longer : (word name : List ℕ) (most : ℕ) → length name ≤ most → most < length word → is_written word name ≡ false
not-longer word name most within longer =
    elim (cases_Bool (is_written word name)) [
      | inl is ↦
          let same : length word ≡ length name =
          sym (length-map word to_ascii_lowercase) ∙
          ap length ((bytes_eq-Decides (str_to_ascii_lowercase word) (str_to_ascii_lowercase name)).0 is) ∙
          length-map name to_ascii_lowercase in
          absurd (omega (arith, same, within, longer))
      | inr not ↦ not
    ]

-- none of some items, each with a name
none-longer : {X : Type 0} (name_in : X → List ℕ) (word : List ℕ) (most : ℕ) (xs : List X) →
    list_all (λ x. nat_le (length (name_in x)) most) xs ≡ true → most < length word → find (λ x. is_written word (name_in x)) xs ≡ None
none-longer name_in word most [] all longer = refl
none-longer name_in word most (x ∷ xs) all longer =
    let parts = and_parts (nat_le (length (name_in x)) most) (list_all (λ x. nat_le (length (name_in x)) most) xs) all in
    cond-false (is_written word (name_in x)) (Some x) (find (λ x. is_written word (name_in x)) xs)
    (not-longer word (name_in x) most (leb-true (length (name_in x)) most parts.0) longer) ∙
    none-longer name_in word most xs parts.1 longer

pub no-name : (word : List ℕ) → 2 < length word → name_of word ≡ None
no-name word longer = sym (name-found word) ∙ none-longer text_of_name word 2 every_name refl longer

within-four : list_all (λ name. nat_le (length (letters_of name)) 4) word_list ≡ true
unfolding word_list operation_names rows_named family_value table
within-four = refl

pub no-word : (word : List ℕ) → 4 < length word → find (is_text word) word_list ≡ None
no-word word longer = none-longer letters_of word 4 word_list within-four longer
