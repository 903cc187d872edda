-- The names of operations are distinct, and all that are found.
use Rattle.pac_table_names.proofs.Common.{Bool, List, None, OperationNamesAreDistinct, Option, Some, Word, ap, distinct-by-test}
use Rattle.pac_table_names.proofs.Common.{family_value, find, find-passes, is_distinct, is_operation, is_some, is_text, is_written, length}
use Rattle.pac_table_names.proofs.Common.{letters_of, list_all, list_any, list_any-find, list_any-map, map, not, operation_names, refl}
use Rattle.pac_table_names.proofs.Common.{row_list, rows_named, rows_of, sym, table, true, word_list, ℕ, ◌==◌, ◌∙◌, ◌≡◌}
use Rattle.pac_table_names.proofs.Index.{found-rows, rows-none, operation-has-rows}

-- ---- names that a test finds distinct

test : is_distinct is_written operation_names ≡ true
unfolding is_distinct operation_names
test = refl

-- ---- names and the operations that have them

-- the letters of the index are the names
letters-are : map letters_of word_list ≡ operation_names
unfolding word_list operation_names rows_named family_value table
letters-are = refl

-- each name of the index has rows
abbrev has_rows : Word → Bool
has_rows word = not (length (rows_of word) == 0)

all-have-rows : list_all has_rows word_list ≡ true
unfolding word_list row_list operation_names rows_named family_value table
all-have-rows = refl

named-or-not : (word : List ℕ) (found : Option Word) → find (is_text word) word_list ≡ found → is_operation word ≡ is_some found
named-or-not word None is =
    operation-has-rows word ∙ ap (λ (rows : List ℕ). not (length rows == 0)) (rows-none word is)
named-or-not word (Some name) is =
    operation-has-rows word ∙ ap (λ (rows : List ℕ). not (length rows == 0)) (found-rows word name is).rows ∙
    (find-passes (is_text word) has_rows word_list name is all-have-rows).1

pub operation_names_are_distinct : OperationNamesAreDistinct
operation_names_are_distinct = record {
  distinct = distinct-by-test is_written operation_names test;
  all = λ word.
      named-or-not word (find (is_text word) word_list) refl ∙ sym (list_any-find (is_text word) word_list) ∙
      sym (list_any-map (is_written word) letters_of word_list) ∙ ap (list_any (is_written word)) letters-are;
}
