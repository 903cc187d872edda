-- The reserved words are distinct, and all that are reserved.
use Rattle.pac_asm_operation.proofs.Common.{List, ReservedWordsAreDistinct, arith, directive_of, distinct-by-test}
use Rattle.pac_asm_operation.proofs.Common.{is_distinct, is_reserved, is_some, is_some-lookup, is_written, keys_of, list_any}
use Rattle.pac_asm_operation.proofs.Common.{list_any-append, name_of, name_texts, operation_names, operation_names_are_distinct, refl}
use Rattle.pac_asm_operation.proofs.Common.{reserved_words, true, ℕ, ◌≡◌}

test : is_distinct is_written reserved_words ≡ true
unfolding is_distinct operation_names
test = refl

named : (word : List ℕ) → is_some (name_of word) ≡ list_any (is_written word) (keys_of name_texts)
unfolding name_of
named word = is_some-lookup (is_written word) name_texts

all-of : (word : List ℕ) → is_reserved word ≡ list_any (is_written word) reserved_words
unfolding directive_of
all-of word = grind (arith, list_any-append, named, operation_names_are_distinct)

pub reserved_words_are_distinct : ReservedWordsAreDistinct
reserved_words_are_distinct = record { distinct = distinct-by-test is_written reserved_words test; all = all-of }
