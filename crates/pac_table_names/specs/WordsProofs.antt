-- For proofs: what proofs say of the definitions of Words.antt.
use Rattle.std.specs.Prelude.{List, ℕ, replicate, length, ◌+◌, ◌-◌, ◌++◌, [], ◌∷◌, nat_lt, slice_index, map, take, Bool, ◌==◌, slice_range}
use Rattle.std.specs.List.{flat_map, filter, range_with_len}
use Rattle.pac_table_names.specs.ByName.{rows_named, family_value}
use Rattle.pac_table_names.specs.Words.{operation_names}
use Rattle.pac_table_names.specs.declared.by_name.Word.{Word}
use Rattle.std.specs.Char.{to_ascii_lowercase}
use Rattle.pac_table.specs.declared.operands.Name.{Name}
use Rattle.std.specs.Map.{values_of}
use Rattle.pac_table_names.specs.Names.{name_texts, text_of_name, is_written}

-- the rows of each name, one after another
unfoldable pub row_list : List ℕ
row_list = flat_map rows_named operation_names

-- a name with the place of its rows, which begin at n; its letters are filled up with blanks
abbrev pub word_from : ℕ → List ℕ → Word
word_from n name =
    record {
      letters = name ++ replicate (4 - length name) 32;
      length = length name;
      from = n;
      to = n + length (rows_named name);
      family = family_value name;
    }

abbrev pub words_from : ℕ → List (List ℕ) → List Word
words_from n [] = []
words_from n (name ∷ names) = word_from n name ∷ words_from (n + length (rows_named name)) names

unfoldable pub word_list : List Word
word_list = words_from 0 operation_names

-- how many names begin with a letter before the k-th, A being the one of number 0
abbrev pub count_before : ℕ → ℕ
count_before k = length (filter (λ name. nat_lt (slice_index name 0) (65 + k)) operation_names)

unfoldable pub letter_list : List ℕ
letter_list = map count_before (range_with_len 0 27)

-- the letters of a name
abbrev pub letters_of : Word → List ℕ
letters_of name = take name.length name.letters

-- whether a name begins with a letter, in either case
abbrev pub begins_with : ℕ → Word → Bool
begins_with letter name = to_ascii_lowercase (slice_index name.letters 0) == to_ascii_lowercase letter

-- all names of registers, pairs and conditions
abbrev pub every_name : List Name
every_name = values_of name_texts

-- whether the name of a register, a pair or a condition begins with a letter, in either case
abbrev pub begins_name : ℕ → Name → Bool
begins_name letter name = to_ascii_lowercase (slice_index (text_of_name name) 0) == to_ascii_lowercase letter

-- whether bytes are the name, in either case
abbrev pub is_text : List ℕ → Word → Bool
is_text bytes name = is_written bytes (letters_of name)

-- the rows of a name, by their place
abbrev pub rows_of : Word → List ℕ
rows_of name = slice_range row_list name.from name.to
