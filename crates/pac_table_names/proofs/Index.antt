-- The index of names finds the rows that a search of the whole table finds: what is computed over the index and the
-- table, and that names are found by their first letter.
use Rattle.pac_table_names.proofs.Common.{AreNamed, Bool, List, Mnemonic, None, Option, Row, Some, Word, [], agree_below, agree_below_at}
use Rattle.pac_table_names.proofs.Common.{and_parts, ap, arith, begins_with, bytes_eq, bytes_eq-Decides, cases_Bool, cond-false, cond-true}
use Rattle.pac_table_names.proofs.Common.{eqb-true, false, false≢true, family_in, family_value, filter, find, find-filter, find-passes}
use Rattle.pac_table_names.proofs.Common.{get_or, get_or-map-range_with_len, if◌then◌else◌, inl, inr, is_ascii_uppercase, is_name_at}
use Rattle.pac_table_names.proofs.Common.{is_operation, is_some, is_text, is_written, leb-true, length, letter_list, letters_of, list_all}
use Rattle.pac_table_names.proofs.Common.{list_all-get_or, list_any, ltb-true, map, names_of, nat_le, nat_lt, nat_tests, none-parts, not}
use Rattle.pac_table_names.proofs.Common.{operation_names, option_or, position, position-all-fail, range_with_len, refl, row_at, row_count}
use Rattle.pac_table_names.proofs.Common.{row_list, rows_named, rows_named_from, rows_of, same-first-letter, slice_get, slice_index}
use Rattle.pac_table_names.proofs.Common.{slice_range, str_to_ascii_lowercase, subst, suc, sym, table, take, to_ascii_lowercase}
use Rattle.pac_table_names.proofs.Common.{to_ascii_uppercase, true, unwrap_or, value_named, word_list, zero, ℕ, ◌&&◌, ◌+◌, ◌-◌, ◌<◌, ◌==◌}
use Rattle.pac_table_names.proofs.Common.{◌||◌, ◌∙◌, ◌∷◌, ◌≡◌, ◌≤◌}
use Rattle.pac_table.specs.declared.operands.Mnemonic.TheVariants as mnemonic

-- ---- names by their first letter

abbrev pub letter_at : ℕ → ℕ
letter_at b = to_ascii_uppercase b - 65

abbrev pub bucket : ℕ → List Word
bucket b =
    if is_ascii_uppercase (to_ascii_uppercase b)
    then slice_range word_list (get_or letter_list (letter_at b) 0) (get_or letter_list (letter_at b + 1) 0) else []

abbrev pub in_order : ℕ → Bool
in_order k = nat_le (get_or letter_list k 0) (get_or letter_list (k + 1) 0) && nat_le (get_or letter_list (k + 1) 0) (length word_list)

buckets : map bucket (range_with_len 0 256) ≡ map (λ b. filter (begins_with b) word_list) (range_with_len 0 256)
unfolding word_list letter_list operation_names rows_named family_value table
buckets = refl

orders : agree_below in_order (λ k. true) 26 ≡ true
unfolding word_list letter_list operation_names rows_named family_value table
orders = refl

pub letter-count : length letter_list ≡ 27
unfolding letter_list operation_names
letter-count = refl

pub bucket-is : (b : ℕ) → b < 256 → bucket b ≡ filter (begins_with b) word_list
bucket-is b below =
    sym (get_or-map-range_with_len bucket 0 256 b b [] below (omega arith)) ∙
    ap (λ (xs : List (List Word)). get_or xs b []) buckets ∙
    get_or-map-range_with_len (λ b. filter (begins_with b) word_list) 0 256 b b [] below (omega arith)

pub in-order : (k : ℕ) → k < 26 → in_order k ≡ true
in-order k below = agree_below_at in_order (λ k. true) 26 k orders below

starts : (b : ℕ) (rest : List ℕ) (n : ℕ) (letters : List ℕ) →
    bytes_eq (str_to_ascii_lowercase (b ∷ rest)) (str_to_ascii_lowercase (take n letters)) ≡ true →
    (to_ascii_lowercase (slice_index letters 0) == to_ascii_lowercase b) ≡ true
starts b rest zero letters is = absurd (false≢true is)
starts b rest (suc n) [] is = absurd (false≢true is)
starts b rest (suc n) (letter ∷ letters) is = same-first-letter b rest (letter ∷ take n letters) is

text-begins : (b : ℕ) (rest : List ℕ) (word : Word) → is_text (b ∷ rest) word ≡ true → begins_with b word ≡ true
text-begins b rest word is = starts b rest word.length word.letters is

pub found-by-letter : (b : ℕ) (rest : List ℕ) → find (is_text (b ∷ rest)) (filter (begins_with b) word_list) ≡ find (is_text (b ∷ rest))
    word_list
found-by-letter b rest = find-filter (is_text (b ∷ rest)) (begins_with b) word_list (text-begins b rest)

pub none-empty : find (is_text []) word_list ≡ None
unfolding word_list operation_names rows_named family_value table
none-empty = refl

-- ---- rows of a name

pub is_value : Option ℕ → ℕ → Bool
is_value None value = false
is_value (Some other) value = other == value

value-is : (some : Option ℕ) (value : ℕ) → is_value some value ≡ true → some ≡ Some value
unfolding is_value
value-is None value is = absurd (false≢true is)
value-is (Some other) value is = ap Some (eqb-true other value is)

-- whether a row has a name, with the value that it tells
abbrev pub has_name : List ℕ → ℕ → ℕ → Bool
has_name text family n = is_value (value_named (row_at n).operands.mnemonic text) (family_in (row_at n).operands.mnemonic family)

abbrev pub is_good : Word → Bool
is_good word =
    list_all (has_name (letters_of word) word.family) (rows_of word) &&
    nat_le word.from word.to && nat_le word.to (length row_list) && bytes_eq (rows_named (letters_of word)) (rows_of word) &&
    family_value (letters_of word) == word.family && list_all (λ n. nat_lt n row_count) (rows_of word)

pub words-good : list_all is_good word_list ≡ true
unfolding word_list row_list operation_names rows_named family_value row_count row_at is_value table
words-good = refl

-- a word that is written as a text has its rows
same-written : (word text : List ℕ) → is_written word text ≡ true → (other : List ℕ) → is_written word other ≡ is_written text other
same-written word text is other =
    ap (λ (xs : List ℕ). bytes_eq xs (str_to_ascii_lowercase other))
    ((bytes_eq-Decides (str_to_ascii_lowercase word) (str_to_ascii_lowercase text)).0 is)

same-at : (word text : List ℕ) → is_written word text ≡ true → (some : Option (List ℕ)) → is_name_at word some ≡ is_name_at text some
same-at word text is None = refl
same-at word text is (Some other) = same-written word text is other

pub same-value : (word text : List ℕ) → is_written word text ≡ true → (some : Mnemonic) → value_named some word ≡ value_named some text
same-value word text is some =
    let test : is_name_at word ≡ is_name_at text = λ i. λ other. same-at word text is other i in
    ap (λ (p : Option (List ℕ) → Bool). position p (names_of some)) test

same-rows : (word text : List ℕ) → is_written word text ≡ true → (n : ℕ) (rows : List Row) →
    rows_named_from word n rows ≡ rows_named_from text n rows
same-rows word text is n [] = refl
same-rows word text is n (row ∷ rows) = λ i.
    let more = same-rows word text is (n + 1) rows i in if is_some (same-value word text is row.operands.mnemonic i) then n ∷ more else more

pub rows-same : (word text : List ℕ) → is_written word text ≡ true → rows_named word ≡ rows_named text
unfolding rows_named
rows-same word text is = same-rows word text is 0 table

pub family-same : (word text : List ℕ) → is_written word text ≡ true → family_value word ≡ family_value text
unfolding family_value
family-same word text is =
    λ i. unwrap_or (option_or (same-value word text is mnemonic.Alu i) (same-value word text is mnemonic.Shift i)) 0

-- ---- a word that is no name has no rows

abbrev pub is_listed : Option (List ℕ) → Bool
is_listed None = true
is_listed (Some text) = list_any (λ word. bytes_eq (letters_of word) text) word_list

abbrev pub row_is_listed : Row → Bool
row_is_listed row = list_all is_listed (names_of row.operands.mnemonic)

rows-listed : list_all row_is_listed table ≡ true
unfolding word_list operation_names rows_named family_value table
rows-listed = refl

families-listed : (list_all is_listed (names_of mnemonic.Alu) && list_all is_listed (names_of mnemonic.Shift)) ≡ true
unfolding word_list operation_names rows_named family_value table
families-listed = refl

not-written : (word text : List ℕ) (words : List Word) → find (is_text word) words ≡ None →
    list_any (λ some. bytes_eq (letters_of some) text) words ≡ true → is_written word text ≡ false
not-written word text [] none any = absurd (false≢true any)
not-written word text (some ∷ words) none any =
    let parts = none-parts (is_text word some) some (find (is_text word) words) none in
    elim (cases_Bool (bytes_eq (letters_of some) text)) [
      | inl same ↦
          subst (λ (xs : List ℕ). is_written word xs ≡ false) ((bytes_eq-Decides (letters_of some) text).0 same) parts.0
      | inr other ↦
          not-written word text words parts.1
          (sym (ap (λ b. b || list_any (λ some. bytes_eq (letters_of some) text) words) other) ∙ any)
    ]

not-at : (word : List ℕ) (some : Option (List ℕ)) → find (is_text word) word_list ≡ None → is_listed some ≡ true →
    is_name_at word some ≡ false
not-at word None none listed = refl
not-at word (Some text) none listed = not-written word text word_list none listed

no-value : (word : List ℕ) (some : Mnemonic) → find (is_text word) word_list ≡ None → list_all is_listed (names_of some) ≡ true →
    value_named some word ≡ None
no-value word some none listed =
    position-all-fail (is_name_at word) (names_of some)
    (λ k d below. not-at word (get_or (names_of some) k d) none (list_all-get_or is_listed (names_of some) k d listed below))

no-rows : (word : List ℕ) (n : ℕ) (rows : List Row) → find (is_text word) word_list ≡ None → list_all row_is_listed rows ≡ true →
    rows_named_from word n rows ≡ []
no-rows word n [] none listed = refl
no-rows word n (row ∷ rows) none listed =
    let parts = and_parts (row_is_listed row) (list_all row_is_listed rows) listed in
    λ i. if is_some (no-value word row.operands.mnemonic none parts.0 i) then n ∷ rows_named_from word (n + 1) rows
    else no-rows word (n + 1) rows none parts.1 i

pub rows-none : (word : List ℕ) → find (is_text word) word_list ≡ None → rows_named word ≡ []
unfolding rows_named
rows-none word none = no-rows word 0 table none rows-listed

pub family-none : (word : List ℕ) → find (is_text word) word_list ≡ None → family_value word ≡ 0
unfolding family_value
family-none word none =
    let parts = and_parts (list_all is_listed (names_of mnemonic.Alu)) (list_all is_listed (names_of mnemonic.Shift)) families-listed in
    λ i. unwrap_or (option_or (no-value word mnemonic.Alu none parts.0 i) (no-value word mnemonic.Shift none parts.1 i)) 0

-- ---- what the index says of a name

all-named : (word text : List ℕ) (family : ℕ) (rows : List ℕ) → is_written word text ≡ true → list_all (has_name text family) rows ≡ true →
    AreNamed word family rows
all-named word text family [] is all k d below = absurd (omega (arith, below))
all-named word text family (n ∷ rows) is all zero d below =
    same-value word text is (row_at n).operands.mnemonic ∙
    value-is (value_named (row_at n).operands.mnemonic text) (family_in (row_at n).operands.mnemonic family)
    (and_parts (has_name text family n) (list_all (has_name text family) rows) all).0
all-named word text family (n ∷ rows) is all (suc k) d below =
    all-named word text family rows is (and_parts (has_name text family n) (list_all (has_name text family) rows) all).1 k d
    (omega (arith, below))

pub record FoundRows (bytes : List ℕ) (word : Word) : Type 0 where
  pub order : word.from ≤ word.to
  pub within : word.to ≤ length row_list
  pub rows : rows_named bytes ≡ rows_of word
  pub family : family_value bytes ≡ word.family
  pub bound : list_all (λ n. nat_lt n row_count) (rows_of word) ≡ true
  pub named : AreNamed bytes word.family (rows_of word)

pub found-rows : (bytes : List ℕ) (word : Word) → find (is_text bytes) word_list ≡ Some word → FoundRows bytes word
found-rows bytes word found =
    let is = find-passes (is_text bytes) is_good word_list word found words-good in
    let bound = and_parts _ _ is.1 in
    let family = and_parts _ _ bound.0 in
    let rows = and_parts _ _ family.0 in
    let within = and_parts _ _ rows.0 in
    let order = and_parts _ _ within.0 in
    record {
      order = leb-true word.from word.to order.1;
      within = leb-true word.to (length row_list) within.1;
      rows =
          rows-same bytes (letters_of word) is.0 ∙
          (bytes_eq-Decides (rows_named (letters_of word)) (rows_of word)).0 rows.1;
      family = family-same bytes (letters_of word) is.0 ∙ eqb-true (family_value (letters_of word)) word.family family.1;
      bound = bound.1;
      named = all-named bytes (letters_of word) word.family (rows_of word) is.0 order.0;
    }

-- a word is an operation's name where it has rows
filled : (n : ℕ) → true ≡ not (suc n == 0)
filled n = grind (arith, nat_tests)

rows-or-none : (word : List ℕ) (n : ℕ) (rows : List Row) →
    list_any (λ row. is_some (value_named row.operands.mnemonic word)) rows ≡ not (length (rows_named_from word n rows) == 0)
rows-or-none word n [] = refl
rows-or-none word n (row ∷ rows) =
    elim (is_some (value_named row.operands.mnemonic word)) as
    (λ b. (b || list_any (λ row. is_some (value_named row.operands.mnemonic word)) rows) ≡
    not (length (if b then n ∷ rows_named_from word (n + 1) rows else rows_named_from word (n + 1) rows) == 0)) [
      | true ↦ filled (length (rows_named_from word (n + 1) rows))
      | false ↦ rows-or-none word (n + 1) rows
    ]

pub operation-has-rows : (word : List ℕ) → is_operation word ≡ not (length (rows_named word) == 0)
unfolding is_operation rows_named
operation-has-rows word = rows-or-none word 0 table

-- what is not a letter begins no name, and a letter begins those at its place
pub no-letter : (b : ℕ) → b < 256 → is_ascii_uppercase (to_ascii_uppercase b) ≡ false → [] ≡ filter (begins_with b) word_list
no-letter b below is =
    let empty : List Word = [] in
    sym (cond-false (is_ascii_uppercase (to_ascii_uppercase b)) _ empty is) ∙ bucket-is b below

pub at-letter : (b letter k from to : ℕ) (places : List ℕ) → b < 256 → letter ≡ to_ascii_uppercase b → true ≡ is_ascii_uppercase letter
    → k ≡ letter - 65 → places ≡ letter_list → from ≡ get_or places k 0 → to ≡ get_or places (k + 1) 0
    → slice_range word_list from to ≡ filter (begins_with b) word_list
at-letter b letter k from to places below upper is at are from_is to_is =
    rw (from_is, to_is, are, at, upper) (
    sym (cond-true (is_ascii_uppercase (to_ascii_uppercase b)) _ [] (ap is_ascii_uppercase (sym upper) ∙ sym is)) ∙ bucket-is b below)

pub letter-bounds : (k from to : ℕ) (places : List ℕ) → k < 26 → places ≡ letter_list → from ≡ get_or places k 0
    → to ≡ get_or places (k + 1) 0 → (from ≤ to) × (to ≤ length word_list)
letter-bounds k from to places below are from_is to_is =
    let parts = and_parts _ _ (in-order k below) in rw (from_is, to_is, are) (leb-true _ _ parts.0, leb-true _ _ parts.1)

-- ---- the first letter of bytes

pub first-none : (bytes : List ℕ) → None ≡ slice_get bytes 0 → None ≡ find (is_text bytes) word_list
first-none [] is = sym none-empty
first-none (b ∷ rest) is = absurd (cc)

pub first-some : (bytes : List ℕ) (b : ℕ) → Some b ≡ slice_get bytes 0 →
    find (is_text bytes) (filter (begins_with b) word_list) ≡ find (is_text bytes) word_list
first-some [] b is = absurd (cc)
first-some (x ∷ rest) b is =
    let same : b ≡ x = cc in
    ap (λ (y : ℕ). find (is_text (x ∷ rest)) (filter (begins_with y) word_list)) same ∙ found-by-letter x rest

-- ---- the numbers of rows

pub all-below : (limit : ℕ) (xs : List ℕ) → list_all (λ n. nat_lt n limit) xs ≡ true → (k d : ℕ) → k < length xs → get_or xs k d < limit
all-below limit xs all k d below = ltb-true (get_or xs k d) limit (list_all-get_or (λ n. nat_lt n limit) xs k d all below)
