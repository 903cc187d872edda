-- Rows, lines and symbols one after another.
use Rattle.pac_listing.proofs.Common.{Line, List, Some, Symbol, [], all_rows, arith, byte_columns, common_steps, drop, drop_more, first_row}
use Rattle.pac_listing.proofs.Common.{flat_map, further_row, further_rows, get_or_from_slice_get, hex_word, item_rows, length, line_rows}
use Rattle.pac_listing.proofs.Common.{lines_from, next_row_address, refl, row_bytes, rules, slice_get, slice_get_within, sym, symbol_row, ℕ}
use Rattle.pac_listing.proofs.Common.{ℤ, ◌++◌, ◌+◌, ◌<◌, ◌∷◌, ◌≡◌}

-- bytes that are left fill one row, and the bytes after it further ones
pub rows-more : (at : ℕ) (bytes : List ℕ) → 0 < length bytes
    → all_rows at bytes ≡ further_row at bytes ++ all_rows (next_row_address at) (drop row_bytes bytes)
unfolding further_rows
rows-more at bytes some = search rules

pub rows-none : (at : ℕ) (bytes : List ℕ) → length bytes ≡ 0 → all_rows at bytes ≡ []
unfolding further_rows
rows-none at bytes none = search rules

-- a line and its text, and those after them
pub lines-more : (number : ℕ) (line : Line) (later : List Line) (text : List ℕ) (after : List (List ℕ)) {lines : List Line}
    {texts : List (List ℕ)} → lines ≡ line ∷ later → texts ≡ text ∷ after
    → lines_from number lines texts ≡ line_rows number line text ++ lines_from (number + 1) later after
unfolding lines_from
lines-more number line later text after first shown = λ i. lines_from number (first i) (shown i)

-- no line is left
pub lines-none : (number : ℕ) (lines : List Line) (texts : List (List ℕ)) → length lines ≡ 0 → lines_from number lines texts ≡ []
unfolding lines_from
lines-none number lines texts none = grind (arith, common_steps)

-- no text is left
pub texts-none : (number : ℕ) (lines : List Line) → lines_from number lines [] ≡ []
unfolding lines_from
texts-none number [] = refl
texts-none number (line ∷ lines) = refl

-- an item of some bytes has one row, and further ones
pub item-more : (number at : ℕ) (bytes text address columns rest : List ℕ) → 0 < length bytes → address ≡ hex_word at
    → columns ≡ byte_columns bytes → rest ≡ drop row_bytes bytes
    → first_row number address columns text ++ all_rows (next_row_address at) rest ≡ item_rows number at bytes text
item-more number at bytes text address columns rest some here shown left = search rules

-- a symbol's row, and those after it
pub symbols-more : (symbols : List Symbol) (place : ℕ) (name : List ℕ) (passed : ℤ) {number : ℤ}
    → Some (name, number) ≡ slice_get symbols place → passed ≡ number
    → flat_map symbol_row (drop place symbols) ≡ symbol_row (name, passed) ++ flat_map symbol_row (drop (place + 1) symbols)
symbols-more symbols place name passed {number} there equal =
    let found = get_or_from_slice_get symbols place (name, number) (name, number) (sym there) in
    let inside = slice_get_within symbols place (name, number) (sym there) in grind (arith, drop_more)
