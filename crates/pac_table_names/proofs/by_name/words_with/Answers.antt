use Rattle.pac_table_names.proofs.Common.{List, Word, ap, arith, get_or, is_ascii_uppercase, length, letter_list, slice_range, sym, ℕ, ◌+◌}
use Rattle.pac_table_names.proofs.Common.{◌-◌, ◌<◌, ◌∙◌}
use Rattle.pac_table_names.proofs.Index.{no-letter, at-letter, letter-bounds, letter-count}
use Rattle.pac_table_names.proofs.by_name.words_with.Goals as goal

pub returns-then-not-is_ascii_uppercase : goal.returns-then-not-is_ascii_uppercase
returns-then-not-is_ascii_uppercase c =
    no-letter c.args.first c.ranges.first.fits
    (ap is_ascii_uppercase (sym c.to_ascii_uppercase-letter.ensures.value) ∙ sym c.if-not-is_ascii_uppercase.ensures.value)

pub bounds-places-letter : goal.bounds-places-letter
bounds-places-letter c =
    omega (arith, letter-count, ap length c.letter_list-places.ensures, c.if-not-is_ascii_uppercase.ensures.cases, c.from-letter.ensures)

pub bounds-places-letter-2 : goal.bounds-places-letter-2
bounds-places-letter-2 c =
    omega (arith, letter-count, ap length c.letter_list-places.ensures, c.if-not-is_ascii_uppercase.ensures.cases, c.from-letter.ensures)

pub part-requires-clause-order : goal.part-requires-clause-order
part-requires-clause-order c = λ _.
    let below : c.from-letter.result < 26 = omega (arith, c.if-not-is_ascii_uppercase.ensures.cases, c.from-letter.ensures) in
    (letter-bounds _ _ _ _ below c.letter_list-places.ensures c.from-from.ensures c.from-to.ensures).0

pub part-requires-clause-within : goal.part-requires-clause-within
part-requires-clause-within c = λ _.
    let below : c.from-letter.result < 26 = omega (arith, c.if-not-is_ascii_uppercase.ensures.cases, c.from-letter.ensures) in
    let bounds = letter-bounds _ _ _ _ below c.letter_list-places.ensures c.from-from.ensures c.from-to.ensures in
    omega (arith, bounds.1, ap length c.words.ensures)

pub returns : goal.returns
returns c =
    c.part.ensures ∙ ap (λ (xs : List Word). slice_range xs c.from-from.result c.from-to.result) c.words.ensures ∙
    at-letter c.args.first _ _ _ _ _ c.ranges.first.fits c.to_ascii_uppercase-letter.ensures.value
    c.if-not-is_ascii_uppercase.ensures.value c.from-letter.ensures c.letter_list-places.ensures c.from-from.ensures c.from-to.ensures
