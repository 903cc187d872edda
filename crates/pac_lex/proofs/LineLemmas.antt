-- The first of the lines of a text.
use Rattle.pac_lex.proofs.Common.{Bool, List, None, Some, [], after_first, ap, arith, before_first, cases_lt, cond-false, cond-true}
use Rattle.pac_lex.proofs.Common.{cond_some, drop, drop-drop, eqb, length, length-slice_split, lines, lines_of_parts, lt-ltb, ltb, ltb-true}
use Rattle.pac_lex.proofs.Common.{ne_eqb, none-some, not-true, position, position_or_len, prefix_len_passes, refl, rules, slice_split}
use Rattle.pac_lex.proofs.Common.{slice_split_first, slice_split_none, strip_carriage_return, take, ℕ, ◌<◌, ◌∙◌, ◌∷◌, ◌≡◌}

abbrev is_feed : ℕ → Bool
is_feed b = eqb b 10

lines-of-more : (x : List ℕ) (parts : List (List ℕ)) → 0 < length parts
    → lines_of_parts (x ∷ parts) ≡ strip_carriage_return x ∷ lines_of_parts parts
lines-of-more x parts h = search rules

pub lines-first : (bs : List ℕ) (end : ℕ) → position (λ b. eqb b 10) bs ≡ Some end
    → lines bs ≡ strip_carriage_return (take end bs) ∷ lines (drop 1 (drop end bs))
lines-first bs end e =
    let p = cond_some (ltb (position_or_len is_feed bs) (length bs)) (position_or_len is_feed bs) end e in
    let split = slice_split_first is_feed bs 0 (ltb-true _ _ p.0) in
    let more =
    lines-of-more (before_first is_feed bs) (slice_split is_feed (after_first is_feed bs))
    (omega (arith, length-slice_split is_feed (after_first is_feed bs))) in
    ap lines_of_parts split ∙ more ∙ rw (p.1, drop-drop 1 end bs) refl

pub lines-last : (bs : List ℕ) → 0 < length bs → position (λ b. eqb b 10) bs ≡ None → lines bs ≡ bs ∷ []
lines-last bs some e =
    grind (arith, cases_lt, cond-false, cond-true, lt-ltb, ne_eqb, none-some, not-true, prefix_len_passes, slice_split_none)
