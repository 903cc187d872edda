-- Words that are the same whatever the case of their letters.
use Rattle.pac_lemmas.proofs.Common.{List, [], bytes_eq, false≢true, rules, slice_index, str_to_ascii_lowercase, to_ascii_lowercase, true}
use Rattle.pac_lemmas.proofs.Common.{ℕ, ◌==◌, ◌∷◌, ◌≡◌}

-- they begin with the same letter
pub same-first-letter : (b : ℕ) (rest letters : List ℕ) →
    bytes_eq (str_to_ascii_lowercase (b ∷ rest)) (str_to_ascii_lowercase letters) ≡ true →
    (to_ascii_lowercase (slice_index letters 0) == to_ascii_lowercase b) ≡ true
same-first-letter b rest [] is = absurd (false≢true is)
same-first-letter b rest (letter ∷ letters) is = search rules
