-- The first byte that passes a test, as a search tells it and by counting.
use Rattle.pac_lex.proofs.Common.{Bool, IsFirstByte, List, arith, cond-false, cond-true, false_from_ne_true, le-ltb, length, lt-ltb}
use Rattle.pac_lex.proofs.Common.{position_or_len, position_or_len_is, ℕ, ◌≡◌}
use Rattle.std.specs.Prelude.{Option, Some, None, position}

pub first-place : (test : ℕ → Bool) (bytes : List ℕ) (found : Option ℕ) → IsFirstByte test bytes found → found ≡ position test bytes
first-place test bytes None is =
    let at : position_or_len test bytes ≡ length bytes =
    position_or_len_is test bytes (length bytes) 0 (omega arith) (λ k below. false_from_ne_true _ (is k (omega arith) below))
    (λ below. absurd (omega arith)) in grind (arith, cond-false, le-ltb)
first-place test bytes (Some k) is = grind (arith, cond-true, false_from_ne_true, lt-ltb, position_or_len_is)
