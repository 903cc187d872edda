-- Believed: the number of a line as digits in ASCII (this profile).
use Rattle.std.specs.Prelude.{ℕ, ◌+◌, ◌/◌, ◌%◌, List, [], ◌∷◌}

-- the last five decimal digits of a line's number
abbrev pub decimal_digit : ℕ → ℕ
decimal_digit n = 48 + n % 10

unfoldable pub five_digits : ℕ → List ℕ
five_digits n =
    decimal_digit (n / 10000) ∷ decimal_digit (n / 1000) ∷ decimal_digit (n / 100) ∷ decimal_digit (n / 10) ∷ decimal_digit n ∷ []
