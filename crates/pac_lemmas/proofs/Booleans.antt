-- Truth values.
use Rattle.std.proofs.Common.{◌≡◌, Bool, true, false, ◌&&◌, ◌||◌, rules}

pub and-true : (b : Bool) → (b && true) ≡ b
and-true b = search rules

pub and-false : (b : Bool) → (b && false) ≡ false
and-false b = search rules

pub or-false : (b : Bool) → (b || false) ≡ b
or-false b = search rules

-- two tests that imply each other
pub same-by-implications : (a b : Bool) → (a ≡ true → b ≡ true) → (b ≡ true → a ≡ true) → a ≡ b
same-by-implications a b forward back = search rules
