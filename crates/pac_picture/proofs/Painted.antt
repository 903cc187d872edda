-- Sprites painted one over another.
use Rattle.pac_picture.proofs.Common.{Bool, List, [], arith, find, if◌then◌else◌, is_opaque, painted_number, refl, suc, sym}
use Rattle.pac_picture.proofs.Common.{tabulate, unwrap_or, zero, ℕ, ◌-◌, ◌<◌, ◌∙◌, ◌∷◌, ◌≡◌}
use Rattle.std.specs.Prelude.{Some}

-- the last of eight numbers painted first, this many of them
unfoldable pub painted : ℕ → (ℕ → ℕ) → ℕ → ℕ
painted zero numbers below = below
painted (suc count) numbers below = painted_number (numbers (7 - count)) (painted count numbers below)

-- a list of numbers painted over another, the last of them first
over_all : List ℕ → ℕ → ℕ
over_all [] below = below
over_all (number ∷ rest) below = painted_number number (over_all rest below)

first : (opaque : Bool) (number : ℕ) (rest : List ℕ) (below : ℕ) →
    unwrap_or (if opaque then Some number else find is_opaque rest) below
    ≡ (if opaque then number else unwrap_or (find is_opaque rest) below)
first opaque number rest below = grind arith

find-over : (numbers : List ℕ) (below : ℕ) → unwrap_or (find is_opaque numbers) below ≡ over_all numbers below
unfolding over_all
find-over [] below = refl
find-over (number ∷ rest) below = rw (first (is_opaque number) number rest below, find-over rest below)

-- the first of all eight
pub painted-first : (numbers : ℕ → ℕ) (below : ℕ) → painted 8 numbers below ≡ unwrap_or (find is_opaque (tabulate 8 numbers)) below
unfolding painted tabulate over_all
painted-first numbers below = sym (find-over (tabulate 8 numbers) below)

-- none that shows
pub unpainted : (count : ℕ) (numbers : ℕ → ℕ) (below : ℕ) → ((k under : ℕ) → k < 8 → under ≡ painted_number (numbers k) under) →
    painted count numbers below ≡ below
unfolding painted
unpainted zero numbers below clear = refl
unpainted (suc count) numbers below clear =
    rw (← clear (7 - count) (painted count numbers below) (omega arith)) (unpainted count numbers below clear)

pub none-painted : (numbers : ℕ → ℕ) (below : ℕ) → ((k under : ℕ) → k < 8 → under ≡ painted_number (numbers k) under) →
    below ≡ unwrap_or (find is_opaque (tabulate 8 numbers)) below
none-painted numbers below clear = sym (unpainted 8 numbers below clear) ∙ painted-first numbers below
