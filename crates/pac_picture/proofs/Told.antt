-- Sprites painted one over another, from bit to bit of those that tell whose box a line has.
use Rattle.std.proofs.Common.{rules}
use Rattle.pac_picture.proofs.Common.{Bool, arith, false, if◌then◌else◌, nat_lt, nat_tests, painted_number, painted_yet, refl, suc, sym}
use Rattle.pac_picture.proofs.Common.{told_number, true, zero, ℕ, ◌%◌, ◌*◌, ◌+◌, ◌-◌, ◌/◌, ◌<◌, ◌==◌, ◌^◌, ◌∙◌, ◌≡◌, ◌≢◌, ◌≤◌, ◌&&◌}
use Rattle.pac_picture.proofs.Painted.{painted, unpainted}
use Rattle.std.proofs.Math.Nat.{div-eq_of_lt, mod-eq_of_lt, mod-lt, pow-le-pow_right, pow-suc}
use Rattle.std.proofs.Math.Pow.{field, mod-mod-pow}
use Rattle.std.proofs.lemmas.Nat.{leading_top, pow_pos}
use Rattle.std.specs.Int.Count.{count_leading_zeros}

-- a number that leaves what it is painted over
abbrev pub IsClear : ℕ → Type 0
IsClear number = (under : ℕ) → under ≡ painted_number number under

-- ---- bits of a number

-- below a power of 2 those of the remainder are those of the number
pub bit-below : (n place i : ℕ) → i < place → n % 2 ^ place / 2 ^ i % 2 ≡ n / 2 ^ i % 2
bit-below n place i below =
    let j : ℕ = place - i - 1 in
    let sum : place ≡ (j + 1) + i = omega (arith, below) in
    rw (sum, field n (j + 1) i) (mod-mod-pow (n / 2 ^ i) j 1)

-- above the highest there is none
pub bit-above : (n i : ℕ) → n < 2 ^ i → n / 2 ^ i % 2 ≡ 0
bit-above n i less = rw (div-eq_of_lt less) refl

-- and that one is set
pub bit-top : (n place : ℕ) → 2 ^ place ≤ n → n < 2 ^ suc place → n / 2 ^ place % 2 ≡ 1
bit-top n place least less = search rules

-- ---- numbers painted

-- the same numbers come to the same
painted-same : (count : ℕ) (one other : ℕ → ℕ) (below : ℕ) → count ≤ 8 → ((k : ℕ) → k < 8 → one k ≡ other k)
    → painted count one below ≡ painted count other below
unfolding painted
painted-same zero one other below few same = refl
painted-same (suc count) one other below few same =
    rw (same (7 - count) (omega arith), painted-same count one other below (omega (arith, few)) same) refl

module _ (k : ℕ) (after before : ℕ → ℕ) (below : ℕ) (inside : k < 8) (same : (j : ℕ) → j < 8 → k < j → after j ≡ before j)
    (clear : (j : ℕ) → j < k → IsClear (after j) × IsClear (before j)) (open_yet : IsClear (before k)) where
  -- those behind it are the same
  behind : (count : ℕ) → count + k < 8 → painted count after below ≡ painted count before below
  unfolding painted
  behind zero few = refl
  behind (suc count) few = rw (same (7 - count) (omega arith) (omega (arith, few)), behind count (omega (arith, few))) refl

  -- Numbers that are the same but for one, which was clear, and before which all are clear: it is painted over the others.
  painted-but-one : (count : ℕ) → 8 ≤ count + k → count ≤ 8
      → painted count after below ≡ painted_number (after k) (painted count before below)
  unfolding painted
  painted-but-one zero many few = absurd (omega (arith, many, inside))
  painted-but-one (suc count) many few = at-it (nat_lt (count + k) 8) refl (λ most. painted-but-one count most (omega (arith, few)))
    where
      at-it : (b : Bool) → nat_lt (count + k) 8 ≡ b
          → (8 ≤ count + k → painted count after below ≡ painted_number (after k) (painted count before below))
          → painted (suc count) after below ≡ painted_number (after k) (painted (suc count) before below)
      at-it true is before_it = grind (arith, behind, painted)
      at-it false is before_it =
          let most : 8 ≤ count + k = grind (arith, nat_tests) in
          let place : 7 - count < k = omega (arith, most, few, inside) in
          sym ((clear (7 - count) place).0 (painted count after below)) ∙ before_it most
          ∙ rw (← (clear (7 - count) place).1 (painted count before below)) refl

-- ---- from bit to bit

-- the highest place of a number
pub record IsHighest (left place : ℕ) : Type 0 where
  pub least : 2 ^ place ≤ left
  pub less : left < 2 ^ suc place
  pub power : 1 * 2 ^ place % 2 ^ 64 ≡ 2 ^ place

pub highest : (left : ℕ) → 0 < left → left < 2 ^ 64 → IsHighest left (63 - count_leading_zeros 64 left)
highest left some below =
    let top = leading_top 64 left some below in
    let place : 63 - count_leading_zeros 64 left ≡ top.0 = omega arith in
    let least = top.2 in grind (arith, mod-eq_of_lt)

-- numbers of which none is painted yet
pub none-yet : (left : ℕ) (numbers : ℕ → ℕ) (below : ℕ)
    → ((k : ℕ) → k < 8 → left / 2 ^ (2 * k) % 2 ≡ 0 → IsClear (numbers k))
    → below ≡ painted 8 (painted_yet left numbers) below
none-yet left numbers below clear = grind (arith, unpainted)

-- where no bit is left all are painted
pub all-painted : (left : ℕ) (numbers : ℕ → ℕ) (below : ℕ) → left ≡ 0
    → painted 8 (painted_yet left numbers) below ≡ painted 8 numbers below
all-painted left numbers below none = search rules

-- a bit that is out below the highest was out before
pub still-out : (left place i : ℕ) → 2 ^ place ≤ left → 2 ^ i ≤ left % 2 ^ place → left % 2 ^ place / 2 ^ i % 2 ≡ 0
    → (2 ^ i ≤ left) × (left / 2 ^ i % 2 ≡ 0)
still-out left place i least some out = grind (arith, bit-below, mod-lt, pow-le-pow_right, pow_pos)

module _ (left place : ℕ) (numbers : ℕ → ℕ) (below : ℕ) (top : IsHighest left place)
    (clear : (k : ℕ) → k < 8 → 2 ^ (2 * k) ≤ left → left / 2 ^ (2 * k) % 2 ≡ 0 → IsClear (numbers k)) where
  abbrev after : ℕ → ℕ
  after = painted_yet (left % 2 ^ place) numbers

  abbrev before : ℕ → ℕ
  before = painted_yet left numbers

  rest-less : left % 2 ^ place < 2 ^ place
  rest-less = mod-lt left (pow_pos place)

  -- behind the highest both have all
  above : (j : ℕ) → place < 2 * j → after j ≡ before j
  above j less = grind (arith, bit-above, pow-le-pow_right, pow-suc, rest-less)

  -- and before it both have the same
  same-below : (j : ℕ) → 2 * j < place → after j ≡ before j
  same-below j less = rw (bit-below left place (2 * j) less) refl

  -- before it none is left to be seen
  below-clear : (j : ℕ) → j < 8 → 2 * j < place → (b : Bool) → (left / 2 ^ (2 * j) % 2 == 1) ≡ b → IsClear (if b then 0 else numbers j)
  below-clear j few less b is under = grind (arith, pow-le-pow_right)

  -- it is the one that is painted next
  pub next-painted : painted 8 after below ≡ painted_number (told_number place numbers) (painted 8 before below)
  next-painted = by-place (place % 2 == 0) refl (nat_lt place 16) refl
    where
      apart : (j : ℕ) → 2 * j ≢ place → (b : Bool) → nat_lt (2 * j) place ≡ b → after j ≡ before j
      apart j other true is = same-below j (grind (arith, nat_tests))
      apart j other false is = above j (grind (arith, nat_tests))

      by-place : (even : Bool) → (place % 2 == 0) ≡ even → (few : Bool) → nat_lt place 16 ≡ few
          → painted 8 after below ≡ painted_number (if even && few then numbers (place / 2) else 0) (painted 8 before below)
      by-place true even true few =
          let k : ℕ = place / 2 in
          let twice : 2 * k ≡ place = grind (arith, nat_tests) in
          let inside : k < 8 = grind (arith, nat_tests) in
          let now_is : after k ≡ numbers k
          = rw (twice, bit-above (left % 2 ^ place) place rest-less) refl in
          let open_yet : IsClear (before k) = λ under. rw (twice, bit-top left place top.least top.less) refl in
          painted-but-one k after before below inside (λ j few less. above j (omega (arith, less, twice)))
          (λ j less. grind (arith, below-clear, same-below)) open_yet 8 (omega arith) (omega arith)
          ∙ rw now_is refl
      by-place true even false few =
          let most : 16 ≤ place = grind (arith, nat_tests) in
          painted-same 8 after before below (omega arith)
          (λ j inside. apart j (λ same. absurd (omega (arith, same, most, inside))) (nat_lt (2 * j) place) refl)
      by-place false even b few =
          let odd : place % 2 ≡ 1 = grind (arith, nat_tests) in
          painted-same _ _ _ _ (omega arith) (λ j inside. apart j (λ same. absurd (omega (arith, same, odd))) (nat_lt (2 * j) place) refl)
