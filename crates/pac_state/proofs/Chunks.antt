-- A list that is cut into pieces of one length.
use Rattle.pac_state.proofs.Common.{List, [], ap, arith, drop, drop-drop, first_chunks, get_or, length, refl, rules, suc, tabulate}
use Rattle.pac_state.proofs.Common.{tabulate-is, take, zero, ℕ, ◌*◌, ◌+◌, ◌<◌, ◌≡◌}

long : {X : Type 0} (width count : ℕ) (xs : List X) → length (first_chunks width count xs) ≡ count
long width zero xs = refl
long width (suc count) xs = ap suc (long width count (drop width xs))

at-chunk : {X : Type 0} (width count : ℕ) (xs : List X) (y : ℕ) → y < count
    → get_or (first_chunks width count xs) y [] ≡ take width (drop (width * y) xs)
at-chunk width zero xs y below = absurd (omega (arith, below))
at-chunk width (suc count) xs zero below = search rules
at-chunk width (suc count) xs (suc y) below =
    let more : width + width * y ≡ width * suc y = omega arith in
    cc (at-chunk width count (drop width xs) y (omega (arith, below)), drop-drop (width * y) width xs, more)

pub chunks-are : {X : Type 0} (width count : ℕ) (xs : List X)
    → first_chunks width count xs ≡ tabulate count (λ y. take width (drop (width * y) xs))
chunks-are width count xs = tabulate-is _ count _ [] (long width count xs) (at-chunk width count xs)
