-- Lists of one value, and how long a list by its places is.
use Rattle.pac_picture.proofs.Common.{List, get_or-replicate, length, length-replicate, length-tabulate, replicate, tabulate, tabulate-is}
use Rattle.pac_picture.proofs.Common.{ℕ, ◌≡◌}

-- a list of one value
pub repeated-is : {A : Type 0} (count : ℕ) (x : A) → replicate count x ≡ tabulate count (λ _. x)
repeated-is count x =
    tabulate-is (replicate count x) count (λ _. x) x (length-replicate count x) (λ k below. get_or-replicate count k x x below)

-- the length of a list by its places
pub length-is : {A : Type 0} (xs : List A) (count : ℕ) (value : ℕ → A) → xs ≡ tabulate count value → length xs ≡ count
length-is xs count value is = rw is (length-tabulate count value)
