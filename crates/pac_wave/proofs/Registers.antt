-- Registers that are the same eight by eight are the same.
use Rattle.std.proofs.Common.{List, arith, drop, length, nat_eq, rules, sym, take, true, w64, ℕ, ◌+◌, ◌∙◌, ◌≡◌}
use Rattle.std.specs.Int.{to_le_bytes}
use Rattle.std.proofs.Math.Seq.{take-add}
use Rattle.std.proofs.lemmas.List.{take_all}

more : (xs ys : List ℕ) (n : ℕ) → take n xs ≡ take n ys → take 8 (drop n xs) ≡ take 8 (drop n ys) → take (n + 8) xs ≡ take (n + 8) ys
more xs ys n before next = cc (take-add n 8 xs, take-add n 8 ys)

pub same-eights : (xs ys : List ℕ) → length xs ≡ 32 → length ys ≡ 32 → take 8 (drop 0 xs) ≡ take 8 (drop 0 ys)
    → take 8 (drop 8 xs) ≡ take 8 (drop 8 ys) → take 8 (drop 16 xs) ≡ take 8 (drop 16 ys) → take 8 (drop 24 xs) ≡ take 8 (drop 24 ys)
    → xs ≡ ys
same-eights xs ys long too a b c d =
    sym (take_all 32 xs (omega (arith, long)))
    ∙ more xs ys 24 (more xs ys 16 (more xs ys 8 a b) c) d
    ∙ take_all 32 ys (omega (arith, too))

-- eight bytes that make the same number are the same
pub eight-same : (a b : ℕ) (xs ys : List ℕ) → to_le_bytes w64 a ≡ xs → to_le_bytes w64 b ≡ ys → nat_eq a b ≡ true → xs ≡ ys
eight-same a b xs ys is too same = search rules
