-- 32 colour numbers that are compared as words of eight.
use Rattle.pac_media.proofs.Common.{IsTrue, List, arith, bit_at-lt, bit_at-zero, bit_at_or, bit_at_xor, bit_or, bit_xor, drop, drop-drop}
use Rattle.pac_media.proofs.Common.{drop-take, eqb, eqb-true, from_le_bytes, refl, rules, same_from_bits, take, take-add, take-take}
use Rattle.pac_media.proofs.Common.{to_le_bytes, w64, xor_self, ℕ, ◌++◌, ◌+◌, ◌<◌, ◌^◌, ◌↔◌, ◌≡◌, ◌≤◌}

-- eight numbers and what they are as one word
pub record IsWord (word : ℕ) (numbers : List ℕ) : Type 0 where
  pub bytes : to_le_bytes w64 word ≡ numbers
  pub back : from_le_bytes w64 numbers ≡ word

pub is-word : (word : ℕ) (numbers : List ℕ) → word < 2 ^ 64 → to_le_bytes w64 word ≡ numbers → IsWord word numbers
is-word word numbers fits read = search rules

-- 32 numbers by their blocks
in-blocks : (start : ℕ) (xs : List ℕ) → take 32 (drop start xs)
    ≡ take 8 (drop start xs) ++ (take 8 (drop (start + 8) xs) ++ (take 8 (drop (start + 16) xs) ++ take 8 (drop (start + 24) xs)))
in-blocks start xs =
    let second : start + 8 + 8 ≡ start + 16 = omega arith in
    let third : start + 16 + 8 ≡ start + 24 = omega arith in
    rw (
      take-add 8 24 (drop start xs),
      drop-drop 8 start xs,
      take-add 8 16 (drop (start + 8) xs),
      drop-drop 8 (start + 8) xs,
      second,
      take-add 8 8 (drop (start + 16) xs),
      drop-drop 8 (start + 16) xs,
      third,
    )

parts-same : (one other : List ℕ) (start : ℕ) → take 8 (drop start one) ≡ take 8 (drop start other) →
    take 8 (drop (start + 8) one) ≡ take 8 (drop (start + 8) other) → take 8 (drop (start + 16) one) ≡ take 8 (drop (start + 16) other) →
    take 8 (drop (start + 24) one) ≡ take 8 (drop (start + 24) other) → take 32 (drop start one) ≡ take 32 (drop start other)
parts-same one other start first second third fourth = grind (arith, in-blocks)

-- what four pairs of words tell
or-none : (a b : ℕ) → bit_or a b ≡ 0 → (a ≡ 0) × (b ≡ 0)
or-none a b none = (
  same_from_bits a 0 (λ i. grind (arith, bit_at_or a b i, bit_at-zero i)),
  same_from_bits b 0 (λ i. grind (arith, bit_at_or a b i, bit_at-zero i)),
)

xor-none : (a b : ℕ) → bit_xor a b ≡ 0 → a ≡ b
xor-none a b none = same_from_bits a b (λ i. omega (arith, bit_at_xor a b i, bit_at-lt a i, bit_at-lt b i))

-- eight of 32 numbers
part-of : (start before rest : ℕ) (xs : List ℕ) → before + rest ≡ 32 → 8 ≤ rest →
    take 8 (drop (start + before) xs) ≡ take 8 (drop before (take 32 (drop start xs)))
part-of start before rest xs sum within = rw (← sum, drop-take, take-take 8 rest _ within, drop-drop)

pub four-same : (one other : List ℕ) (start a b c d p q r s : ℕ) →
    IsWord a (take 8 (drop start one)) → IsWord p (take 8 (drop start other)) →
    IsWord b (take 8 (drop (start + 8) one)) → IsWord q (take 8 (drop (start + 8) other)) →
    IsWord c (take 8 (drop (start + 16) one)) → IsWord r (take 8 (drop (start + 16) other)) →
    IsWord d (take 8 (drop (start + 24) one)) → IsWord s (take 8 (drop (start + 24) other)) →
    IsTrue (eqb (bit_or (bit_or (bit_or (bit_xor a p) (bit_xor b q)) (bit_xor c r)) (bit_xor d s)) 0)
    ↔ (take 32 (drop start one) ≡ take 32 (drop start other))
four-same one other start a b c d p q r s is_a is_p is_b is_q is_c is_r is_d is_s =
    let equal : (m n : ℕ) (xs ys : List ℕ) → bit_xor m n ≡ 0 → IsWord m xs → IsWord n ys → xs ≡ ys =
    λ m n xs ys none read also. cc (read.bytes, also.bytes, xor-none m n none) in
    let none : (m n : ℕ) (xs ys : List ℕ) → xs ≡ ys → IsWord m xs → IsWord n ys → bit_xor m n ≡ 0 =
    λ m n xs ys same read also. cc (read.back, also.back, same, xor_self n) in (
      λ is.
          let last = or-none _ _ (eqb-true _ 0 is) in
          let third = or-none _ _ last.0 in
          let second = or-none _ _ third.0 in
          parts-same one other start (equal a p _ _ second.0 is_a is_p) (equal b q _ _ second.1 is_b is_q) (equal c r _ _ third.1 is_c is_r)
          (equal d s _ _ last.1 is_d is_s),
      λ same.
          let part : (before rest : ℕ) → before + rest ≡ 32 → 8 ≤ rest
          → take 8 (drop (start + before) one) ≡ take 8 (drop (start + before) other) =
          λ before rest sum within. cc (part-of start before rest one sum within, same, part-of start before rest other sum within) in
          let begins = part 0 32 refl (omega arith) in
          let first : take 8 (drop start one) ≡ take 8 (drop start other) = cc (begins, drop-drop 0 start one, drop-drop 0 start other) in
          rw (
            none a p _ _ first is_a is_p,
            none b q _ _ (part 8 24 refl (omega arith)) is_b is_q,
            none c r _ _ (part 16 16 refl (omega arith)) is_c is_r,
            none d s _ _ (part 24 8 refl (omega arith)) is_d is_s,
          ) refl,
    )
