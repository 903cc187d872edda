-- The bytes of what is told, number by number.
use Rattle.pac_block.proofs.Common.{List, [], arith, length, ran_bytes, refl, slice_index_or, ℕ, ◌∷◌, ◌≡◌}

-- four bytes, one by one
four-listed : (bytes : List ℕ) → length bytes ≡ 4
    → slice_index_or bytes 0 0 ∷ slice_index_or bytes 1 0 ∷ slice_index_or bytes 2 0 ∷ slice_index_or bytes 3 0 ∷ [] ≡ bytes
four-listed (a ∷ b ∷ c ∷ d ∷ []) long = refl
four-listed bytes long = absurd (omega (arith, long))

pub returns : Rattle.pac_block.proofs.ran.bytes_of.Goals.returns
unfolding ran_bytes
returns c =
    let ran = c.args.ran.now in
    let long : length ran.bytes ≡ 4 = omega (arith, c.type_inv.ran) in
    let four = four-listed ran.bytes long in
    rw (c.to_le_bytes.ensures, c.to_le_bytes-2.ensures, c.to_le_bytes-3.ensures, c.to_le_bytes-4.ensures, c.to_le_bytes-5.ensures, ← four)
