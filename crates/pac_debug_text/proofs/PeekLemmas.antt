-- Bytes, rows and instructions one after another.
use Rattle.pac_debug_text.proofs.Common.{List, [], ap, bytes_from, flat_map, instructions_text, line_text, memory_row_bytes, memory_text}
use Rattle.pac_debug_text.proofs.Common.{min, row_text, rows_text, rules, size_at, spaced_byte, wrapped_address, ℕ, ◌++◌, ◌+◌, ◌-◌, ◌<◌}
use Rattle.pac_debug_text.proofs.Common.{◌≡◌}

-- the bytes that are left, as text
abbrev pub bytes_text : (ℕ → ℕ) → ℕ → ℕ → List ℕ
bytes_text byte at count = flat_map spaced_byte (bytes_from byte at count)

pub bytes-more : (byte : ℕ → ℕ) (at count done shown : ℕ) → done < count → shown ≡ byte at
    → bytes_text byte at (count - done) ≡ spaced_byte shown ++ bytes_text byte (wrapped_address (at + 1)) (count - (done + 1))
unfolding bytes_from
bytes-more byte at count done shown some seen = search rules

pub bytes-none : (byte : ℕ → ℕ) (at left : ℕ) → left ≡ 0 → bytes_text byte at left ≡ []
unfolding bytes_from
bytes-none byte at left is = ap (bytes_text byte at) is

pub rows-more : (byte : ℕ → ℕ) (at left shown : ℕ) → 0 < left → shown ≡ min left memory_row_bytes
    → memory_text byte at left ≡ row_text byte at shown ++ memory_text byte (wrapped_address (at + memory_row_bytes)) (left - shown)
unfolding rows_text
rows-more byte at left shown some seen = search rules

pub rows-none : (byte : ℕ → ℕ) (at left : ℕ) → left ≡ 0 → memory_text byte at left ≡ []
unfolding rows_text
rows-none byte at left is = ap (memory_text byte at) is

pub instructions-more : (byte : ℕ → ℕ) (at count done : ℕ) (code : List ℕ) → done < count → code ≡ bytes_from byte at 4
    → instructions_text byte (count - done) at
    ≡ line_text at code ++ instructions_text byte (count - (done + 1)) (wrapped_address (at + size_at code))
unfolding instructions_text
instructions-more byte at count done code some seen = search rules

pub instructions-none : (byte : ℕ → ℕ) (at left : ℕ) → left ≡ 0 → instructions_text byte left at ≡ []
unfolding instructions_text
instructions-none byte at left is = ap (λ n. instructions_text byte n at) is
