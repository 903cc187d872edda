-- Lines one after another.
use Rattle.pac_dis.proofs.Common.{List, [], ap, arith, common_steps, drop, length, line_text, lines_after, refl, rules, size_at, suc}
use Rattle.pac_dis.proofs.Common.{wrapped_address, zero, ℕ, ◌++◌, ◌+◌, ◌-◌, ◌<◌, ◌∷◌, ◌≡◌, ◌≤◌}

address-same : (at : ℕ) → at < 65536 → at ≡ wrapped_address (at + 0)
address-same at below = omega (arith, below)

address-further : (at shown : ℕ) → wrapped_address (wrapped_address (at + 1) + shown) ≡ wrapped_address (at + suc shown)
address-further at shown = omega arith

address-below : (at : ℕ) → wrapped_address at < 65536
address-below at = omega arith

-- bytes of which so many stand in a line before
lines-later : (shown at : ℕ) (bytes : List ℕ) → at < 65536
    → lines_after shown at bytes ≡ lines_after 0 (wrapped_address (at + shown)) (drop shown bytes)
unfolding lines_after
lines-later zero at bytes below = ap (λ a. lines_after 0 a bytes) (address-same at below)
lines-later (suc shown) at [] below = refl
lines-later (suc shown) at (byte ∷ bytes) below =
    cc (lines-later shown (wrapped_address (at + 1)) bytes (address-below (at + 1)), address-further at shown)

-- what follows the line that bytes begin with
abbrev pub later_lines : ℕ → List ℕ → List ℕ
later_lines at bytes = lines_after (size_at bytes - 1) (wrapped_address (at + 1)) (drop 1 bytes)

-- bytes that are left begin a line
pub lines-more : (at : ℕ) (bytes : List ℕ) → 0 < length bytes → lines_after 0 at bytes ≡ line_text at bytes ++ later_lines at bytes
unfolding lines_after
lines-more at bytes more = search rules

-- and what follows is the lines of the bytes that it doesn't show
pub lines-rest : (at size : ℕ) (bytes : List ℕ) → size ≡ size_at bytes → 1 ≤ size
    → later_lines at bytes ≡ lines_after 0 (wrapped_address (at + size)) (drop size bytes)
lines-rest at size bytes is some = grind (arith, address-below, address-further, lines-later)

pub lines-none : (at : ℕ) (bytes : List ℕ) → length bytes ≡ 0 → lines_after 0 at bytes ≡ []
unfolding lines_after
lines-none at bytes none = grind (arith, common_steps)
