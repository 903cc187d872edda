-- Lines and columns of a sprite's box.
use Rattle.pac_sprites.proofs.Common.{arith, ints, is_in_box, le_z, nat_le, nat_lt, nat_tests, pos, ℕ, ℤ, ◌&&◌, ◌+ℤ◌, ◌<◌, ◌≡◌, ◌≤◌}

-- the columns at which a sprite shows, by the first of them and the first after them
pub columns-between : (left first last : ℤ) (x start end : ℕ) → first ≡ left → last ≡ left +ℤ pos 16 → 16 ≤ start → end ≤ 272 →
    (16 ≤ x → x < 272 → nat_le start x ≡ le_z first (pos x)) →
    (16 ≤ x → x < 272 → nat_le end x ≡ le_z last (pos x)) →
    (nat_le 16 x && nat_lt x 272 && is_in_box left x) ≡ (nat_le start x && nat_lt x end)
columns-between left first last x start end begins ends low high from until = grind (arith, ints, nat_tests)

-- they are in order: a place that is before the first of them can't be the first after them
pub columns-ordered : (left first last : ℤ) (start end : ℕ) → first ≡ left → last ≡ left +ℤ pos 16 → 16 ≤ end → start ≤ 272 →
    (16 ≤ end → end < 272 → nat_le start end ≡ le_z first (pos end)) →
    (16 ≤ end → end < 272 → nat_le end end ≡ le_z last (pos end)) →
    start ≤ end
columns-ordered left first last start end begins ends low high from until = grind (arith, ints, nat_tests)
