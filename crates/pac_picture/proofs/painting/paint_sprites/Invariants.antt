-- Those sprites are painted of which no bit is left; and those before the highest bit that is left, of which none is, have no box on the line.
use Rattle.pac_picture.proofs.Common.{false, get_or, is_in_box, painted_yet, sprite_at, sprite_dot, ℕ, ◌%◌, ◌*◌, ◌/◌, ◌<◌, ◌^◌, ◌≡◌, ◌≤◌}
use Rattle.pac_picture.proofs.Painted.{painted}

abbrev pub invariant-loop-left : Rattle.pac_picture.proofs.painting.paint_sprites.Given.invariant-loop-left
invariant-loop-left l = record {
  dots : (x : ℕ) → x < 288 → get_or l.out x 0
      ≡ painted 8 (painted_yet l.left (λ k. sprite_dot l.graphics (sprite_at l.screen k) x l.y)) (get_or l.initial.out x 0);
  clear : (k : ℕ) → k < 8 → 2 ^ (2 * k) ≤ l.left → l.left / 2 ^ (2 * k) % 2 ≡ 0 → is_in_box (sprite_at l.screen k).top l.y ≡ false;
}

abbrev pub decreases-loop-left : Rattle.pac_picture.proofs.painting.paint_sprites.Given.decreases-loop-left
decreases-loop-left l = l.left
