use Rattle.pac_picture.proofs.Common.{arith, painted_number, sprite_at, sprite_dot, sym, told_number, ℕ, ◌*◌, ◌-◌, ◌∙◌, ap}
use Rattle.pac_picture.proofs.Boxes.{bit-none}
use Rattle.pac_picture.proofs.Dots.{dot-off}
use Rattle.pac_picture.proofs.Painted.{painted-first}
use Rattle.pac_picture.proofs.Told.{all-painted, highest, next-painted, none-yet, still-out}
use Rattle.std.proofs.Math.Nat.{mod-lt}
use Rattle.std.proofs.lemmas.Nat.{pow_pos}
use Rattle.std.specs.Int.Count.{count_leading_zeros}
use Rattle.pac_picture.proofs.painting.paint_sprites.Goals as goal

pub loop-left-init : goal.loop-left-init
loop-left-init c = record {
  dots = λ x inside. none-yet c.args.boxes _ _
      (λ k few none under. dot-off c.args.graphics.now _ x c.args.y under (bit-none _ (sym (c.requires k few) ∙ none)));
  clear = λ k few some none. bit-none _ (sym (c.requires k few) ∙ none);
}

pub loop-left-smaller : goal.loop-left-smaller
loop-left-smaller c =
    let top = highest c.loop-left.left (omega (arith, c.loop-left-test.true)) (omega (arith, c.loop-left.auto.left-fits)) in
    let rest = mod-lt c.loop-left.left (pow_pos (63 - count_leading_zeros 64 c.loop-left.left)) in
    let least = top.least in
    rw top.power (omega (arith, rest, least))

pub loop-left-preserved : goal.loop-left-preserved
loop-left-preserved c =
    let left = c.loop-left.left in
    let place = 63 - count_leading_zeros 64 left in
    let top = highest left (omega (arith, c.loop-left-test.true)) (omega (arith, c.loop-left.auto.left-fits)) in
    record {
      dots = λ x inside.
          let numbers : ℕ → ℕ = λ k. sprite_dot c.args.graphics.now (sprite_at c.args.screen.now k) x c.args.y in
          c.paint_told.ensures.dots x inside
          ∙ ap (painted_number (told_number place numbers)) (c.loop-left.invariant.dots x inside)
          ∙ rw top.power (sym (next-painted left place numbers _ top (λ k few some none under.
          dot-off c.args.graphics.now _ x c.args.y under (c.loop-left.invariant.clear k few some none))));
      clear = λ k few some none.
          let before = still-out left place (2 * k) top.least (rw top.power at some) (rw top.power at none) in
          c.loop-left.invariant.clear k few before.0 before.1;
    }

pub returns : goal.returns
returns c = record {
  dots = λ x inside.
      let numbers : ℕ → ℕ = λ k. sprite_dot c.args.graphics.now (sprite_at c.args.screen.now k) x c.args.y in
      c.loop-left.invariant.dots x inside ∙ all-painted c.loop-left.left numbers _ c.loop-left-test.false ∙ painted-first numbers _;
}
