use Rattle.pac_picture.proofs.Common.{arith, false, is_column_of, nat_tests, places, refl, rules, slice_index, true, ℕ, ◌<◌, ◌≡◌, ◌≤◌}
use Rattle.pac_picture.proofs.Dots.{line-begin, line-step, line-end}
use Rattle.pac_picture.proofs.painting.paint_columns.Goals as goal

pub loop-x-init : goal.loop-x-init
loop-x-init c =
    let off : (x : ℕ) → x < c.columns-columns.result.start → is_column_of c.args.sprite.now x ≡ false =
    λ x before. rw (c.columns-columns.ensures.columns x) (grind (arith, nat_tests)) in
    record { long = search rules; dots = line-begin c.args.line.now c.args.out.now c.args.sprite.now _ off }

pub loop-x-preserved : goal.loop-x-preserved
loop-x-preserved c =
    let shows : is_column_of c.args.sprite.now c.loop-x.x ≡ true = rw (c.columns-columns.ensures.columns c.loop-x.x) (grind
    (arith, nat_tests)) in
    let inside : c.loop-x.x < 288 = omega (arith, c.loop-x-test.true, c.columns-columns.ensures.end) in
    record {
      long = search (rules, places);
      dots = line-step c.args.line.now c.args.out.now c.loop-x.out c.args.sprite.now c.loop-x.x
          (slice_index c.args.line.now c.column_at.result) c.over.result shows
          (rw c.column_at.ensures.column refl) c.over.ensures c.loop-x.invariant.long inside c.loop-x.invariant.dots;
    }

pub returns : goal.returns
returns c =
    let off : (x : ℕ) → c.loop-x.x ≤ x → is_column_of c.args.sprite.now x ≡ false =
    λ x past. let over : c.columns-columns.result.end ≤ x = omega (arith, past, c.loop-x-test.false) in rw
    (c.columns-columns.ensures.columns x) (grind (arith, nat_tests)) in
    record { dots = line-end c.args.line.now c.args.out.now c.loop-x.out c.args.sprite.now c.loop-x.x off c.loop-x.invariant.dots }
