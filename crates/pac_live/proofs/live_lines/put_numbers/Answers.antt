-- The lines of a picture, one after another.
use Rattle.std.proofs.lemmas.Grind.{common_steps}
use Rattle.pac_live.proofs.Common.{List, ap, arith, flat_map, flat_map-one-more, length, sym, take, take_all, ℕ, ◌*◌, ◌∙◌, ◌≡◌}
use Rattle.pac_live.proofs.live_lines.put_numbers.Goals as goal

abbrev whole : List ℕ → List ℕ
whole line = line

pub loop-y-preserved : goal.loop-y-preserved
loop-y-preserved c = grind (arith, common_steps, flat_map-one-more)

pub returns : goal.returns
returns c =
    let end : c.loop-y.y ≡ 224 = omega arith in
    let high : length c.args.lines.now ≡ 224 = c.loop-y.invariant.high (omega (arith, end)) in
    let all : take (288 * c.loop-y.y) c.loop-y.numbers ≡ c.loop-y.numbers =
    take_all (288 * c.loop-y.y) c.loop-y.numbers (omega (arith, end, c.loop-y.invariant.size, c.requires)) in
    sym all
    ∙ (c.loop-y.invariant.text
    ∙ ap (flat_map whole) (take_all c.loop-y.y c.args.lines.now (omega (arith, end, high))))
