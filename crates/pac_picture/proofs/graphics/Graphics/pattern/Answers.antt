use Rattle.pac_picture.proofs.Common.{AreNumbersOf, VideoRoms, [], ap, arith, length, rules, set-one-more, subst, tabulate-is, tile_pair}
use Rattle.pac_picture.proofs.Common.{tile_pairs, ◌<◌, ◌∙◌, ◌≡◌}
use Rattle.pac_picture.proofs.Decoded.{pair-dots, pair-is, pair-below, values-are-places}
use Rattle.pac_picture.proofs.graphics.Graphics.pattern.Goals as goal

pub picked-requires : goal.picked-requires
picked-requires c =
    values-are-places c.tile_values.result
    (rw (pair-is c.self.inside.tiles c.tile_bytes-bytes.result c.tile_values.result c.args.code c.loop-pair.pair c.loop-pair-test.true
    (search rules) c.tile_bytes-bytes.ensures c.tile_values.ensures) (pair-below c.self.inside.tiles c.args.code c.loop-pair.pair))

pub loop-pair-preserved : goal.loop-pair-preserved
loop-pair-preserved c =
    let inside : c.loop-pair.pair < length c.loop-pair.lines = omega (arith, c.loop-pair.invariant.long, c.loop-pair-test.true) in
    let named = subst (λ rom. AreNumbersOf rom c.args.colour c.numbers-numbers.result)
    (ap (λ (roms : VideoRoms). roms.lookup) c.self.view_is) c.numbers-numbers.ensures in
    let is = pair-is c.self.inside.tiles c.tile_bytes-bytes.result c.tile_values.result c.args.code c.loop-pair.pair
    c.loop-pair-test.true (search rules) c.tile_bytes-bytes.ensures c.tile_values.ensures
    ∙ ap (λ (roms : VideoRoms). tile_pair roms.tiles c.args.code c.loop-pair.pair) c.self.view_is in
    let dots = pair-dots c.args.self.now c.args.colour c.args.code c.loop-pair.pair c.numbers-numbers.result c.tile_values.result
    c.picked.result (search rules) is named c.picked.ensures in
    record {
      long = search rules;
      filled = set-one-more c.loop-pair.lines _ c.loop-pair.pair c.picked.result [] inside dots c.loop-pair.invariant.filled;
    }

pub returns : goal.returns
unfolding tile_pairs
returns c =
    let all : c.loop-pair.pair ≡ 4 = omega arith in
    tabulate-is c.loop-pair.lines 4 _ [] c.loop-pair.invariant.long (rw all at c.loop-pair.invariant.filled)
