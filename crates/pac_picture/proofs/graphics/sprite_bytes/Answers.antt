use Rattle.pac_picture.proofs.Common.{ap, arith, get_or, length, rules, set-one-more, ◌<◌}

pub loop-x-preserved : Rattle.pac_picture.proofs.graphics.sprite_bytes.Goals.loop-x-preserved
loop-x-preserved c =
    let inside : c.loop-x.x < length c.loop-x.bytes = omega (arith, c.loop-x.invariant.long) in
    record {
      long = search rules;
      filled = set-one-more c.loop-x.bytes _ _ _ _ inside (ap (λ place. get_or c.args.rom.now place 0) c.pixel_place.ensures.place)
          c.loop-x.invariant.filled;
    }
