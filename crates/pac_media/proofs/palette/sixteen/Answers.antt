use Rattle.pac_media.proofs.Common.{arith, length, take_all, ◌≤◌}

pub returns : Rattle.pac_media.proofs.palette.sixteen.Goals.returns
returns c =
    let whole : length c.args.numbers.now ≤ 16 = omega (arith, c.requires) in
    take_all 16 c.args.numbers.now whole
