use Rattle.std.proofs.Common.{rules}
use Rattle.pac_picture.proofs.Decoded.{sprite-is}

pub returns : Rattle.pac_picture.proofs.graphics.sprite_values.Goals.returns
returns c =
    sprite-is c.args.rom.now c.args.code c.args.y c.sprite_bytes.result c.values.result (search rules) c.sprite_bytes.ensures
    c.values.ensures
