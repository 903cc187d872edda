use Rattle.std.proofs.Common.{refl}
use Rattle.pac_picture.proofs.Alike.{all-sixteen}

pub returns : Rattle.pac_picture.proofs.screen.Screen.sprite_bytes.Goals.returns
returns c =
    rw (
      ← c.self.view_is,
      all-sixteen c.self.inside.attributes.now c.self.invariant.attributes,
      all-sixteen c.self.inside.coordinates.now c.self.invariant.coordinates,
    ) refl
