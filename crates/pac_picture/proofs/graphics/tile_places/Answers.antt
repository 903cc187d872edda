use Rattle.pac_num.specs.Tabulate.{tabulate}
use Rattle.pac_picture.proofs.Pixels.{place-at}

pub returns : Rattle.pac_picture.proofs.graphics.tile_places.Goals.returns
unfolding tabulate
returns c = λ k below. place-at c.args.pair k c.requires below
