use Rattle.pac_sprites.proofs.Common.{arith, ints}
use Rattle.pac_sprites.proofs.Boxes.{columns-between, columns-ordered}
use Rattle.pac_sprites.proofs.Sprite.columns.Goals as goal

pub returns-clause-columns : goal.returns-clause-columns
returns-clause-columns c =
    λ x. columns-between c.args.self.now.left _ _ x _ _ (omega (arith, ints)) (omega (arith, ints))
    c.column_from.ensures.low c.column_from-2.ensures.high (c.column_from.ensures.first x) (c.column_from-2.ensures.first x)

pub returns-clause-ordered : goal.returns-clause-ordered
returns-clause-ordered c =
    columns-ordered c.args.self.now.left _ _ _ _ (omega (arith, ints)) (omega (arith, ints))
    c.column_from-2.ensures.low c.column_from.ensures.high
    (c.column_from.ensures.first c.column_from-2.result) (c.column_from-2.ensures.first c.column_from-2.result)
