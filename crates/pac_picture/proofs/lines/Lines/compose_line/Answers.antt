use Rattle.std.proofs.Common.{rules}
use Rattle.pac_picture.proofs.Composed.{set-picture, line-below, length-line_of}
use Rattle.pac_picture.proofs.CleanLines.{line-stays, line-marked, set-there}
use Rattle.pac_picture.proofs.lines.Lines.compose_line.Goals as goal

pub returns-then-stays-clause-lines : goal.returns-then-stays-clause-lines
returns-then-stays-clause-lines c =
    set-there c.args.self.now c.args.y _ _
    (line-stays c.args.layer.now.roms c.args.screen.now c.args.clean.now.lines c.args.clean.now.flip c.args.clean.now.sprites
    c.args.layer.now.shadows c.args.self.now c.args.y c.source-source.result c.requires.clean c.requires.y
    c.source-source.ensures.line c.requires.flip c.requires.drawn
    (c.stays.ensures.clean c.if-stays.true) (c.stays.ensures.sprites c.if-stays.true))

pub returns-clause-clean : goal.returns-clause-clean
returns-clause-clean c =
    rw (c.take.ensures.lines, c.take.ensures.flip, c.take.ensures.sprites)
    (line-marked c.args.layer.now.roms c.args.screen.now c.args.clean.now.lines c.args.clean.now.flip c.args.clean.now.sprites
    c.args.layer.now.shadows c.self.inside.lines c.args.y c.source-source.result c.compose_line.new.out c.sprite_bytes.result
    (rw (← c.self.view_is) at c.requires.clean) c.requires.y (search rules) (search rules) c.self.invariant.high
    c.source-source.ensures.line c.requires.flip c.requires.drawn c.sprite_bytes.ensures c.compose_line.ensures.line)

pub invariant_of-self : goal.invariant_of-self
invariant_of-self c =
    set-picture c.self.inside.lines c.args.y c.compose_line.new.out c.self.invariant c.requires.y
    (rw c.compose_line.ensures.line (length-line_of c.args.layer.now.roms c.args.screen.now c.args.y))
    (λ x. rw c.compose_line.ensures.line (line-below c.args.layer.now.roms c.args.screen.now c.args.y x))
