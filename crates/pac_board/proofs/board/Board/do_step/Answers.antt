-- A single step is the first of a stretch.
use Rattle.pac_board.proofs.Turns.{step-alone}

pub returns : Rattle.pac_board.proofs.board.Board.do_step.Goals.returns
returns c =
    let old = c.args.self.now in
    let made = c.go_on.ensures.made in
    let is = step-alone old c.go_on.new.self c.go_on.new.met c.requires.early c.requires.nothing c.go_on.ensures.bound made in
    record { done = is.0; stop = is.1 }
