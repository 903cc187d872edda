-- A stretch, and the offer of what it gave.
use Rattle.std.proofs.Common.{rules}
use Rattle.pac_board.proofs.Common.{by_view, err_from_is_err_and, noted-sooner, sym, ◌∙◌}
use Rattle.pac_board.proofs.Stretches.{no-stop, stretch-left, stretch-taken}
use Rattle.pac_board.proofs.board.Board.stretch.Goals as goal

pub returns-in_err-give-clause-made : goal.returns-in_err-give-clause-made
returns-in_err-give-clause-made g c =
    let told = err_from_is_err_and c.from_residual.result c.from_residual.ensures.1 in
    rw told.1
    (stretch-left c.make_stretch-stopped.ensures.made c.samples.new.self c.limit_for-near.ensures.within c.samples.ensures
    c.in_err-give.ensures)

pub returns-then-stopped-clause-made : goal.returns-then-stopped-clause-made
returns-then-stopped-clause-made g c =
    let given = c.in_ok-give.ensures in
    stretch-taken c.make_stretch-stopped.ensures.made c.samples.new.self c.limit_for-near.ensures.within c.samples.ensures given.0 given.1

pub returns-clause-made : goal.returns-clause-made
returns-clause-made g c =
    let given = c.in_ok-give.ensures in
    let none = no-stop c.make_stretch-stopped.new.met (sym c.make_stretch-stopped.ensures.stopped ∙ c.if-stopped.false) in
    rw none at
    (stretch-taken c.make_stretch-stopped.ensures.made c.samples.new.self c.limit_for-near.ensures.within c.samples.ensures given.0 given.1)

pub returns-in_err-give-clause-told : goal.returns-in_err-give-clause-told
returns-in_err-give-clause-told g c =
    search (rules, noted-sooner, by_view, c.in_err-give.ensures.board, c.make_stretch-stopped.ensures.told, c.limit_for-near.ensures.within)

pub returns-then-stopped-clause-told : goal.returns-then-stopped-clause-told
returns-then-stopped-clause-told g c =
    search (rules, noted-sooner, by_view, c.in_ok-give.ensures.0, c.make_stretch-stopped.ensures.told, c.limit_for-near.ensures.within)

pub returns-clause-told : goal.returns-clause-told
returns-clause-told g c =
    search (rules, noted-sooner, by_view, c.in_ok-give.ensures.0, c.make_stretch-stopped.ensures.told, c.limit_for-near.ensures.within)
