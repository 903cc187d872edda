use Rattle.pac_run.proofs.Common.{rules}
use Rattle.pac_run.proofs.Begins.{from-power-on}

pub returns-in-Ok : Rattle.pac_run.proofs.start.first_board.Goals.returns-in-Ok
returns-in-Ok c =
    rw c.in-None.is (from-power-on c.args.set.now c.args.switches c.args.script.now c.in-Ok.board.value c.in-Ok.ensures (search rules))
