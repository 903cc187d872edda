use Rattle.pac_run_options.proofs.Common.{arith}
use Rattle.pac_run_options.proofs.Commands.{one-fewer}
use Rattle.pac_run_options.proofs.command.add_arguments.Goals as goal

pub loop-row-preserved : goal.loop-row-preserved
loop-row-preserved c =
    one-fewer c.args.rows.now c.loop-row.row-index _ _ _ c.argument_of.result _ c.loop-row.invariant c.in_ok-add.ensures
    c.argument_of.ensures (omega arith)
