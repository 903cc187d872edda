use Rattle.pac_run_options.proofs.Common.{IfOk-weaker, pacboard, refl}
use Rattle.pac_run_options.proofs.Commands.{added-commands}

pub returns : Rattle.pac_run_options.proofs.command.pacboard.Goals.returns
unfolding pacboard
returns c = IfOk-weaker c.subcommands-2.result _ _ (λ r h.
    added-commands _ c.in_ok-subcommands.subcommands.items c.program.result r _ refl c.in_ok-subcommands.ensures c.program.ensures h)
    c.subcommands-2.ensures
