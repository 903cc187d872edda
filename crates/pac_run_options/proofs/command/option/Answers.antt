use Rattle.pac_run_options.proofs.Common.{Rule, Some, ap}

pub returns : Rattle.pac_run_options.proofs.command.option.Goals.returns
returns c = rw c.long.ensures (ap (λ (r : Rule). record r { long = Some c.args.name.now }) c.place.ensures)
