use Rattle.pac_run_options.proofs.Common.{conflict_of, failed_up, own_faults_of, subcommand_rows_of}
use Rattle.pac_run_options.proofs.Answered.{of_first}
use Rattle.pac_run_options.proofs.reading.asked.Goals as goal

pub returns-in_err-refuse_conflict-clause-refused : goal.returns-in_err-refuse_conflict-clause-refused
returns-in_err-refuse_conflict-clause-refused c =
    let rows = subcommand_rows_of c.args.matches.now in
    let e = c.in_err-refuse_conflict.field-0.0 in
    failed_up c.from_residual.result e _ (own_faults_of rows) c.from_residual.ensures.1
    (of_first e (conflict_of rows) _ c.in_err-refuse_conflict.ensures)
