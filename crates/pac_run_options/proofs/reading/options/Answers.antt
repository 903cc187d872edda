use Rattle.pac_run_options.proofs.Common.{app_of, failed_up, map, subcommand_rows_of}
use Rattle.pac_run_options.specs.CommandLine as line
use Rattle.pac_run_options.proofs.Answered.{its_answer, its_command, its_fault, its_refusal, no_fault}
use Rattle.pac_run_options.proofs.reading.options.Goals as goal

pub returns-in_err-matches-clause-refused : goal.returns-in_err-matches-clause-refused
returns-in_err-matches-clause-refused g c =
    let words = map g.S.AsStr.text c.args.words.now in
    failed_up c.from_residual-in_err-matches.result c.in_err-matches.field-0.0 _ (line.faults_of words)
    c.from_residual-in_err-matches.ensures.1
    (its_fault (app_of c.in_ok-pacboard.field-0) words c.in_err-matches.field-0.0 c.in_ok-pacboard.ensures c.in_err-matches.ensures.kinds)

pub returns : goal.returns
returns g c =
    let words = map g.S.AsStr.text c.args.words.now in
    let app = app_of c.in_ok-pacboard.field-0 in
    let rows = subcommand_rows_of c.in_ok-matches.matches in
    let none = no_fault app words c.in_ok-pacboard.ensures c.in_ok-matches.ensures.kinds in
    let is = its_command app words c.in_ok-matches.matches c.in_ok-pacboard.ensures c.in_ok-matches.ensures.matches in
    record {
      asked = its_answer words rows none is c.asked.result c.asked.ensures.asked c.asked.ensures.refused;
      refused = its_refusal words rows none is c.asked.result c.asked.ensures.refused;
    }
