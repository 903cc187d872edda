use Rattle.pac_run.specs.Texts as text
use Rattle.pac_run.proofs.Lent.{written}

pub returns : Rattle.pac_run.proofs.run.report_on.Goals.returns
returns g c =
    written g.R.Out.took g.R.Out.refused _ _ c.put_report-written.result (text.report c.args.outcome c.args.total) c.new-file.result
    c.put_report-written.new.output c.new-file.ensures c.put_report-written.ensures _ c.into_writer.ensures assumption
