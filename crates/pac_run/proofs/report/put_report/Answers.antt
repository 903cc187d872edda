use Rattle.pac_run.proofs.Common.{err_from_is_err_and, refuses-within}
use Rattle.pac_run.specs.Texts as text

pub returns-in_err-put_counts : Rattle.pac_run.proofs.report.put_report.Goals.returns-in_err-put_counts
returns-in_err-put_counts g c =
    let p = err_from_is_err_and c.from_residual.result c.from_residual.ensures.1 in
    rw (p.1, p.2) (refuses-within c.in_err-put_counts.ensures (text.end_text c.args.outcome.stop))
