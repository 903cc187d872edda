use Rattle.std.proofs.Common.{rules}
use Rattle.pac_out.proofs.Common.{err_from_is_err_and}
use Rattle.pac_out.proofs.Files.{refuses-within}
use Rattle.pac_out.proofs.Gathering.{gathers-put}
use Rattle.pac_out.proofs.pending.Pending.put_full.Goals as goal

pub returns-in_err-flush : goal.returns-in_err-flush
returns-in_err-flush g c =
    let p = err_from_is_err_and c.from_residual.result c.from_residual.ensures.1 in
    rw (p.1, p.2) (refuses-within c.in_err-flush.ensures.put c.args.bytes.now)

pub returns : goal.returns
returns g c =
    search (rules, gathers-put, c.in_ok-flush.ensures.put.takes, c.put.ensures.put, c.if-keep.ensures, c.in_ok-flush.ensures.emptied)
