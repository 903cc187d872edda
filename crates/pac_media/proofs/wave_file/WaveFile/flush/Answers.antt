use Rattle.pac_media.proofs.Common.{err_from_is_err_and, rules}
use Rattle.pac_media.proofs.Gathered.{fails-waiting}

pub returns-in_err-put-clause-written : Rattle.pac_media.proofs.wave_file.WaveFile.flush.Goals.returns-in_err-put-clause-written
returns-in_err-put-clause-written g c =
    let told = err_from_is_err_and c.from_residual-in_err-put.result c.from_residual-in_err-put.ensures.1 in
    rw (told.1, told.2) (fails-waiting g.met.W.Out.joined c.self.view_is (rw c.deref.ensures.0 at c.in_err-put.ensures.put) (search rules))
