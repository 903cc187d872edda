use Rattle.pac_run.proofs.Filmed.{took-each}
use Rattle.pac_run.proofs.film.FilmSink.samples.Goals as goal

pub returns : goal.returns
returns g c = rw c.keep_all.ensures (took-each g.F.Out.took g.W.Out.took c.args.samples.now c.args.self.now)
