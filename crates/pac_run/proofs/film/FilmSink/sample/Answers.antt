use Rattle.pac_run.proofs.Common.{refl, to_z-of_z, w16}

pub returns-in-Ok : Rattle.pac_run.proofs.film.FilmSink.sample.Goals.returns-in-Ok
returns-in-Ok g c = record {
  frames = refl;
  wave = rw (to_z-of_z w16 c.args.sample c.ranges.sample) at c.in-Ok.ensures.put;
  owed = c.in-Ok.ensures.owed;
  fault = refl;
}
