use Rattle.pac_run.proofs.Common.{arith, refused-among, way_on}
use Rattle.pac_run.proofs.Traced.{is-near}
use Rattle.pac_run.proofs.play.CoursePlays.play.Goals as goal
use Rattle.std.proofs.lemmas.Bool.Decides.{nat_tests}

pub outcome_since-requires : goal.outcome_since-requires
outcome_since-requires g c = grind (arith, is-near)

pub returns-in-Ok : goal.returns-in-Ok
returns-in-Ok g c = grind (arith, nat_tests, way_on)

pub returns-in-Err : goal.returns-in-Err
returns-in-Err g c = record {
  given = _;
  left = _;
  cut = c.in-Err.ensures.cut;
  among = refused-among c.args.self.now c.in-Err.ensures.steps c.in-Err.ensures.cut;
  told = tt;
}
