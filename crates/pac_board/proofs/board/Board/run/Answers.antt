-- Each stretch goes along the walk, and tells its steps.
use Rattle.pac_board.proofs.Common.{Access, BoardWatched, Option, arith, by_view, err_from_is_err_and, none-met, passes-fewer, passes-on}
use Rattle.pac_board.proofs.Common.{rules, step, subst, sym, ◌+◌, ◌∙◌}
use Rattle.pac_board.proofs.Roads.{gone-to-access, gone-to-limit, gone-to-stop, passed-further}
use Rattle.pac_board.proofs.Stretches.{stretch-goes-on, stretch-longer, stretch-refused, stretch-stops}
use Rattle.pac_board.proofs.Turns.{time-is-over}
use Rattle.pac_board.proofs.board.Board.run.Goals as goal

pub returns-in_err-met : goal.returns-in_err-met
returns-in_err-met g c =
    let was = c.loop-samples.invariant in
    let one = c.in_err-met.ensures in
    let failed = err_from_is_err_and c.from_residual.result c.from_residual.ensures.1 in
    let on =
    passed-further was.made c.stretch.new.self c.args.stops.now _ was.marks was.told was.passes was.watched one.told one.passes one.watched
    in
    record { made = rw failed.1 (stretch-refused was.made one.made); told = on.told; passes = on.passes; watched = on.watched }

pub returns-in-Some : goal.returns-in-Some
returns-in-Some g c =
    let was = c.loop-samples.invariant in
    let one = c.in_ok-met.ensures in
    let on =
    passed-further was.made c.stretch.new.self c.args.stops.now _ was.marks was.told was.passes was.watched one.told one.passes one.watched
    in
    let made = gone-to-limit _ (stretch-stops was.made one.made c.in-Some.is) in
    record { made = made; told = on.told; passes = on.passes; watched = on.watched }

pub loop-samples-smaller : goal.loop-samples-smaller
loop-samples-smaller g c =
    let longer = stretch-longer c.loop-samples.invariant.made c.in_ok-met.ensures.made c.in_default.is in
    omega arith

pub loop-samples-preserved : goal.loop-samples-preserved
loop-samples-preserved g c =
    let was = c.loop-samples.invariant in
    let one = c.in_ok-met.ensures in
    let old = c.args.self.now in
    let on =
    passed-further was.made c.stretch.new.self c.args.stops.now _ was.marks was.told was.passes was.watched one.told one.passes one.watched
    in
    let none = none-met _ (sym c.has_met.ensures ∙ c.if-has_met.false) in
    record {
      made = stretch-goes-on was.made one.made c.in_default.is;
      told = on.told;
      passes = passes-on (step (by_view old.set)) c.args.stops.now old.state.now on.told on.passes (search rules);
      unmet = none;
      marks = one.marks ∙ was.marks;
      watched =
          subst (λ (met : Option Access). BoardWatched (g.W.Watch.marks c.args.watch.now) old c.stretch.new.self met) none on.watched;
      after = omega (arith, was.after, stretch-longer was.made one.made c.in_default.is);
    }

pub returns-then-has_met : goal.returns-then-has_met
returns-then-has_met g c =
    let was = c.loop-samples.invariant in
    let one = c.in_ok-met.ensures in
    let on =
    passed-further was.made c.stretch.new.self c.args.stops.now _ was.marks was.told was.passes was.watched one.told one.passes one.watched
    in
    let made = gone-to-access (stretch-goes-on was.made one.made c.in_default.is) c.args.stops.now _
    (sym c.has_met.ensures ∙ c.if-has_met.true) (omega (arith, was.after, stretch-longer was.made one.made c.in_default.is)) in
    record { made = made; told = on.told; passes = on.passes; watched = on.watched }

pub returns-then-has : goal.returns-then-has
returns-then-has g c =
    let was = c.loop-samples.invariant in
    let one = c.in_ok-met.ensures in
    let on =
    passed-further was.made c.stretch.new.self c.args.stops.now _ was.marks was.told was.passes was.watched one.told one.passes one.watched
    in
    let made = gone-to-stop (stretch-goes-on was.made one.made c.in_default.is) c.args.stops.now _
    (none-met _ (sym c.has_met.ensures ∙ c.if-has_met.false)) (omega (arith, was.after, stretch-longer was.made one.made c.in_default.is))
    (search rules) in
    record { made = made; told = on.told; passes = on.passes; watched = on.watched }

pub returns : goal.returns
returns g c =
    let old = c.args.self.now in
    record {
      made = gone-to-limit _ (time-is-over c.loop-samples.invariant.made (omega arith));
      told = c.loop-samples.invariant.told;
      passes = passes-fewer (step (by_view old.set)) c.args.stops.now old.state.now (c.loop-samples.self.state.now.steps + 1)
          c.loop-samples.self.state.now.steps c.loop-samples.invariant.passes (omega arith);
      watched =
          subst (λ (met : Option Access). BoardWatched (g.W.Watch.marks c.args.watch.now) old c.loop-samples.self met)
          (sym c.loop-samples.invariant.unmet) c.loop-samples.invariant.watched;
    }
