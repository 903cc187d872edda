use Rattle.pac_media.proofs.Common.{arith, err_from_is_err_and, rules, ◌<◌, ◌≡◌}
use Rattle.pac_media.proofs.Gathered.{fails-within, finishes-after, gains-joined, gains-nothing, silence-more, silence-rest}
use Rattle.pac_media.proofs.wave_file.WaveFile.finish.Goals as goal

pub returns-in_err-put-clause-written : goal.returns-in_err-put-clause-written
returns-in_err-put-clause-written g c =
    let below : c.loop.counter < c.args.self.now.owed = omega (arith, c.loop-test.true, c.loop.invariant.end_is) in
    let p = err_from_is_err_and c.from_residual.result c.from_residual.ensures.1 in
    rw (p.1, p.2, ← silence-rest c.loop.counter c.args.self.now.owed below) (fails-within c.loop.invariant.given c.in_err-put.ensures.put _)

pub returns-clause-written : goal.returns-clause-written
returns-clause-written g c =
    let last : c.loop.counter ≡ c.args.self.now.owed = omega (arith, c.loop-test.false, c.loop.invariant.end_is, c.loop.invariant.owed) in
    finishes-after g.W.Out.refused c.flush.result c.flush.new.self
    (search rules)
    c.flush.ensures.written

pub loop-init : goal.loop-init
loop-init g c = grind (arith, gains-nothing)

pub loop-preserved : goal.loop-preserved
loop-preserved g c =
    record {
      given = rw (← silence-more c.loop.counter) (gains-joined c.loop.invariant.given c.in_ok-put.ensures.put);
      owed = omega (arith, c.loop-test.true, c.loop.invariant.owed, c.loop.invariant.end_is, c.in_ok-put.ensures.owed);
      end_is = c.loop.invariant.end_is;
      shut = search rules;
    }
