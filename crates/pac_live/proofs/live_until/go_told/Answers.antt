-- The buffer has the samples that were given, and they are told.
use Rattle.pac_live.proofs.Common.{ap, are-written, arith, drop, picture_count, ran_of, rules, samples_given, sound_count, until_of, ◌++◌}
use Rattle.pac_live.proofs.Common.{◌-◌, ◌∙◌, ◌≡◌}
use Rattle.pac_live.proofs.UntilEnds.{along, few-given}
use Rattle.pac_live.proofs.live_until.go_told.Goals as goal

pub overflow_cast-sounds : goal.overflow_cast-sounds
overflow_cast-sounds g c =
    let gone = c.go_on-ended.ensures in
    let written = are-written gone.given _ c.go_on-ended.new.sounds (omega arith) (omega arith) gone.took in
    let few = few-given (along c.go_on-ended.result.0 _ _ _ c.args.board.now gone.given _ _ _ gone.went) c.requires.soon in
    omega (arith, written.taken, few.0)

pub returns : goal.returns
returns g c =
    let old = c.args.board.now in
    let gone = c.go_on-ended.ensures in
    let given = gone.given in
    let written = are-written given _ c.go_on-ended.new.sounds (omega arith) (omega arith) gone.took in
    let few = few-given (along c.go_on-ended.result.0 _ _ _ old given _ _ _ gone.went) c.requires.soon in
    let same = written.same in
    let count : c.go_on-ended.new.sounds.taken ≡ sound_count given = omega (arith, written.taken) in
    let pictures : c.go_on-ended.new.sounds.pictures ≡ picture_count given = omega (arith, few.1, written.pictures) in
    let ticks = c.saturating_sub-ticks.ensures ∙ (λ i. c.time.ensures.time i - c.time-begun.ensures.time i) in
    let whole = written.samples ∙ ap (λ n. samples_given given ++ drop n c.args.samples.now) count in
    record {
      ended = c.go_on-ended.result.0;
      stop = c.go_on-ended.result.1;
      met = g.W.Watch.met c.go_on-ended.new.watch;
      given = given;
      went = gone.went;
      watched = gone.watched;
      samples_are = search rules;
      told_is =
          c.until_told.ensures
          ∙ (λ i. until_of (c.told-ran.ensures i) c.go_on-ended.result.0 (c.met.ensures i) c.go_on-ended.new.board)
          ∙ (λ i. until_of (ran_of (ticks i) (count i) (pictures i) c.go_on-ended.result.1) c.go_on-ended.result.0
          (g.W.Watch.met c.go_on-ended.new.watch) c.go_on-ended.new.board);
    }
