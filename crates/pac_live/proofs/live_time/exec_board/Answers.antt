-- A call for some time on a board.
use Rattle.pac_live.proofs.Common.{BoardState, MayRun, Ok, arith, err_from_is_err_and, length, state_left, stopped-early, subst, ◌∙◌}
use Rattle.pac_live.proofs.live_time.exec_board.Goals as goal

pub check-requires : goal.check-requires
check-requires c = record { in_range = c.fields-fields.ensures.in_range }

pub returns-in_err-check : goal.returns-in_err-check
returns-in_err-check c = grind (arith, err_from_is_err_and)

pub keep_stop-requires : goal.keep_stop-requires
keep_stop-requires c =
    rw (c.run-stop.ensures.stop, c.run-stop.ensures.board) (stopped-early c.args.board.now c.args.microseconds)

pub returns : goal.returns
returns c =
    let old = c.args.board.now in
    let may =
    subst (λ (state : BoardState). MayRun state c.args.microseconds (length c.args.samples.now) (Ok tt)) c.fields-fields.ensures.fields
    c.in_ok-check.ensures in
    let ran = c.run-stop in
    record {
      ran = ran.result.0;
      ran_is = record {
        within = may.0;
        room = may.1;
        board =
            c.keep_stop.ensures
            ∙ (λ i. record {
              set = (ran.ensures.board i).set;
              state = state_left (ran.ensures.stop i) (ran.ensures.board i).state;
              made = (ran.ensures.board i).made;
            });
        samples_are = ran.ensures.samples;
        ran_is = ran.ensures.ran;
      };
      told_is = c.bytes_of-ran.ensures;
    }
