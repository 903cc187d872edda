-- Time in pieces, refusals, steps that are done again, and single steps and offers as parts of a run.
use Rattle.std.proofs.Common.{rules}
use Rattle.std.proofs.lemmas.Bool.Decides.{nat_tests}
use Rattle.pac_board.proofs.Common.{AreRefused, BoardValue, BoardView, Due, Ends, Giving, Goes, HasTime, IsOnTheWay, IsRunRefused}
use Rattle.pac_board.proofs.Common.{IsTakenUp, IsTimely, List, Moment, Next, Output, RefusalsAreTakenUp, StepsAreDoneAgain}
use Rattle.pac_board.proofs.Common.{StepsArePartsOfRuns, TimeCanBeCut, Walk, [], ap, append-nil, append_assoc, arith, board_after_run}
use Rattle.pac_board.proofs.Common.{board_after_step, board_after_walk, by_view, course, course_at, due_outputs, due_outputs_in, goes-on}
use Rattle.pac_board.proofs.Common.{joined, next_from_moment, next_of, nothing_due, on-the-way, outputs_given, outputs_in, refl, step}
use Rattle.pac_board.proofs.Common.{step-timely, steps_counted, subst, suc, sym, time_of, walk_after_step, walk_at_start, walk_to, with_due}
use Rattle.pac_board.proofs.Common.{zero, ℕ, ◌++◌, ◌+◌, ◌-◌, ◌∙◌, ◌≡◌, ◌≤◌}
use Rattle.pac_board.proofs.Walked.{first-try, walked-after}
use Rattle.pac_board.proofs.Turns.{none-due}

-- ---- a walk that goes on where another ended

-- a count of steps in two parts
counted-twice : (made from middle end : ℕ) → from ≤ middle → middle ≤ end
    → steps_counted (steps_counted made (middle - from)) (end - middle) ≡ steps_counted made (end - from)
counted-twice made from middle end less more = omega arith

pub walked-twice : (start : BoardValue) (v u : Walk BoardView) → start.state.now.steps ≤ v.now.steps → v.now.steps ≤ u.now.steps
    → board_after_walk (board_after_walk start v) u ≡ board_after_walk start u
walked-twice start v u less more = grind (arith, nat_tests, board_after_walk, counted-twice)

-- outputs of which so much was taken, and those that follow
given-on : (due outputs taken left more : List Output) {whole : List Output} → due ++ outputs ≡ taken ++ left → outputs ++ more ≡ whole
    → taken ++ (left ++ more) ≡ due ++ whole
given-on due outputs taken left more parts on = grind (arith, nat_tests, append_assoc)

module _ (board : BoardValue) (us : ℕ) where
  -- the board where a walk has brought it, of which so much is asked, with something due
  abbrev pub left_at : Walk BoardView → (asked : ℕ) → Due → BoardValue
  left_at w asked due = record {
    set = board.set;
    state = record { now = w.now; asked = asked; due = due };
    made = steps_counted board.made (w.now.steps - board.state.now.steps);
  }

  -- so many microseconds from there are what is left of the run
  pub record IsRest (new : BoardValue) (more : ℕ) (taken : List Output) : Type 0 where
    pub board_is : board_after_run new more ≡ board_after_run board us
    pub given_is : taken ++ outputs_given new more ≡ outputs_given board us
    pub stop_is : (course new more).stop ≡ (course board us).stop

  pub rest-of-run : (w : Walk BoardView) (tries asked more : ℕ) (due : Due) (taken : List Output) → w ≡ course_at board us tries
      → asked + more ≡ board.state.asked + us → due_outputs board ++ w.outputs ≡ taken ++ due_outputs (left_at w asked due)
      → IsRest (left_at w asked due) more taken
  rest-of-run w tries asked more due taken is sum parts =
      let next = step (by_view board.set) in
      let timely : (now : Moment BoardView) → IsTimely now (next now) = step-timely (by_view board.set) in
      let from = board.state.now in
      let limit = time_of (board.state.asked + us) in
      let d = course (left_at w asked due) more in
      let whole : joined next limit w d ≡ course board us
      = ap (λ n. joined next limit w (walk_to next (time_of n) w.now)) sum ∙ ap (λ v. joined next limit v (walk_to next limit v.now)) is
      ∙ goes-on next limit timely from tries in
      let made : steps_counted (steps_counted board.made (w.now.steps - from.steps)) (d.now.steps - w.now.steps)
      ≡ steps_counted board.made ((course board us).now.steps - from.steps)
      = counted-twice board.made from.steps w.now.steps d.now.steps
      (omega (arith, (walked-after next limit timely from tries).steps, ap (λ (v : Walk BoardView). v.now.steps) is))
      (walked-after next (time_of (asked + more)) timely w.now (time_of (asked + more))).steps
      ∙ ap (λ (v : Walk BoardView). steps_counted board.made (v.now.steps - from.steps)) whole in
      record {
        board_is = λ i. record {
          set = board.set;
          state = record { now = (whole i).now; asked = sum i; due = nothing_due };
          made = made i;
        };
        given_is = given-on (due_outputs board) w.outputs taken (due_outputs (left_at w asked due)) d.outputs parts
            (ap (λ (v : Walk BoardView). v.outputs) whole);
        stop_is = ap (λ (v : Walk BoardView). v.stop) whole;
      }

-- ---- the laws of time

pub time-cut : TimeCanBeCut
time-cut board first second =
    let next = step (by_view board.set) in
    let timely : (now : Moment BoardView) → IsTimely now (next now) = step-timely (by_view board.set) in
    let from = board.state.now in
    let asked = board.state.asked + first in
    let c = course board first in
    let on = on-the-way next (time_of asked) (time_of (board.state.asked + (first + second))) from (time_of asked) (omega arith) in
    let rest = rest-of-run board (first + second) c on.0 asked second nothing_due (outputs_given board first) on.1 (omega arith)
    (sym (append-nil (outputs_given board first))) in
    record {
      board_is = rest.board_is;
      given_is = rest.given_is;
      stop_is = rest.stop_is;
      ticks = omega (
        arith,
        (walked-after next (time_of asked) timely from (time_of asked)).time,
        (walked-after next (time_of (asked + second)) timely c.now (time_of (asked + second))).time,
        ap (λ (b : BoardValue). b.state.now.time) rest.board_is,
      );
    }

-- from a board that a refusal left
once-taken-up : {S : Type 0} (to : Giving S) (old new : BoardValue) (microseconds : ℕ) (sink later : S)
    → (refusal : IsRunRefused to old microseconds sink new later) → IsTakenUp old new microseconds refusal.cut.taken
once-taken-up to old new microseconds sink later refusal =
    let w = course_at old microseconds refusal.steps in
    let asked = old.state.asked + microseconds in
    let taken = refusal.cut.taken in
    let rest = rest-of-run old microseconds w refusal.steps asked 0 new.state.due taken refl (omega arith)
    (refusal.cut.parts ∙ ap (λ (b : BoardValue). taken ++ due_outputs b) refusal.board) in
    let told : IsTakenUp old (left_at old microseconds w asked new.state.due) microseconds taken
    = record { board_is = rest.board_is; given_is = rest.given_is; stop_is = rest.stop_is } in
    subst (λ (b : BoardValue). IsTakenUp old b microseconds taken) (sym refusal.board) told

-- and from one that a further refusal left
taken-up-again : (old middle new : BoardValue) (microseconds : ℕ) (before more : List Output)
    → IsTakenUp old middle microseconds before → IsTakenUp middle new 0 more → IsTakenUp old new microseconds (before ++ more)
taken-up-again old middle new microseconds before more first second = grind (arith, nat_tests, append_assoc, outputs_given)

module _ {S : Type 0} (to : Giving S) (old : BoardValue) (microseconds : ℕ) where
  all-taken-up : (calls : ℕ) (middle new : BoardValue) (before more : List Output) (between later : S)
      → IsTakenUp old middle microseconds before → AreRefused to calls middle between new later more
      → IsTakenUp old new microseconds (before ++ more)
  all-taken-up zero middle new before more between later first none = grind (arith, nat_tests, append-nil)
  all-taken-up (suc calls) middle new before more between later first again =
      let one = once-taken-up to middle again.between 0 between again.middle again.first in
      let taken = again.first.cut.taken in
      let joined = taken-up-again old middle again.between microseconds before taken first one in
      let all =
      all-taken-up calls again.between new (before ++ taken) again.more again.middle later joined again.after in
      subst (λ xs. IsTakenUp old new microseconds xs)
      (append_assoc before taken again.more ∙ ap (λ xs. before ++ xs) (sym again.taken_is)) all

pub refusals-taken-up : {S : Type 0} (to : Giving S) → RefusalsAreTakenUp to
refusals-taken-up to old new microseconds calls sink later taken call =
    let one = once-taken-up to old call.between microseconds sink call.middle call.first in
    let all = all-taken-up to old microseconds calls call.between new call.first.cut.taken call.more call.middle later one
    call.after in
    subst (λ xs. IsTakenUp old new microseconds xs) (sym call.taken_is) all

pub steps-done-again : StepsAreDoneAgain
steps-done-again board other same = grind (arith, nat_tests, next_from_moment, due_outputs_in)

-- ---- single steps and offers

-- a board that a walk has brought somewhere is on the way
pub walk-on-the-way : (board : BoardValue) (us tries : ℕ) (due : Due) (taken : List Output) (w : Walk BoardView)
    → w ≡ course_at board us tries
    → due_outputs board ++ w.outputs ≡ taken ++ due_outputs (with_due (board_after_walk board w) due)
    → IsOnTheWay board (with_due (board_after_walk board w) due) us taken
walk-on-the-way board us tries due taken w is parts =
    let rest = rest-of-run board us w tries board.state.asked us due taken is refl parts in
    record { board_is = rest.board_is; given_is = rest.given_is; stop_is = rest.stop_is }

-- one where nothing was done is, too
still-on-the-way : (board : BoardValue) (us : ℕ) (due : Due) (taken : List Output)
    → due_outputs board ++ [] ≡ taken ++ due_outputs (with_due board due) → IsOnTheWay board (with_due board due) us taken
still-on-the-way board us due taken parts = grind (arith, nat_tests, given-on, due_outputs, with_due)

-- a step is on the way, whatever part of the outputs was taken
step-on-the-way : (board : BoardValue) (us : ℕ) (due : Due) (taken : List Output) (h : Next BoardView) → next_of board ≡ h
    → IsTimely board.state.now h → HasTime board us
    → due_outputs board ++ outputs_in h ≡ taken ++ due_outputs (board_after_step h (with_due board nothing_due) due)
    → IsOnTheWay board (board_after_step h (with_due board nothing_due) due) us taken
step-on-the-way board us due taken (Goes now outputs kind) is times early parts =
    let limit = time_of (board.state.asked + us) in
    let w = walk_after_step (walk_at_start board.state.now) (Goes now outputs kind) in
    let one : now.steps - board.state.now.steps ≡ 1 = omega (arith, times.2) in
    subst (λ b. IsOnTheWay board b us taken)
    (ap (λ (n : ℕ). record (with_due (board_after_walk board w) due) { made = steps_counted board.made n }) one)
    (walk-on-the-way board us (suc zero) due taken w
    (sym (first-try (step (by_view board.set)) limit board.state.now (Goes now outputs kind) is early)) parts)
step-on-the-way board us due taken (Ends stop) is times early parts = still-on-the-way board us nothing_due taken parts

-- after a step all of whose outputs were taken nothing is due
pub none-left : (board : BoardValue) (h : Next BoardView) → due_outputs (board_after_step h (with_due board nothing_due) nothing_due) ≡ []
none-left board it2 = search rules

pub steps-are-parts : {S : Type 0} (to : Giving S) → StepsArePartsOfRuns to
steps-are-parts to old new microseconds sink later = record {
  stepped_once = λ once early done.
      let taken = due_outputs old ++ outputs_in (next_of old) in
      subst (λ (board : BoardValue). IsOnTheWay old board microseconds taken) (sym done.board)
      (step-on-the-way old microseconds nothing_due taken (next_of old) refl (step-timely (by_view old.set) old.state.now) early
      (sym (append-nil taken) ∙ ap (λ xs. taken ++ xs) (sym (none-left old (next_of old)))));
  step_refused = λ early refusal.
      let taken = refusal.cut.taken in
      subst (λ (board : BoardValue). IsOnTheWay old board microseconds taken) (sym refusal.board)
      (step-on-the-way old microseconds new.state.due taken (next_of old) refl (step-timely (by_view old.set) old.state.now) early
      (refusal.cut.parts ∙ ap (λ (board : BoardValue). taken ++ due_outputs board) refusal.board));
  advanced = λ once early done.
      let left = done.board ∙ ap (λ (board : BoardValue). board_after_step (next_of old) board new.state.due)
      (sym (none-due old done.nothing)) in
      subst (λ (board : BoardValue). IsOnTheWay old board microseconds []) (sym left)
      (step-on-the-way old microseconds new.state.due [] (next_of old) refl (step-timely (by_view old.set) old.state.now) early
      (ap (λ xs. xs ++ outputs_in (next_of old)) done.nothing ∙ sym done.outputs ∙ ap due_outputs left));
  offered = λ left.
      subst (λ (board : BoardValue). IsOnTheWay old board microseconds (due_outputs old)) (sym left)
      (still-on-the-way old microseconds nothing_due (due_outputs old) refl);
  offer_refused = λ refusal.
      let taken = refusal.cut.taken in
      subst (λ (board : BoardValue). IsOnTheWay old board microseconds taken) (sym refusal.board)
      (still-on-the-way old microseconds new.state.due taken
      (append-nil (due_outputs old) ∙ refusal.cut.parts ∙ ap (λ (board : BoardValue). taken ++ due_outputs board) refusal.board));
}
