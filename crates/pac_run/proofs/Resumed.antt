-- The answers of what was prepared, begun and written.
use Rattle.pac_run.proofs.Common.{BoardValue, CourseValue, Err, IsPrepared, IsRunTo, IsState, List, Ok, Option, Outcome, Plan, Prepared}
use Rattle.pac_run.proofs.Common.{Result, RunFault, RunInputs, RunsTo, WithFirstBoard, WithPlan, WritesPlay, WritesRun, Writings, ap, arith}
use Rattle.pac_run.proofs.Common.{begun, board_asked, contents_from, course_after, course_contents, course_playing, last_state, plan_with}
use Rattle.pac_run.proofs.Common.{played, rules, subst, way_on, ℕ, ◌∙◌, ◌≡◌}
use Rattle.pac_run.proofs.Answered.{broke-off, written}
use Rattle.pac_run.proofs.Traced.{same-contents, same-state}

module _ (inputs : RunInputs) (from : Option (List ℕ)) (prepared : Prepared) (ready : IsPrepared inputs from prepared)
    (course : CourseValue) (begins : course ≡ begun prepared.board.value prepared.script) where
  abbrev plan : Plan
  plan = plan_with inputs prepared.program prepared.board.value.set prepared.script

  module _ {F W L R : Type 0} (to : Writings F W L R) where
    abbrev Writes : Result Outcome RunFault → (new : CourseValue) → Type 0
    Writes answer new = WritesPlay (played course_playing course new) plan.listing to answer

    written-so : (answer : Result Outcome RunFault) (new : CourseValue) → Writes answer new
        → WritesRun (contents_from plan inputs.dip from prepared.board.value) to answer
    written-so answer new it =
        let contents = ap (course_contents inputs prepared.program) begins ∙ same-contents inputs prepared.program prepared.board.value
        prepared.script ready.whole ready.lie ready.board.holds from ready.board.first in
        subst (λ run. WritesRun run to answer) contents (written to inputs prepared.program course new answer it)

    pub held-back-early : (why : RunFault) (new : CourseValue) → Writes (Err why) new → RunsTo inputs from to (Err why)
    held-back-early why new it =
        broke-off to inputs from plan ready.plan_is prepared.board.value ready.board.first why (written-so (Err why) new it)

    -- to its end
    pub ran-to : (outcome : Outcome) (new : CourseValue) → Writes (Ok outcome) new → (end : BoardValue) → end ≡ board_asked new
        → IsState end.state → WithPlan inputs (λ plan. WithFirstBoard plan inputs.dip from (IsRunTo plan inputs.dip from to outcome end))
    ran-to outcome new it end asked holds =
        let end-of : end ≡ board_asked (course_after (begun prepared.board.value prepared.script) (way_on (begun prepared.board.value
        prepared.script))) =
        asked ∙ ap board_asked it.film.done.course ∙ ap (λ course. board_asked (course_after course (way_on course))) begins in
        let there : end.state ≡ last_state plan inputs.dip from prepared.board.value = grind (arith, same-state) in
        record {
          plan = plan;
          plan_is = ready.plan_is;
          holds = record {
            board = prepared.board.value;
            is_first = ready.board.first;
            holds = record {
              files = written-so (Ok outcome) new it;
              set_is = ap (λ (board : BoardValue). board.set) end-of;
              state_is = there;
              in_order = search rules;
            };
          };
        }
