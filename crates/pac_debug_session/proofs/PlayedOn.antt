-- A session's run from its furthest index on is the way on of its course.
use Rattle.pac_debug_session.proofs.Common.{BoardView, CourseValue, Giving, IsCourseHeldUp, IsFinishRefused, IsFinished, IsOver, IsSession}
use Rattle.pac_debug_session.proofs.Common.{List, Moment, Next, Option, Outcome, Output, SessionValue, Stop, TookAll, Walk, ap, arith}
use Rattle.pac_debug_session.proofs.Common.{by_view, course_of, cut-after, cut-along, cut-something, drop-append_seam, due_outputs, end_of}
use Rattle.pac_debug_session.proofs.Common.{frame_steps, frame_ticks, goes-on, joined, limit, more-joined, most_frames, moved_to, next_from}
use Rattle.pac_debug_session.proofs.Common.{next_in, nothing_due, now_at, outcome_at, outputs_between, outputs_from, play_of}
use Rattle.pac_debug_session.proofs.Common.{power_on_board_view, prefix-after, refl, replayed_to, rules, run, runs-end, session_due_outputs}
use Rattle.pac_debug_session.proofs.Common.{suc, sym, took-both, total_frames, walk, walk-same, walk-to-ends, way_on, way_walked, whole_run}
use Rattle.pac_debug_session.proofs.Common.{zero, ℕ, ◌*◌, ◌+◌, ◌∙◌, ◌≡◌, ◌≤◌}
use mathlib.Core.List.{IsPrefix}
use Rattle.pac_debug_session.proofs.Ends.{start, run-ends, goes-if-counted, time-near}
use Rattle.pac_debug_session.proofs.Indices.{IsOpen, open-up-to, timely, between}

-- ---- the course's walks are the run's

module _ (s : SessionValue) (opened : IsOpen s.setting s.index) where
  abbrev course : CourseValue
  course = course_of s

  abbrev here : Walk BoardView
  here = run s.setting s.index

  abbrev next : Moment BoardView → Next BoardView
  next = next_from s.setting

  abbrev after_here : Walk BoardView → Walk BoardView
  after_here w = joined next (limit s.setting) here w

  limits : end_of course ≡ limit s.setting
  limits = omega arith

  pub steps-same : (now : Moment BoardView) → next_in course now ≡ next now
  steps-same now = search rules

  walked-same : (tries : ℕ) → way_walked course tries ≡ walk next (limit s.setting) here.now tries
  walked-same tries = search rules

  -- up to a later index, and to the end
  pub run-walked : (tries : ℕ) → after_here (way_walked course tries) ≡ run s.setting (s.index + tries)
  run-walked tries =
      cc (walked-same tries, more-joined next (limit s.setting) (start s.setting) s.index tries (s.index + tries) refl opened.open_yet)

  pub run-on : after_here (way_on course) ≡ whole_run s.setting
  run-on =
      ap after_here (grind (arith, limits, steps-same, walk-same))
      ∙ goes-on next (limit s.setting) (timely s.setting) (start s.setting) s.index
      ∙ (runs-end (by_view s.setting.set) (play_of s.setting.script) (power_on_board_view s.setting.switches) (limit s.setting)).1
      (walk-to-ends next (limit s.setting) (timely s.setting) (start s.setting))

  pub given-walked : (tries : ℕ) → outputs_between s.setting s.index (s.index + tries) ≡ (way_walked course tries).outputs
  given-walked tries = grind (arith, between, run-walked)

  pub given-on : outputs_from s.setting s.index ≡ (way_on course).outputs
  given-on = grind (arith, drop-append_seam, run-on)

-- ---- a session that plays on

module _ {S : Type 0} (to : Giving S) (old : SessionValue) (facts : IsSession old) (sink between_sinks : S)
    (before : TookAll to.took sink (session_due_outputs old) between_sinks) where
  -- what was due is taken, and what was done before is done again
  abbrev at_furthest : SessionValue
  at_furthest = replayed_to (record old { due = nothing_due; replayed = 0 }) old.furthest

  pub opened-there : IsOpen at_furthest.setting at_furthest.index
  opened-there = open-up-to old.setting old.furthest facts.goes

  pub stands-there : (mid new : SessionValue) (index : ℕ) → mid ≡ record old { due = nothing_due; replayed = 0 } → index ≡ mid.furthest
      → new ≡ replayed_to mid index → new ≡ at_furthest
  stands-there mid new index mid_is furthest is = search rules

  abbrev due : List Output
  due = session_due_outputs old

  -- the run came to its end
  pub played : (from after : CourseValue) (stop : Option Stop) (later : S) (outcome : Outcome) → from ≡ course_of at_furthest
      → IsOver to.took from between_sinks stop after later → outcome ≡ outcome_at after.board.state.now stop
      → (left : SessionValue) × IsFinished to.took old sink outcome left later
  played from after stop later outcome begins is_over is =
      let over = rw begins at is_over in
      let end = run-ends old.setting old.index in
      let whole = run-on at_furthest opened-there in
      let now : after.board.state.now ≡ (whole_run old.setting).now
      = ap (λ (course : CourseValue). course.board.state.now) over.course ∙ ap (λ (w : Walk BoardView). w.now) whole in
      let met = over.stop_is ∙ ap (λ (w : Walk BoardView). w.stop) whole in (
        record (moved_to old end.index) { replayed = 0 },
        record {
          rest = end.least;
          outcome_is = is ∙ (λ i. outcome_at (now i) (met i));
          session = refl;
          sink_is =
              rw (given-on at_furthest opened-there)
              (took-both to.took due (way_on (course_of at_furthest)).outputs sink between_sinks later before over.sink_is);
        },
      )

  -- the time at its end
  pub ends-near : (from after : CourseValue) (stop : Option Stop) (later : S) → from ≡ course_of at_furthest
      → IsOver to.took from between_sinks stop after later → after.board.state.now.time ≤ frame_ticks * (most_frames + 1)
  ends-near from after stop later begins is_over =
      let over = rw begins at is_over in
      let whole = run-on at_furthest opened-there in
      let time = ap (λ (course : CourseValue). course.board.state.now.time) over.course ∙ ap (λ (w : Walk BoardView). w.now.time) whole in
      let near = time-near old.setting (frame_steps * total_frames old.setting.script) in omega (arith, time, near)

  -- an output was refused, after one step at least
  held-there : (after : CourseValue) (later : S) (steps : ℕ)
      → (stopped : IsCourseHeldUp to (course_of at_furthest) between_sinks after later) → stopped.steps ≡ steps
      → (left : SessionValue) × IsFinishRefused to old sink left later
  held-there after later zero stopped count = cut-something stopped.cut (ap (λ n. (way_walked (course_of at_furthest) n).outputs) count)
  held-there after later (suc more) stopped count =
      let last : ℕ = old.furthest + more in
      let index : ℕ = old.furthest + suc more in
      let next : index ≡ suc last = omega arith in
      let at : after.board.state.now ≡ now_at old.setting index =
      rw (stopped.course, count) (ap (λ (w : Walk BoardView). w.now) (run-walked at_furthest opened-there (suc more))) in
      let set : after.board.set ≡ old.setting.set = ap (λ (course : CourseValue). course.board.set) stopped.course in
      let there = ap (λ n. (now_at old.setting n).steps) next in
      let counted : (now_at old.setting (suc last)).steps ≡ suc last =
      omega (arith, count, opened-there.steps, ap (λ (m : Moment BoardView). m.steps) at, there) in
      let left : SessionValue = record (moved_to old index) { due = after.board.state.due; replayed = 0 } in
      let still : due_outputs after.board ≡ session_due_outputs left = cc (set, at) in
      let given = given-walked at_furthest opened-there (suc more) ∙ ap (λ n. (way_walked (course_of at_furthest) n).outputs) (sym count) in
      let most : IsPrefix (outputs_between old.setting old.furthest last) stopped.cut.taken =
      rw (given-walked at_furthest opened-there more) (stopped.of_last more count) in (
        left,
        record {
          last = last;
          index = omega arith;
          fresh = omega arith;
          restless = λ earlier from less. goes-if-counted old.setting last counted earlier less;
          session = refl;
          cut = cut-after due sink between_sinks later before (cut-along given still stopped.cut);
          of_last = prefix-after due (outputs_between old.setting old.furthest last) stopped.cut.taken most;
        },
      )

  pub held-up : (from after : CourseValue) (later : S) → from ≡ course_of at_furthest → IsCourseHeldUp to from between_sinks after later
      → (left : SessionValue) × IsFinishRefused to old sink left later
  held-up from after later begins stopped =
      let told = rw begins at stopped in held-there after later told.steps told refl
