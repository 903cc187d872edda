-- A course from frame to frame, to the end of its run.
use Rattle.pac_board_course.proofs.Common.{BoardView, CourseValue, CoursesGoOn, Ends, Giving, HasPlayedInFrame, IsCourseHeldUp, IsOver}
use Rattle.pac_board_course.proofs.Common.{IsTimely, IsUnderway, Moment, None, Option, Some, Stop, Walk, ap, arith, by_view, course_after}
use Rattle.pac_board_course.proofs.Common.{cut-after, cut-along, cut-something, end_of, ended-whole, goes-on, going-steps, held_in, is_some}
use Rattle.pac_board_course.proofs.Common.{joined, late-has-ended, more-joined, next_in, open-goes-on, play-timely, prefix-after, refl}
use Rattle.pac_board_course.proofs.Common.{rules, stopped-has-ended, subst, suc, sym, took-both, true, walk_after_step, way_walked, zero, ℕ}
use Rattle.pac_board_course.proofs.Common.{◌++◌, ◌+◌, ◌<◌, ◌∙◌, ◌≡◌, ◌≤◌}
use mathlib.Core.List.{IsPrefix}

-- ---- a course that goes on from where a walk has brought it

timely : (course : CourseValue) (now : Moment BoardView) → IsTimely now (next_in course now)
timely course = play-timely (by_view course.board.set) (held_in course)

pub courses-go-on : CoursesGoOn
courses-go-on course tries =
    let whole = goes-on (next_in course) (end_of course) (timely course) course.board.state.now tries in search rules

-- the course that a later walk brings about is that of both walks
after-twice : (course : CourseValue) (first second : Walk BoardView) → course.board.state.now.steps ≤ first.now.steps
    → first.now.steps ≤ second.now.steps → course_after (course_after course first) second ≡ course_after course second
after-twice course first second less more = search rules

module _ {S : Type 0} (to : Giving S) (old : CourseValue) (sink : S) where
  abbrev first_now : Moment BoardView
  first_now = old.board.state.now

  abbrev both : Walk BoardView → Walk BoardView → Walk BoardView
  both = joined (next_in old) (end_of old)

  abbrev walked : ℕ → Walk BoardView
  walked tries = way_walked old tries

  abbrev there : ℕ → CourseValue
  there tries = course_after old (walked tries)

  -- how many steps a course has behind it
  steps-there : (now : CourseValue) (taker : S) (under : IsUnderway to.took old sink now taker)
      → (walked under.steps).now.steps ≡ first_now.steps + under.steps
  steps-there now taker under = ap (λ (course : CourseValue). course.board.state.now.steps) (sym under.course) ∙ under.all_steps

  more-walked : (first second : ℕ) → (walked first).stop ≡ None
      → both (walked first) (way_walked (there first) second) ≡ walked (first + second)
  more-walked first second open_yet =
      more-joined (next_in old) (end_of old) first_now first second (first + second) refl open_yet

  pub underway-on : (now new : CourseValue) (taker later : S) → IsUnderway to.took old sink now taker
      → IsUnderway to.took now taker new later
      → IsUnderway to.took old sink new later
  underway-on now new taker later under played = grind (arith, after-twice, more-walked, steps-there, took-both)

  pub underway-ends : (now : CourseValue) (taker : S) → IsUnderway to.took old sink now taker
      → end_of now ≤ now.board.state.now.time → IsOver to.took old sink None now taker
  underway-ends now taker under over = grind (arith, ended-whole, late-has-ended, timely)

  pub underway-held-up : (now new : CourseValue) (taker later : S) → IsUnderway to.took old sink now taker
      → IsCourseHeldUp to now taker new later → IsCourseHeldUp to old sink new later
  underway-held-up now new taker later under held_up =
      let w = walked under.steps in
      let more = way_walked (there under.steps) told.steps in
      let whole = more-walked under.steps told.steps under.open_yet in
      let steps = steps-there now taker under in
      let here = ap (λ (course : CourseValue). course.board.state.now.steps) told.course in
      let last = told.all_steps in
      record {
        steps = under.steps + told.steps;
        course = grind (arith, after-twice);
        all_steps = omega (arith, steps, last);
        cut =
            cut-along (ap (λ (w : Walk BoardView). w.outputs) (sym whole)) refl
            (cut-after w.outputs sink taker later under.sink_is told.cut);
        of_last = λ before is. choose told.steps refl before is;
      }
    where
      told : IsCourseHeldUp to (there under.steps) taker new later
      told = subst (λ course. IsCourseHeldUp to course taker new later) under.course held_up

      choose : (more : ℕ) → told.steps ≡ more → (before : ℕ) → under.steps + told.steps ≡ suc before
          → IsPrefix (walked before).outputs ((walked under.steps).outputs ++ told.cut.taken)
      choose zero none before is = cut-something told.cut (ap (λ n. (way_walked (there under.steps) n).outputs) none)
      choose (suc last) count before is =
          let same : before ≡ under.steps + last = omega arith in
          let whole = more-walked under.steps last under.open_yet in
          subst (λ xs. IsPrefix xs ((walked under.steps).outputs ++ told.cut.taken))
          (ap (λ (w : Walk BoardView). w.outputs) whole ∙ ap (λ n. (walked n).outputs) (sym same))
          (prefix-after (walked under.steps).outputs (way_walked (there under.steps) last).outputs told.cut.taken (told.of_last last count))

  -- a stop ends it
  pub underway-stopped : (now new : CourseValue) (stop : Option Stop) (taker later : S) → IsUnderway to.took old sink now taker
      → now.board.state.now.time < end_of now → is_some stop ≡ true → HasPlayedInFrame to.took now taker stop new later
      → IsOver to.took old sink stop new later
  underway-stopped now new None taker later under early met went = cc
  underway-stopped now new (Some stop) taker later under early met went =
      let on = underway-on now new taker later under went.played in
      let w = walked on.steps in
      let here = ap (λ (course : CourseValue). course.board.state.now) on.course in
      let ends = ap end_of under.course in
      let time = ap (λ (now : Moment BoardView). now.time) here in
      let soon : w.now.time < end_of old = omega (arith, ends, time, went.ending.0) in
      let meets : next_in old w.now ≡ Ends stop
      = cc (here, under.course, went.ending.1) in
      let onward = going-steps (next_in old) (end_of old) w (open-goes-on (end_of old) w on.open_yet soon) ∙ ap (walk_after_step w) meets in
      let whole =
      sym onward
      ∙ ended-whole (next_in old) (end_of old) (timely old) first_now (suc on.steps)
      (stopped-has-ended (end_of old) (walked (suc on.steps)) stop (ap (λ (w : Walk BoardView). w.stop) onward)) in search rules
