-- Steps of a course in one go: those of its board up to a limit within the frame under way, at whose end the next one's inputs are held.
use Rattle.pac_board_course.proofs.Common.{BoardValue, BoardView, Bool, CourseValue, Due, Ends, Err, Giving, GoesTo, GoesTold, GoesUntil}
use Rattle.pac_board_course.proofs.Common.{HasGone, IsCourseHeldUp, IsNoted, IsTimely, IsUnderway, IsWayRefused, List, Moment, Next, None}
use Rattle.pac_board_course.proofs.Common.{Ok, Option, PassesBy, PastStep, PlaysInFrame, Result, Some, Stop, TookAll, Walk, ap, arith}
use Rattle.pac_board_course.proofs.Common.{board_after_walk, board_with_inputs, by_view, course_after, course_with_due, cut-along}
use Rattle.pac_board_course.proofs.Common.{cut-something, due_outputs, end_of, false, frame_end, frame_ticks, has_ended, held, held_in}
use Rattle.pac_board_course.proofs.Common.{if◌then◌else◌, inl, inr, min, moment_with_inputs, nat_le, nat_tests, next_in, next_with_inputs}
use Rattle.pac_board_course.proofs.Common.{noted, noted_step, nothing_due, now_after, on-the-way, open-is-late, play-timely, refl, rules}
use Rattle.pac_board_course.proofs.Common.{step, step-timely, stepped, steps_counted, subst, suc, sym, true, walk, walk-stepped}
use Rattle.pac_board_course.proofs.Common.{walk-to-ends, walk_onward, way_walked, with_due, zero, ℕ, ◌*◌, ◌+◌, ◌-◌, ◌/◌, ◌<◌, ◌∙◌, ◌≡◌, ◌≤◌}
use Rattle.pac_board_course.proofs.Common.{◌⊎◌}
use Rattle.pac_board.proofs.Common.{going-far}
use mathlib.Core.List.{IsPrefix}
use Rattle.pac_board_course.proofs.Counted.{counted, going-if-counted, going-next, going-same}
use Rattle.pac_board.proofs.Runs.{walk-below}

-- the frames that have ended
abbrev frames_ended : CourseValue → ℕ
frames_ended course = course.board.state.now.time / frame_ticks

-- the inputs that are held after the frame under way
abbrev pub next_mask : CourseValue → ℕ
next_mask course = held course.script (suc (suc (frames_ended course)) - course.gone)

-- the board after steps of the frame, on which the next one's inputs are held where the frame has ended
abbrev pub IsClosed : CourseValue → BoardValue → BoardValue → Type 0
IsClosed old board new =
    ((frame_end old ≤ board.state.now.time) × (new ≡ board_with_inputs board (next_mask old)))
    ⊎ ((board.state.now.time < frame_end old) × (new ≡ board))

-- so a moment of the board's is one of the course
abbrev moment_after : CourseValue → Moment BoardView → Moment BoardView
moment_after course now =
    if nat_le (frame_end course) now.time then moment_with_inputs (by_view course.board.set) (held_in course) now else now

-- held inputs are no output
due-kept : (old : CourseValue) (board new : BoardValue) → IsClosed old board new
    → (due_outputs new ≡ due_outputs board) × (new.state.due ≡ board.state.due)
    × (new.state.now.time ≡ board.state.now.time) × (new.state.now.steps ≡ board.state.now.steps)
due-kept old board new given = search rules

-- ---- the walk of the board, and that of the course

-- the board's, after so many tries
abbrev bare : CourseValue → ℕ → ℕ → Walk BoardView
bare course limit tries = walk (step (by_view course.board.set)) limit course.board.state.now tries

module _ (course : CourseValue) where
  abbrev held_on : Walk BoardView → Walk BoardView
  held_on w = record w { now = moment_after course w.now }

  onward-closed : (limit : ℕ) (w : Walk BoardView) (ended : Bool) → limit ≤ frame_end course → has_ended limit w ≡ ended
      → (ended ≡ false → frame_ticks * frames_ended course ≤ w.now.time)
      → held_on (walk_onward (step (by_view course.board.set)) limit w) ≡ walk_onward (next_in course) limit (held_on w)
  onward-closed limit w ended within e from = search rules

  -- the course's is that of its board, closed
  closed-walk : (limit tries : ℕ) → limit ≤ frame_end course
      → held_on (bare course limit tries) ≡ walk (next_in course) limit course.board.state.now tries
  closed-walk limit zero within = search rules
  closed-walk limit (suc tries) within =
      let w = bare course limit tries in
      let next = step (by_view course.board.set) in
      let from = course.board.state.now in
      onward-closed limit w (has_ended limit w) within refl
      (λ e. omega (arith, (going-far next limit (step-timely (by_view course.board.set)) from tries e).time))
      ∙ ap (walk_onward (next_in course) limit) (closed-walk limit tries within)

-- ---- the step that meets a stop

module _ (next : Moment BoardView → Next BoardView) (limit : ℕ) (from : Moment BoardView) where
  record IsStoppedAt (stop : Stop) (w : Walk BoardView) : Type 0 where
    pub tries : ℕ
    pub open_yet : (walk next limit from tries).stop ≡ None
    pub early : (walk next limit from tries).now.time < limit
    pub stops : next (walk next limit from tries).now ≡ Ends stop
    pub now : w.now ≡ (walk next limit from tries).now
    pub outputs : w.outputs ≡ (walk next limit from tries).outputs

  stop-found : (n : ℕ) (stop : Stop) → (walk next limit from n).stop ≡ Some stop → IsStoppedAt stop (walk next limit from n)
  stop-found zero stop met = absurd (cc)
  stop-found (suc n) stop met =
      choose (has_ended limit (walk next limit from n)) refl (λ before. stop-found n stop before)
    where
      choose : (b : Bool) → has_ended limit (walk next limit from n) ≡ b
          → ((walk next limit from n).stop ≡ Some stop → IsStoppedAt stop (walk next limit from n))
          → IsStoppedAt stop (walk next limit from (suc n))
      choose true over so_far = search rules
      choose false going so_far = search rules

-- ---- up to a limit within the frame

module _ (old : CourseValue) (due : Due) where
  -- the board at a moment of the walk
  abbrev board_at : Moment BoardView → BoardValue
  board_at now = record {
    set = old.board.set;
    state = record { now = now; asked = old.board.state.asked; due = due };
    made = steps_counted old.board.made (now.steps - old.board.state.now.steps);
  }

  closed-at : (now : Moment BoardView) (new : BoardValue) → now.time < frame_end old + 23 → IsClosed old (board_at now) new
      → new ≡ board_at (moment_after old now)
  closed-at now new near closed = grind (arith, nat_tests)

module _ {S : Type 0} (to : Giving S) (old : CourseValue) (board new : BoardValue) (sink later : S)
    (limit : ℕ) (within : limit ≤ frame_end old) (early : old.board.state.now.time < end_of old)
    (closed : IsClosed old board new) where
  abbrev course : CourseValue
  course = record old { board = new }

  abbrev start : Moment BoardView
  start = old.board.state.now

  placed : (tries : ℕ) (due : Due) → board ≡ with_due (board_after_walk old.board (bare old limit tries)) due
      → course ≡ course_with_due (course_after old (walk (next_in old) limit start tries)) due
  placed tries due walked =
      let w = bare old limit tries in
      let near =
      walk-below (step (by_view old.board.set)) limit (step-timely (by_view old.board.set)) (frame_end old + 23) (omega arith) start tries
      (omega arith) in
      let at = closed-at old due w.now new near (rw walked at closed) in
      ap (λ (board : BoardValue). record old { board = board }) at
      ∙ ap (λ (w : Walk BoardView). course_with_due (course_after old w) due) (closed-walk old limit tries within)

  -- steps without a stop
  underway : (tries : ℕ) → (bare old limit tries).stop ≡ None → board ≡ board_after_walk old.board (bare old limit tries)
      → TookAll to.took sink (bare old limit tries).outputs later → IsUnderway to.took old sink course later
  underway tries open_yet walked taken =
      let at = placed tries nothing_due walked in
      let on = on-the-way (next_in old) limit (end_of old) start tries (omega (arith, within, early)) in
      let whole = closed-walk old limit tries within ∙ on.1 in
      let exact =
      counted (next_in old) (end_of old) (play-timely (by_view old.board.set) (held_in old)) start on.0
      (ap (λ (w : Walk BoardView). w.stop) (sym whole) ∙ open_yet) in
      let same = exact.1 ∙ sym whole in grind arith

  -- an output was refused
  held-up : (steps : ℕ) (stays : IsWayRefused to old.board limit sink board later) → stays.steps ≡ steps
      → IsCourseHeldUp to old sink course later
  held-up zero stays count = cut-something stays.cut (ap (λ n. (bare old limit n).outputs) count)
  held-up (suc last) stays count =
      let next = next_in old in
      let less : limit ≤ end_of old = omega (arith, within, early) in
      let kept = due-kept old board new closed in
      let at =
      placed (suc last) board.state.due
      (stays.board ∙ ap (λ n. with_due (board_after_walk old.board (bare old limit n)) board.state.due) count) in
      let all = kept.3 ∙ stays.all_steps ∙ ap (λ n. start.steps + n) count in
      let exact : (walk next limit start (suc last)).now.steps ≡ start.steps + suc last =
      ap (λ (c : CourseValue). c.board.state.now.steps) (sym at) ∙ all in
      let going = going-if-counted next limit (play-timely (by_view old.board.set) (held_in old)) start last exact in
      let same = closed-walk old limit (suc last) within ∙ going-next next limit (end_of old) start last less going in
      let before = closed-walk old limit last within ∙ going-same next limit (end_of old) start last less going in
      record {
        steps = suc last;
        course = search rules;
        all_steps = all;
        cut =
            cut-along (ap (λ (w : Walk BoardView). w.outputs) (sym same) ∙ ap (λ n. (bare old limit n).outputs) (sym count)) (sym kept.0)
            stays.cut;
        of_last = λ number is.
            subst (λ xs. IsPrefix xs stays.cut.taken)
            (grind arith)
            (stays.of_last last count);
      }

  went : start.time < limit → (stop : Option Stop) → HasGone to.took old.board limit sink stop board later
      → PlaysInFrame {E = Unit {0}} to old sink (Ok stop) course later
  went soon None goes =
      let next = step (by_view old.board.set) in
      let late = open-is-late limit (bare old limit limit) (walk-to-ends next limit (step-timely (by_view old.board.set)) start)
      (sym goes.stop_is) in
      let kept = due-kept old board new closed in
      record {
        played = underway limit (sym goes.stop_is) goes.board goes.sink_is;
        ending = omega (arith, kept.2, ap (λ (b : BoardValue). b.state.now.time) goes.board, late, soon);
      }
  went soon (Some stop) goes =
      let found = stop-found (step (by_view old.board.set)) limit start limit stop (sym goes.stop_is) in
      let walked =
      goes.board ∙ ap (λ now. board_after_walk old.board (record (bare old limit limit) { now = now })) found.now in
      let there = ap (λ (b : BoardValue). b.state.now) walked in
      let in_frame : board.state.now.time < frame_end old =
      omega (arith, ap (λ (m : Moment BoardView). m.time) there, found.early, within) in
      grind (arith, due-kept, underway)
    where
      not-closed : board.state.now.time < frame_end old → IsClosed old board new → new.state.now ≡ board.state.now
      not-closed in_frame (inl ended) = let over = ended.0 in absurd (omega arith)
      not-closed in_frame (inr same) = ap (λ (b : BoardValue). b.state.now) same.1

  pub told-answered : {E : Type 0} (result : Result (Option Stop) E) → start.time < limit
      → GoesTo to old.board limit sink result board later → PlaysInFrame to old sink result course later
  told-answered (Ok stop) soon goes = went soon stop goes
  told-answered (Err refusal) soon goes = held-up goes.steps goes refl

-- ---- what is told

module _ (old : CourseValue) (until : ℕ) (within : until ≤ frame_end old) where
  abbrev plain : Moment BoardView → Next BoardView
  plain = step (by_view old.board.set)

  abbrev from : Moment BoardView
  from = old.board.state.now

  held-not : (now : Moment BoardView) (h : Next BoardView) → IsTimely now h → from.time ≤ now.time
      → (now_after h now).time < frame_end old → next_with_inputs (by_view old.board.set) (held_in old) now.time h ≡ h
  held-not now h times later soon = search rules

  kind-kept : (told : Option (List PastStep)) (now : Moment BoardView) (h : Next BoardView)
      → noted_step told now (next_with_inputs (by_view old.board.set) (held_in old) now.time h) ≡ noted_step told now h
  kind-kept told now h = search rules

  no-sooner : (now : Moment BoardView) (h : Next BoardView) → IsTimely now h → now.time ≤ (now_after h now).time
  no-sooner now h times = search rules

  later-on : (n : ℕ) → from.time ≤ (stepped plain from n).time
  later-on zero = omega arith
  later-on (suc n) = grind (arith, no-sooner, step-timely, later-on n)

  module _ (count : ℕ) (begun : (n : ℕ) → n < count → (stepped plain from n).time < until) where
    pub stepped-held : (n : ℕ) → n < count → stepped (next_in old) from n ≡ stepped plain from n
    stepped-held zero less = refl
    stepped-held (suc n) less =
        let now = stepped plain from n in
        let there : (stepped plain from (suc n)).time < until = begun (suc n) less in
        cc (stepped-held n (omega arith), held-not now (plain now) (step-timely (by_view old.board.set) now) (later-on n) (omega arith))

    noted-held : (told : Option (List PastStep)) (n : ℕ) → n ≤ count → noted (next_in old) from told n ≡ noted plain from told n
    noted-held told zero less = refl
    noted-held told (suc n) less = grind (arith, kind-kept, stepped-held, noted-held told n (omega arith))

  pub course-noted : (board new : Moment BoardView) (told after : Option (List PastStep)) (tries : ℕ)
      → IsNoted plain until from board told after → new.steps ≡ board.steps → new ≡ (way_walked old tries).now
      → IsNoted (next_in old) until from new told after
  course-noted board new told after tries alone same now_is =
      let walked = walk-stepped (next_in old) (end_of old) from (play-timely (by_view old.board.set) (held_in old)) tries in
      let now_steps = ap (λ (m : Moment BoardView). m.steps) now_is in
      let count : walked.count ≡ alone.count = omega arith in grind (arith, noted-held, stepped-held)

  -- and passes by the same
  pub course-passes : (board : Moment BoardView) (steps : ℕ) (stops : Option (List ℕ)) (told after : Option (List PastStep))
      → IsNoted plain until from board told after → PassesBy plain stops from board.steps → steps ≡ board.steps
      → PassesBy (next_in old) stops from steps
  course-passes board steps stops told after alone passed same n some before = grind (arith, stepped-held)

-- all that one go answers
module _ {S E : Type 0} (to : Giving S) (old : CourseValue) (board new : BoardValue) (sink later : S) (limit until : ℕ)
    (until_is : until ≡ min limit (frame_end old)) (stops : Option (List ℕ)) (told after : Option (List PastStep))
    (result : Result (Option Stop) E) where
  -- to the end that a board has come to, or to its limit
  made-so : (result : Result (Option Stop) E) → old.board.state.now.time < until → until ≤ frame_end old
      → old.board.state.now.time < end_of old → IsClosed old board new → GoesUntil to old.board until stops None sink result board later
      → PlaysInFrame to old sink result (record old { board = new }) later
  made-so (Ok stop) soon within early closed goes =
      told-answered to old board new sink later goes.end (omega (arith, goes.within)) early closed {E = E} (Ok stop) (goes.some soon)
      goes.gone
  made-so (Err refusal) soon within early closed goes = search (rules, told-answered)

  pub gone-told : old.board.state.now.time < end_of old → old.board.state.now.time < limit → IsClosed old board new
      → GoesUntil to old.board until stops None sink result board later
      → IsNoted (step (by_view old.board.set)) until old.board.state.now board.state.now told after
      → PassesBy (step (by_view old.board.set)) stops old.board.state.now board.state.now.steps
      → GoesTold to old limit stops told sink result (record old { board = new }) after later
  gone-told early begun closed goes alone passes =
      let within : until ≤ frame_end old = omega arith in
      let made = made-so result (omega arith) within early closed goes in
      let kept = due-kept old board new closed in
      record {
        made = made;
        told_is = grind (arith, course-noted);
        passes = course-passes old until within board.state.now new.state.now.steps stops told after alone passes kept.3;
      }
