-- Steps of a session in one go, by what the course's call answered: what stands before them stands after them.
use Rattle.pac_debug_session.proofs.Common.{AreStops, Bool, false, BoardValue, BoardView, CourseValue, Err, Giving, GoesTold, HasEndedBy}
use Rattle.pac_debug_session.proofs.Common.{HasLeapt}
use Rattle.pac_debug_session.proofs.Common.{Inside, IsInsideRight, IsLeap, IsLeapRefused, IsStanding, LeapEnds, Leaps, List, MeetNothing}
use Rattle.pac_debug_session.proofs.Common.{Moment, None, Ok, Option, PastStep, Result, Ring, SessionValue, Some, Stop, TookAll, Walk, ap}
use Rattle.pac_debug_session.proofs.Common.{arith, board_at, cases_lt, checkpoint_steps, course_of, cut-along, cut-something, frame_end}
use Rattle.pac_debug_session.proofs.Common.{frame_ticks, goes_at, if◌then◌else◌, inl, inr, IsLeapLimit, leap_most, list_any, max, min}
use Rattle.pac_debug_session.proofs.Common.{moved_to, nat_lt}
use Rattle.pac_debug_session.proofs.Common.{nat_tests, now_at, outputs_between, refl, rules, session_view, stepped, stop_unless, subst, suc}
use Rattle.pac_debug_session.proofs.Common.{sym, told_at, true, way_walked, zero, ℕ, ◌%◌, ◌+◌, ◌-◌, ◌/◌, ◌<◌, ◌==◌, ◌∙◌, ◌≡◌, ◌≤◌}
use Rattle.pac_debug_session.proofs.Ends.{goes-if-counted}
use Rattle.pac_debug_session.proofs.Indices.{IsOpen, goes-early, goes-on, one-more, open-up-to}
use Rattle.pac_board_course.proofs.Framed.{stepped-held}
use Rattle.pac_debug_session.specs.Strides.{ByTime, ByTurns}
use Rattle.pac_debug_session.proofs.PlayedOn.{run-walked, given-walked, steps-same}
use Rattle.pac_debug_session.proofs.Steppings.{IsLeft}
use Rattle.pac_debug_session.proofs.Reached.{IsReached, reached, next, from}

-- a session on a board further on, and that board's course
abbrev pub session_on : SessionValue → BoardValue → SessionValue
session_on old b = record old {
  setting = record old.setting { set = b.set };
  index = b.state.now.steps;
  furthest = max old.furthest b.state.now.steps;
  due = b.state.due;
  made = b.made;
}

abbrev pub course_on : SessionValue → BoardValue → CourseValue
course_on old b = record { board = b; script = old.setting.script; gone = 0 }

-- what the call answered, said of the run
abbrev pub Gone : {S E : Type 0} → SessionValue → Giving S → (sink later : S) → (limit : ℕ) → (stops : Option (List ℕ)) → BoardValue
    → List PastStep → Result (Option Stop) E → Type 0
Gone old to sink later limit stops new told result =
    GoesTold to (course_of old) limit stops (Some (told_at old.setting old.index)) sink result (course_on old new) (Some told) later

module _ (old : SessionValue) (within : old.index ≤ old.furthest)
    (goes : (earlier : ℕ) → earlier < old.furthest → goes_at old.setting earlier ≡ true) where
  opened : IsOpen old.setting old.index
  opened = open-up-to old.setting old.index (λ earlier less. goes earlier (omega arith))

  -- ---- where the course's call leaves the board

  record IsThere (board : BoardValue) (tries : ℕ) : Type 0 where
    pub now_is : board.state.now ≡ now_at old.setting (old.index + tries)
    pub steps : board.state.now.steps ≡ old.index + tries
    pub board_is : board ≡ board_at (course_of old).board board.state.now board.state.due

  is-there : (board : BoardValue) (tries : ℕ)
      → board ≡ board_at (course_of old).board (way_walked (course_of old) tries).now board.state.due
      → board.state.now.steps ≡ (from old).steps + tries → IsThere board tries
  is-there board tries is all =
      let now = ap (λ (b : BoardValue). b.state.now) is in
      record {
        now_is = now ∙ ap (λ (w : Walk BoardView). w.now) (run-walked old opened tries);
        steps = omega (arith, opened.steps);
        board_is = is ∙ ap (λ now. board_at (course_of old).board now board.state.due) (sym now);
      }

  module _ {S : Type 0} (to : Giving S) (sink later : S) (limit : ℕ) (stops : Option (List ℕ)) (new : BoardValue)
      (told : List PastStep) where
    there : {E : Type 0} (result : Result (Option Stop) E) → Gone old to sink later limit stops new told result
        → (tries : ℕ) × IsThere new tries
    there (Ok stop) gone =
        let played = gone.made.played in
        let due = ap (λ (c : CourseValue). c.board.state.due) played.course in
        let is = ap (λ (c : CourseValue). c.board) played.course in (
          played.steps,
          is-there _ _ (is ∙ ap (board_at (course_of old).board (way_walked (course_of old) played.steps).now) (sym due)) played.all_steps,
        )
    there (Err refusal) gone = (gone.made.steps, is-there _ _ (ap (λ (c : CourseValue). c.board) gone.made.course) gone.made.all_steps)

    module _ {E : Type 0} (result : Result (Option Stop) E) (gone : Gone old to sink later limit stops new told result) where
      abbrev tries : ℕ
      tries = (there result gone).0

      stands : IsThere new tries
      stands = (there result gone).1

      goes-all : (earlier : ℕ) → earlier < old.index + tries → goes_at old.setting earlier ≡ true
      goes-all earlier less = elim (cases_lt 0 tries) [
        | inl some ↦
            let counted = sym (ap (λ (m : Moment BoardView). m.steps) stands.now_is) ∙ stands.steps in
            let last : old.index + tries ≡ suc (old.index + tries - 1) = omega arith in
            goes-if-counted old.setting (old.index + tries - 1) (subst (λ n. (now_at old.setting n).steps ≡ n) last counted) earlier
            (omega arith)
        | inr none ↦ goes earlier (omega arith)
      ]

      reached-here : (n : ℕ) → n ≤ tries → IsReached old n
      reached-here n less = reached old opened n (λ earlier before. goes-all earlier (omega arith))

      as-many : gone.told_is.count ≡ tries
      as-many = omega (arith, opened.steps, gone.told_is.steps, stands.steps)

      told-there : told ≡ told_at old.setting new.state.now.steps
      told-there = grind (arith, as-many, reached-here, stands)

      -- each of them begins before the limit, and in the frame under way
      begun-at : (n : ℕ) → n < tries → (now_at old.setting (old.index + n)).time < min limit (frame_end (course_of old))
      begun-at n less = grind (arith, as-many, reached-here)

      later-at : (n : ℕ) → n < tries → (now_at old.setting (old.index + n)).time < (now_at old.setting (old.index + suc n)).time
      later-at n less =
          let place = old.index + n in
          let here = goes-all place (omega arith) in
          let on = goes-on old.setting place here in
          let so_open = open-up-to old.setting place (λ earlier sooner. goes-all earlier (omega (arith, sooner, less))) in
          let one = one-more old.setting place on.now on.outputs on.kind so_open (goes-early old.setting place here) on.is in
          let same : suc place ≡ old.index + suc n = omega arith in rw (← same) one.later

      few-steps : (most : ℕ) → IsLeapLimit old most limit → tries ≤ leap_most old most
      few-steps most (ByTime is) = grind (arith, begun-at (tries - 1), reached-here (tries - 1))
      few-steps most (ByTurns limits) = choose (nat_lt (suc limits.count) tries) refl
        where
          choose : (b : Bool) → nat_lt (suc limits.count) tries ≡ b → tries ≤ leap_most old most
          choose false e = let few = limits.few in grind (arith, nat_tests)
          choose true e =
              let more : suc limits.count < tries = grind (arith, nat_tests) in
              let frame : limit ≤ frame_end (course_of old) = let frame = limits.frame in omega (arith, frame) in
              let held = stepped-held (course_of old) limit frame (suc limits.count) (λ n less. limits.begun n (omega arith))
              limits.count (omega arith) in
              let here = (reached-here limits.count (omega arith)).now_is in
              absurd (grind (arith, begun-at (suc limits.count), held, here, later-at limits.count, limits.there))

      nothing-met : (heeded : List ℕ) → AreStops stops heeded → MeetNothing old.setting heeded old.index new.state.now.steps
      nothing-met heeded are =
          let all = stands.steps in
          let first = opened.steps in
          record {
            goes = λ i after before. goes-all i (omega arith);
            breaks = λ i after before.
                let n : ℕ = i - old.index in
                let same : i ≡ old.index + n = omega arith in
                let here = ap (λ (m : Moment BoardView). m.regs.pc)
                (ap (now_at old.setting) same ∙ (reached-here n (omega arith)).now_is) in
                ap (λ pc. list_any (λ address. address == pc) heeded) here
                ∙ sym (are (stepped (next old) (from old) n).regs.pc) ∙ gone.passes n (omega arith) (omega arith);
            frame = λ i after before.
                let n : ℕ = i - old.index in
                let same : i ≡ old.index + n = omega arith in
                ap (λ i. (now_at old.setting i).time / frame_ticks) same
                ∙ omega (arith, (reached-here n (omega arith)).time, begun-at n (omega arith));
          }

      -- what a session sees then
      value-there : session_on old new ≡ record (moved_to old new.state.now.steps) { due = new.state.due }
      value-there = grind (arith, stands, opened)

      now-then : new.state.now ≡ now_at (session_on old new).setting new.state.now.steps
      now-then = grind (arith, stands)

      -- ---- what stands after them

      pub set-then : new.set ≡ old.setting.set
      set-then = ap (λ (b : BoardValue). b.set) stands.board_is

      pub asked-then : new.state.asked ≡ 0
      asked-then = ap (λ (b : BoardValue). b.state.asked) stands.board_is

      module _ (most : ℕ) (limit_is : IsLeapLimit old most limit) where
        pub stands-then : (ring : Ring) → IsLeft old.setting old.index old.furthest ring
            → IsStanding (session_on old new).setting new.state.now told (session_on old new).furthest ring
        stands-then ring left =
            let less = few-steps most limit_is in
            rw set-then (grind (arith, cases_lt, goes-all, stands, told-there))

        leap-of : (heeded : List ℕ) → AreStops stops heeded → IsLeap old heeded most new.state.now.steps
        leap-of heeded are = search (rules, arith, few-steps, nothing-met, stands)

        ends-so : (found : Option Stop) → HasEndedBy (course_of old) found (course_on old new)
            → LeapEnds old (if nat_lt old.index new.state.now.steps then None else found) new.state.now.steps
        ends-so found ended = grind (arith, nat_tests, reached-here, stands, steps-same)

    -- ---- by the answer

    module _ (most : ℕ) (limit_is : IsLeapLimit old most limit) (heeded : List ℕ) (are : AreStops stops heeded) where
      leapt-so : {E : Type 0} (found : Option Stop) → Gone {E = E} old to sink later limit stops new told (Ok found)
          → HasLeapt to.took old heeded most old.index new.state.now.steps sink
          (if nat_lt old.index new.state.now.steps then None else found) (session_on old new) later
      leapt-so {E} found gone =
          let all : new.state.now.steps ≡ old.index + gone.made.played.steps = omega (arith, opened.steps) in
          let leap_is = leap-of (Ok found) gone most limit_is heeded are in
          let ending_is = ends-so (Ok found) gone most limit_is found gone.made.ending in
          let sink_is_is : TookAll to.took sink (outputs_between old.setting old.index new.state.now.steps) later =
          rw (all, given-walked old opened gone.made.played.steps) gone.made.played.sink_is in
          grind (arith, ends-so, given-walked, leap-of, value-there)

      leap-refused : {E : Type 0} (refusal : E) → Gone old to sink later limit stops new told (Err refusal)
          → IsLeapRefused to old heeded most sink (session_on old new) later
      leap-refused refusal gone = choose gone.made.steps refl
        where
          choose : (n : ℕ) → gone.made.steps ≡ n → IsLeapRefused to old heeded most sink (session_on old new) later
          choose zero is = cut-something gone.made.cut (ap (λ n. (way_walked (course_of old) n).outputs) is)
          choose (suc last) is =
              let all : new.state.now.steps ≡ old.index + gone.made.steps = omega (arith, opened.steps) in
              record {
                last = old.index + last;
                index = omega (arith, opened.steps);
                after = omega (arith, opened.steps);
                leap = leap-of (Err refusal) gone most limit_is heeded are;
                session = value-there (Err refusal) gone;
                cut =
                    cut-along (ap (outputs_between old.setting old.index) all ∙ given-walked old opened gone.made.steps)
                    (cc (now-then (Err refusal) gone)) gone.made.cut;
                of_last = rw (given-walked old opened last) (gone.made.of_last last is);
              }

      pub leaps-so : {E : Type 0} (result : Result (Option Stop) E) → Gone old to sink later limit stops new told result
          → Leaps to old heeded most sink (stop_unless (nat_lt old.index new.state.now.steps) result) (session_on old new) later
      leaps-so (Ok found) gone = leapt-so found gone
      leaps-so (Err refusal) gone = leap-refused refusal gone

pub taken-up : {S E : Type 0} (to : Giving S) (inside : Inside) (right : IsInsideRight inside) (board new : BoardValue)
    (limit : ℕ) (stops : Option (List ℕ)) (sink later : S) (result : Result (Option Stop) E) (told : List PastStep)
    → board ≡ inside.board.value
    → GoesTold to (course_on (session_view inside) board) limit stops (Some inside.history) sink result
    (course_on (session_view inside) new) (Some told) later
    → Gone (session_view inside) to sink later limit stops new told result
taken-up to inside right board new limit stops sink later result told is gone = search rules
