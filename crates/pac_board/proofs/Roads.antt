-- A board's loop ends at its limit, or earlier, where it is to stop, or where a step did something at an address that is watched. Then its
-- walk is the one to that time.
use Rattle.std.proofs.Common.{rules}
use Rattle.pac_board.proofs.Common.{Access, BoardPasses, BoardValue, BoardWatched, Bool, Giving, GoesTo, GoesUntil, HasGone}
use Rattle.pac_board.proofs.Common.{HasGoneUntil, IsHeld, IsTimely, IsTold, List, Moment, Next, None, Option, Output, PassesBy}
use Rattle.pac_board.proofs.Common.{PastStep, Result, Stop, Walk, ap, arith, by_view, false, going-before, going-far, going-steps}
use Rattle.pac_board.proofs.Common.{has_ended, is_some, is_stop, late-has-ended, more-joined, nat_lt, nat_tests, not-both, noted-more}
use Rattle.pac_board.proofs.Common.{open-goes-on, passes-more, refl, step, step-timely, subst, suc, sym, true, walk, walk_onward}
use Rattle.pac_board.proofs.Common.{watched-first, watched-more, way_at, zero, ℕ, ◌+◌, ◌-◌, ◌<◌, ◌∙◌, ◌≡◌, ◌≤◌}
use Rattle.pac_board.proofs.Stretches.{has-no-stop}
use Rattle.pac_board.proofs.Turns.{IsUnderway, ended, time-is-over}

-- ---- a walk that is open at a time is also the walk to that time

module _ {Board : Type 0} (next : Moment Board → Next Board) (limit : ℕ) (timely : (now : Moment Board) → IsTimely now (next now))
    (from : Moment Board) where
  abbrev at : ℕ → Walk Board
  at n = walk next limit from n

  -- each step takes its time
  earlier : (n m : ℕ) → m < n → has_ended limit (at n) ≡ false → (at m).now.time < (at n).now.time
  earlier n m less going =
      let still = going-before next limit from m n (omega arith) going in
      let joins = more-joined next limit from m (n - m) n (omega arith) (has-no-stop (at m).stop _ still) in
      let far = going-far next limit timely (at m).now (n - m) (ap (has_ended limit) joins ∙ going) in
      omega (arith, less, far.time, ap (λ (w : Walk Board). w.now.time) joins)

  pub walk-sooner : (n : ℕ) → has_ended limit (at n) ≡ false → (m : ℕ) → m ≤ n → walk next (at n).now.time from m ≡ at m
  walk-sooner n going zero less = refl
  walk-sooner n going (suc m) less =
      search (rules, going-before, walk_onward, going-steps, open-goes-on, has-no-stop, earlier, walk-sooner n going m (omega arith))

-- ---- the loop's ends

module _ {S : Type 0} {took : S → Output → S → Type 0} {start : BoardValue} {limit : ℕ} {sink : S} {stop : Option Stop} {new : BoardValue}
    {later : S} where
  -- one that meets a stop, or has no time left, ends at its limit
  pub gone-to-limit : {stops : Option (List ℕ)} (met : Option Access) → HasGone took start limit sink stop new later
      → HasGoneUntil took start limit stops met sink stop new later
  gone-to-limit met gone = grind (arith, nat_tests)

  -- where nothing is watched and there are no addresses to stop at, it ends at its limit alone
  gone-free : HasGoneUntil took start limit None None sink stop new later → HasGone took start limit sink stop new later
  gone-free gone = grind (arith, nat_tests, not-both)

module _ {S : Type 0} {took : S → Output → S → Type 0} {start : BoardValue} {limit : ℕ} {sink : S} {board : BoardValue} {taker : S}
    (under : IsUnderway took start limit sink board taker) where
  ends-there : board.state.now.time < limit → HasGone took start board.state.now.time sink None board taker
  ends-there early =
      let w = way_at start limit under.steps in
      let time = ap (λ (b : BoardValue). b.state.now.time) under.board_is in
      let going = open-goes-on limit w under.open_yet (omega arith) in
      let same =
      walk-sooner (step (by_view start.set)) limit (step-timely (by_view start.set)) start.state.now under.steps going under.steps
      (omega arith) in
      subst (λ t. HasGone took start t sink None board taker) (sym time)
      (ended took start w.now.time sink under.steps None board taker (rw same (late-has-ended w.now.time w (omega arith)))
      (rw same under.open_yet) (rw same under.board_is) (rw same under.sink_is))

  -- one that is held there, or has no time left, ends there
  gone-there : (stops : Option (List ℕ)) (met : Option Access) → start.state.now.time < board.state.now.time
      → IsHeld stops board.state.now.time met None board → HasGoneUntil took start limit stops met sink None board taker
  gone-there stops met later held = here (nat_lt board.state.now.time limit) refl
    where
      here : (b : Bool) → nat_lt board.state.now.time limit ≡ b → HasGoneUntil took start limit stops met sink None board taker
      here true e =
          let early : board.state.now.time < limit = grind (arith, nat_tests) in
          record {
            end = board.state.now.time;
            within = omega arith;
            some = λ some. later;
            gone = ends-there early;
            early = λ less. held;
          }
      here false e = gone-to-limit met (time-is-over under (grind (arith, nat_tests)))

  -- one that stands where it is to stop
  pub gone-to-stop : (stops : Option (List ℕ)) (met : Option Access) → met ≡ None → start.state.now.time < board.state.now.time
      → is_stop stops board.state.now.regs.pc ≡ true → HasGoneUntil took start limit stops met sink None board taker
  gone-to-stop stops met none later stands = grind (arith, nat_tests, gone-there)

  -- one whose last step did something at an address that is watched
  pub gone-to-access : (stops : Option (List ℕ)) (met : Option Access) → is_some met ≡ true
      → start.state.now.time < board.state.now.time → HasGoneUntil took start limit stops met sink None board taker
  gone-to-access stops it2 some later = search (rules, not-both, gone-there)

pub goes-free : {S E : Type 0} (to : Giving S) (start : BoardValue) (limit : ℕ) (stops : Option (List ℕ)) (met : Option Access) (sink : S)
    (answer : Result (Option Stop) E) (new : BoardValue) (later : S) → stops ≡ None → met ≡ None
    → GoesUntil to start limit stops met sink answer new later → GoesTo to start limit sink answer new later
goes-free to start limit stops met sink it7 new later none unmet gone = search (rules, gone-free)

-- ---- what its steps passed by

-- what a loop says of its steps: they are told, they pass by the addresses where they are to stop, and what they did at watched ones
pub record HasPassed (limit : ℕ) (stops marks : Option (List ℕ)) (old new : BoardValue) (met : Option Access)
    (first after : Option (List PastStep))
    : Type 0 where
  pub told : IsTold old limit new first after
  pub passes : BoardPasses stops old new
  pub watched : BoardWatched marks old new met

-- without a step they did nothing there
pub met-nothing : (marks : Option (List ℕ)) (old new : BoardValue) (met : Option Access) → new.state.now.steps ≡ old.state.now.steps
    → met ≡ None → BoardWatched marks old new met
met-nothing marks old new met steps none = grind (arith, nat_tests, watched-first, by_view)

-- a stretch after others
pub passed-further : {S : Type 0} {took : S → Output → S
    → Type 0} {start : BoardValue} {limit : ℕ} {sink : S} {board : BoardValue} {taker : S}
    → IsUnderway took start limit sink board taker → (new : BoardValue) (stops marks : Option (List ℕ)) {marks_there : Option (List ℕ)}
    {met : Option Access} {told between after : Option (List PastStep)} → marks_there ≡ marks
    → IsTold start limit board told between → PassesBy (step (by_view start.set)) stops start.state.now (board.state.now.steps + 1)
    → BoardWatched marks start board None
    → IsTold board limit new between after → BoardPasses stops board new → BoardWatched marks_there board new met
    → HasPassed limit stops marks start new met told after
passed-further {start = start} {board = board} under new stops marks {met = met} same_marks one passed quiet two passes watched =
    let next = step (by_view start.set) in
    let same = ap (λ (b : BoardValue). b.set) under.board_is in
    record {
      told = noted-more next one (rw same at two);
      passes = passes-more next stops start.state.now new.state.now.steps one passed (rw same at passes);
      watched =
          watched-more start.set marks next start.state.now new.state.now.steps met one quiet (omega arith)
          (rw (same, same_marks) at watched);
    }
