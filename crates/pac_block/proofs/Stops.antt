-- A board that a stop has left: it isn't behind, and meets the stop again whatever time is asked of it.
use Rattle.pac_block.proofs.Common.{BoardState, BoardValue, BoardView, Ends, Goes, IsNotBehind, IsState, IsTimely, Moment, Next, None}
use Rattle.pac_block.proofs.Common.{Option, Some, Stop, StopsEarly, TimeCanBeCut, Walk, [], ap, arith, asked_left, board_after_exec}
use Rattle.pac_block.proofs.Common.{board_after_run, by_view, course, ended-whole, goes-on, going-steps, has_ended, least_asked}
use Rattle.pac_block.proofs.Common.{nothing_due, open-goes-on, open-is-late, outputs_given, refl, rules, run_ticks, state_left, step}
use Rattle.pac_block.proofs.Common.{step-timely, steps_counted, stopped-is-early, subst, suc, sym, time_of, walk, walk-to-ends}
use Rattle.pac_block.proofs.Common.{walk_after_step, walk_at_start, walk_to, walked-after, zero, ℕ, ◌++◌, ◌+◌, ◌-◌, ◌<◌, ◌∙◌, ◌≡◌, ◌≤◌}

-- ---- walks

module _ {Board : Type 0} (next : Moment Board → Next Board) (timely : (now : Moment Board) → IsTimely now (next now)) where
  -- a walk that met a stop before its first step
  abbrev pub stopped_at : Moment Board → Stop → Walk Board
  stopped_at now stop = record { now = now; outputs = []; stop = Some stop }

  one-step : (limit : ℕ) (now : Moment Board) → now.time < limit
      → walk next limit now (suc zero) ≡ walk_after_step (walk_at_start now) (next now)
  one-step limit now early =
      going-steps next limit (walk_at_start now) (open-goes-on limit (walk_at_start now) refl early)

  -- where the next step is a stop, each walk meets it
  pub stops : (limit : ℕ) (now : Moment Board) (stop : Stop) → now.time < limit → next now ≡ Ends stop
      → walk_to next limit now ≡ stopped_at now stop
  stops limit now stop early ends =
      let one = one-step _ _ early ∙ ap (walk_after_step (walk_at_start now)) ends in
      sym (ended-whole next limit timely now (suc zero) (ap (has_ended limit) one)) ∙ one

  -- where a walk met a stop and no time went by, the next step is that stop
  next-stops : (limit : ℕ) (now : Moment Board) (stop : Stop) → now.time < limit
      → (walk_to next limit now).now.time ≡ now.time → (walk_to next limit now).stop ≡ Some stop → next now ≡ Ends stop
  next-stops limit now stop early same met = choose (next now) refl
    where
      choose : (h : Next Board) → next now ≡ h → next now ≡ Ends stop
      choose (Goes after outputs kind) e =
          let times = subst (IsTimely now) e (timely now) in
          let whole = goes-on next limit timely now (suc zero) in
          let last : (walk_to next limit after).now.time ≡ now.time = search rules in
          absurd (omega (arith, last, (walked-after next limit timely after limit).time))
      choose (Ends other) e = grind (arith, stops)

  -- a walk that met a stop stands where the next step is that stop
  pub met-stop : (limit : ℕ) (from : Moment Board) (stop : Stop) → (walk_to next limit from).stop ≡ Some stop
      → next (walk_to next limit from).now ≡ Ends stop
  met-stop limit from stop met =
      let w = walk_to next limit from in
      let whole = goes-on next limit timely from limit in
      next-stops limit w.now stop (stopped-is-early next limit from limit stop met)
      (ap (λ (w : Walk Board). w.now.time) whole) (ap (λ (w : Walk Board). w.stop) whole ∙ met)

-- ---- what is asked then

-- it is a state that a board can have
pub left-is-state : (stop : Option Stop) (state : BoardState) → StopsEarly stop state → IsState state → IsState (state_left stop state)
left-is-state stop state early is = search rules

-- ---- a call for some time

module _ (board : BoardValue) (microseconds : ℕ) where
  abbrev asked : ℕ
  asked = board.state.asked + microseconds

  -- at a stop the time that was asked isn't over
  early-at : (stop : Option Stop) → (course board microseconds).stop ≡ stop → StopsEarly stop (board_after_run board microseconds).state
  early-at stop open_yet = grind (arith, stopped-is-early)

  pub stopped-early : StopsEarly (course board microseconds).stop (board_after_run board microseconds).state
  stopped-early = early-at (course board microseconds).stop refl

  least-is-more : (time : ℕ) → time_of asked ≤ time → asked ≤ least_asked time
  least-is-more time late = omega (arith, late)

  left-asked : (stop : Option Stop) → (course board microseconds).stop ≡ stop
      → asked_left stop asked (course board microseconds).now.time ≤ least_asked (course board microseconds).now.time
  left-asked None open_yet =
      let next = step (by_view board.set) in
      least-is-more (course board microseconds).now.time
      (open-is-late (time_of asked) (course board microseconds)
      (walk-to-ends next (time_of asked) (step-timely (by_view board.set)) board.state.now) open_yet)
  left-asked (Some stop) met = omega arith

  -- such a call never leaves a board behind
  pub left-not-behind : IsNotBehind (board_after_exec board microseconds).state
  left-not-behind = record { asked = left-asked (course board microseconds).stop refl; due = refl }

-- ---- two calls

module _ (board : BoardValue) (one other : ℕ) where
  abbrev now : Moment BoardView
  now = (course board one).now

  -- the board that the first call left, with so many microseconds asked of it
  abbrev with_asked : ℕ → BoardValue
  with_asked asked = record {
    set = board.set;
    state = record { now = now; asked = asked; due = nothing_due };
    made = steps_counted board.made (now.steps - board.state.now.steps);
  }

  -- what both calls leave and give, and what one for both does
  pub record AreLeftInParts (between : BoardValue) : Type 0 where
    pub state : (board_after_exec between other).state ≡ (board_after_exec board (one + other)).state
    pub given : outputs_given board one ++ outputs_given between other ≡ outputs_given board (one + other)
    pub ticks : run_ticks board one + run_ticks between other ≡ run_ticks board (one + other)
    pub stop : (course between other).stop ≡ (course board (one + other)).stop

  abbrev all_asked : ℕ
  all_asked = board.state.asked + one

  -- the second call's walk, after a stop
  met-again : (asked : ℕ) (stop : Stop) → (course board one).stop ≡ Some stop → now.time < time_of (asked + other)
      → course (with_asked asked) other ≡ stopped_at (step (by_view board.set)) (step-timely (by_view board.set)) now stop
  met-again asked stop met early =
      let next = step (by_view board.set) in
      let timely = step-timely (by_view board.set) in
      stops next timely (time_of (asked + other)) now stop early (met-stop next timely (time_of all_asked) board.state.now stop met)

  pub stopped-again : (stop : Stop) → (course board one).stop ≡ Some stop
      → course (board_after_exec board one) other ≡ stopped_at (step (by_view board.set)) (step-timely (by_view board.set)) now stop
  stopped-again stop met = grind (arith, met-again)

  -- and leaves what the first has left
  pub left-again : (stop : Stop) → (course board one).stop ≡ Some stop
      → (board_after_exec (board_after_exec board one) other).state ≡ (board_after_exec board one).state
  left-again stop met = grind (arith, stopped-again)

  pub left-in-parts : TimeCanBeCut → AreLeftInParts (board_after_exec board one)
  left-in-parts cuts = choose (course board one).stop refl
    where
      choose : (stop : Option Stop) → (course board one).stop ≡ stop → AreLeftInParts (board_after_exec board one)
      choose None open_yet = search rules
      choose (Some stop) met =
          let cut = cuts board one other in
          let again = stopped-again stop met in
          let early : now.time < time_of (all_asked + other) = let first = early-at board _ _ met in omega (arith, first) in
          let both = met-again all_asked stop met early in
          let stopped : (course (with_asked all_asked) other).stop ≡ Some stop = ap (λ (w : Walk BoardView). w.stop) both in
          let final : (course board (one + other)).stop ≡ Some stop = sym cut.stop_is ∙ stopped in search rules
