-- A microsecond has at most four T-states, as many as each step takes at least.
use Rattle.pac_block.proofs.Common.{BoardState, Bool, IsTimely, None, OneStepAtMost, ap, arith, ended-whole, nat_le, onward_if, rules}
use Rattle.pac_block.proofs.Common.{set_of_roms, state_in, step-timely, time_of, walk-ends, ℕ, ◌+◌, ◌≤◌}
use Rattle.pac_board_model.specs.Step.{Moment, Next, step}
use Rattle.pac_board_model.specs.Trace.{by_view}
use Rattle.pac_board_model.specs.Walk.{walk_at_start}

first-counted : {Board : Type 0} (next : Moment Board → Next Board) (now : Moment Board) (late : Bool) → IsTimely now (next now)
    → (onward_if next (walk_at_start now) None late).now.steps ≤ now.steps + 1
first-counted next now late timely = search rules

-- the time of a microsecond more
pub soon : (asked time : ℕ) → time_of asked ≤ time → time_of (asked + 1) ≤ time + 4
soon asked time late = omega (arith, late)

pub one-step-at-most : OneStepAtMost
one-step-at-most roms block new samples samples_after ran done late =
    let state = state_in block in
    let ask = by_view (set_of_roms roms) in
    let ended = walk-ends (step ask) _ (step-timely ask) state.now 1 (soon state.asked _ late) in
    let whole = ended-whole (step ask) _ (step-timely ask) state.now 1 ended in
    let first = first-counted (step ask) state.now (nat_le (time_of (state.asked + 1)) state.now.time) (step-timely ask state.now) in
    let same = ap (λ (state : BoardState). state.now.steps) done.board.state_is in
    omega (arith, first, same, ap (λ w. w.now.steps) whole)
