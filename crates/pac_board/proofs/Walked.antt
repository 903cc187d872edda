-- A walk only adds time and steps.
use Rattle.std.proofs.Common.{rules}
use Rattle.std.proofs.lemmas.Bool.Decides.{nat_tests}
use Rattle.pac_board.proofs.Common.{Bool, IsTimely, Moment, Next, Walk, arith, ended-stays, going-steps, has_ended}
use Rattle.pac_board.proofs.Common.{late-has-ended, open-goes-on, stopped-has-ended, suc, true, walk, walk_after_step}
use Rattle.pac_board.proofs.Common.{walk_at_start, walk_onward, zero, ℕ, ◌+◌, ◌<◌, ◌≡◌, ◌≤◌}

pub record IsAfter {Board : Type 0} (before after : Moment Board) : Type 0 where
  pub time : before.time ≤ after.time
  pub steps : before.steps ≤ after.steps

module _ {Board : Type 0} (next : Moment Board → Next Board) (limit : ℕ) (timely : (now : Moment Board) → IsTimely now (next now)) where
  step-after : (from : Moment Board) (w : Walk Board) (h : Next Board) → IsTimely w.now h → IsAfter from w.now
      → IsAfter from (walk_after_step w h).now
  step-after from w it3 times so_far = search rules

  onward-after : (from : Moment Board) (w : Walk Board) (ended : Bool) → has_ended limit w ≡ ended → IsAfter from w.now
      → IsAfter from (walk_onward next limit w).now
  onward-after from w it3 over so_far = search (rules, ended-stays, going-steps, step-after)

  pub walked-after : (from : Moment Board) (tries : ℕ) → IsAfter from (walk next limit from tries).now
  walked-after from zero = record { time = omega arith; steps = omega arith }
  walked-after from (suc tries) = grind (arith, nat_tests, onward-after, has_ended, walked-after from tries)

-- a step ends what has less than 4 T-states left
pub step-ends : {Board : Type 0} (until : ℕ) (w : Walk Board) (h : Next Board) → IsTimely w.now h → until ≤ w.now.time + 1
    → has_ended until (walk_after_step w h) ≡ true
step-ends until w it3 times soon = search (rules, late-has-ended, walk_after_step, stopped-has-ended)

-- the first try of a walk that has time is a step
pub first-try : {Board : Type 0} (next : Moment Board → Next Board) (limit : ℕ) (from : Moment Board) (h : Next Board)
    → next from ≡ h → from.time < limit → walk next limit from (suc zero) ≡ walk_after_step (walk_at_start from) h
first-try next limit from h is early = grind (arith, nat_tests, going-steps, walk_at_start, open-goes-on, walk_after_step)
