-- A batch of the machine's that is one step is a stretch of the board's, which counts it.
use Rattle.std.proofs.Common.{rules}
use Rattle.std.proofs.lemmas.Bool.Decides.{nat_tests}
use Rattle.pac_board.proofs.Common.{BoardStanding, BoardValue, BoardView, Due, HasBatch, IsStretched, List, MakesBatch, Moment, Option}
use Rattle.pac_board.proofs.Common.{Stop, ap, arith, batch_at, by_view, refl, step, step-timely, steps_counted, subst, suc, ℕ, ℤ, ◌+◌, ◌-◌}
use Rattle.pac_board.proofs.Common.{◌≤◌}
use Rattle.pac_board.proofs.Stretches.{single-goes}
use Rattle.pac_board.proofs.Walked.{walked-after}
use Rattle.pac_board.proofs.board.Board.go_on.Goals as goal

-- a board that holds a machine
abbrev held : BoardStanding → (asked made since : ℕ) → Due → BoardValue
held machine asked made since due = record {
  set = machine.set;
  state = record { now = machine.now; asked = asked; due = due };
  made = steps_counted made (machine.now.steps - since);
}

module _ {old new : BoardStanding} {limit : ℕ} {stop : Option Stop} {given : List ℤ} {due : Due}
    (made : MakesBatch old limit new stop given due) where
  steps-on : old.now.steps ≤ new.now.steps
  steps-on =
      let more = walked-after (step (by_view old.set)) limit (step-timely (by_view old.set)) old.now (suc made.tries) in
      omega (arith, more.steps, ap (λ (m : Moment BoardView). m.steps) made.now)

  batch-held : (asked counted since : ℕ) (before : Due) → since ≤ old.now.steps
      → HasBatch (held old asked counted since before) limit stop given (held new asked counted since due)
  batch-held asked counted since before earlier = grind (arith, nat_tests, steps-on, steps_counted, batch_at)

pub invariant_of-self : goal.invariant_of-self
invariant_of-self c = search (rules, steps-on, c.self.invariant.asked, c.self.invariant.since, c.make_step-self-inside.ensures)

pub returns-clause-made : goal.returns-clause-made
returns-clause-made c =
    let of = c.self.inside in
    let new = held c.make_step-self-inside.new.self of.asked of.made of.since c.make_step-self-inside.result in
    subst (λ (b : BoardValue). IsStretched b (b.state.now.time + 1) c.make_step-self-inside.new.met new) c.self.view_is
    (single-goes (batch-held c.make_step-self-inside.ensures of.asked of.made of.since of.due c.self.invariant.since) refl refl)
