-- The loop goes along its walk, and tells its steps, none of which but the first began where it was to stop; nor would the next one.
use Rattle.pac_board.proofs.Common.{BoardWatched, IsTold, None, PassesBy, by_view, step, ◌+◌, ◌-◌, ◌≡◌, ◌≤◌}
use Rattle.pac_board.proofs.Turns.{IsUnderway}
use Rattle.pac_board.proofs.board.Board.run.Given as goal

abbrev pub invariant-loop-samples : goal.invariant-loop-samples
invariant-loop-samples g l = record {
  made : IsUnderway g.S.Sink.took l.initial.self l.limit l.initial.sink l.self l.sink;
  told : IsTold l.initial.self l.limit l.self l.initial.told l.told;
  passes : PassesBy (step (by_view l.initial.self.set)) l.stops l.initial.self.state.now (l.self.state.now.steps + 1);
  unmet : g.W.Watch.met l.watch ≡ None;
  marks : g.W.Watch.marks l.watch ≡ g.W.Watch.marks l.initial.watch;
  watched : BoardWatched (g.W.Watch.marks l.initial.watch) l.initial.self l.self None;
  after : l.initial.self.state.now.time ≤ l.self.state.now.time;
}

abbrev pub decreases-loop-samples : goal.decreases-loop-samples
decreases-loop-samples g l = l.limit - l.self.state.now.time
