-- The steps so far were done again.
use Rattle.pac_debug_session.proofs.Common.{replayed_to, ◌-◌, ◌≡◌, ◌≤◌}
use Rattle.pac_debug_session.proofs.session.Session.replay.Given as goal

abbrev pub invariant-again : goal.invariant-again
invariant-again l = record {
  session : l.self ≡ replayed_to l.fn.self l.self.index;
  after : l.fn.self.index ≤ l.self.index;
  before : l.self.index ≤ l.index;
}

abbrev pub decreases-again : goal.decreases-again
decreases-again l = l.index - l.self.index
