-- So far no index rests; the time that is left falls.
use Rattle.pac_debug_session.proofs.Common.{blanks_at, by, limit, now_at, ◌-◌, ◌<◌, ◌^◌, ◌≡◌}
use Rattle.pac_debug_session.proofs.Travelled.{IsUnderway}
use Rattle.pac_debug_session.proofs.session.Session.travel.Given as goal

abbrev pub invariant-onwards : goal.invariant-onwards
invariant-onwards g l = record {
  under : IsUnderway (by g.S.Sink.took g.S.Sink.refused) l.fn.self l.motion l.fn.sink l.self l.sink;
  from_is : l.from ≡ l.fn.self.index;
  blanks_is : l.blanks ≡ blanks_at l.fn.self.setting l.fn.self.index;
  bound : l.blanks < 2 ^ 40;
}

abbrev pub decreases-onwards : goal.decreases-onwards
decreases-onwards g l = limit l.self.setting - (now_at l.self.setting l.self.index).time
