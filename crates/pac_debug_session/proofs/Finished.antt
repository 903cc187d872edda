-- To the end of a run: what was due, and what the run gives from there on.
use Rattle.pac_debug_session.proofs.Common.{Giving, HasTravelled, IsFinishRefused, IsFinished, IsSession, IsTravelRefused, MotionEnd}
use Rattle.pac_debug_session.proofs.Common.{Outcome, RestsBy, SessionValue, ToEnd, TookAll, arith, cut-after, goes_at, moved_to, not}
use Rattle.pac_debug_session.proofs.Common.{not-false, nothing_due, now_at, outcome_at, outputs_between, prefix-after, rests, rules}
use Rattle.pac_debug_session.proofs.Common.{session_due_outputs, stop_of, took-both, true, ℕ, ◌≡◌}
use Rattle.pac_debug_session.proofs.Travelled.{whole-there}

-- nothing but the run's end ends it
rests-at-end : (s : SessionValue) (from index : ℕ) → rests s ToEnd from index ≡ not (goes_at s.setting index)
rests-at-end s from index = search rules

-- why it rests, said of where it is then
rests-there : (mid new : SessionValue) (from index : ℕ) (why : MotionEnd) → new ≡ moved_to mid index
    → RestsBy mid ToEnd from index why → RestsBy new ToEnd from index why
rests-there mid new from index why is rest = search rules

-- at the end it is where it was at the furthest
furthest-there : (s : SessionValue) → IsSession s → not (goes_at s.setting s.index) ≡ true → s.furthest ≡ s.index
furthest-there s facts over = search rules

module _ {S : Type 0} (to : Giving S) (old : SessionValue) (sink between : S)
    (before : TookAll to.took sink (session_due_outputs old) between) where
  -- after what was due is taken
  abbrev begun-again : SessionValue
  begun-again = record old { due = nothing_due; replayed = 0 }

  pub finished : (mid new : SessionValue) (later : S) (why : MotionEnd) (outcome : Outcome) → mid ≡ begun-again
      → HasTravelled to.took mid ToEnd between why new later → outcome ≡ outcome_at (now_at new.setting new.index) (stop_of why)
      → IsSession new → IsFinished to.took old sink outcome new later
  finished mid new later why outcome mid_is travelled ended facts =
      grind (arith, furthest-there, rests-at-end, rests-there, took-both, whole-there)

  pub finish-refused : (mid new : SessionValue) (later : S) → mid ≡ begun-again
      → IsTravelRefused to mid ToEnd between new later → IsFinishRefused to old sink new later
  finish-refused mid new later mid_is travelled =
      let gone = rw mid_is at travelled in
      let due = session_due_outputs old in
      record {
        last = gone.last;
        index = gone.index;
        fresh = gone.fresh;
        restless = grind (arith, not-false, rests-at-end);
        session = gone.session;
        cut = cut-after due sink between later before gone.cut;
        of_last = prefix-after due (outputs_between old.setting old.furthest gone.last) gone.cut.taken gone.of_last;
      }
