-- What a session that does its commands gives to a sink and tells, by its answer.
use Rattle.pac_run.proofs.Common.{CommandFault, Err, Giving, HasTaken, IsBrokenOff, IsPlayHeldUp, IsPlayed, IsSessionWatched}
use Rattle.pac_run.proofs.Common.{IsWatchRefused, IsWatchUntold, List, Ok, Option, Outcome, PlaysInto, Result, Scene, SessionTells}
use Rattle.pac_run.proofs.Common.{SessionValue, Some, TellsAll, WatchesSession, WriteFault, Writing, [], all-told, ap, arith}
use Rattle.pac_run.proofs.Common.{outputs_to_give, rules, session_at_start, session_due_outputs, session_played, subst, told-up-to}
use Rattle.pac_run.proofs.Common.{watched_by, whole_run, writing, ℕ, ◌∙◌, ◌≡◌}
use Rattle.pac_debug.specs.declared.line.CommandFault.TheVariants as faults
use Rattle.pac_run.proofs.Lent.{Carries}

module _ {S T U : Type 0} (to : Giving S) (wrote : T → List ℕ → T → Type 0) (balked : T → T → Type 0) (lines : List (List ℕ))
    (scene last : Scene S T) (fresh : scene.session ≡ session_at_start scene.session.setting 0) (start : T)
    (new_text : HasTaken wrote start [] scene.text) (words : Writing U)
    (tells : Carries (writing wrote balked start last.text.writer) words) (unplayed : Type 0) where
  -- a session at the beginning of its run has all of it still to give
  all-to-give : outputs_to_give scene.session ≡ (whole_run scene.session.setting).outputs
  all-to-give = ap outputs_to_give fresh

  -- what its lines tell
  tells-of : (left : SessionValue) (told : List ℕ) → TellsAll lines scene.session told left → SessionTells scene.session.setting lines told
  tells-of left told all = record { left = left; tells = subst (λ it. TellsAll lines it told left) fresh all }

  whole : (outcome : Outcome) → IsSessionWatched to.took wrote lines scene outcome last
      → IsPlayed to.took (session_played words scene.session lines unplayed) scene.sink outcome last.sink
  whole outcome watched =
      let taken = tells.takes watched.told (watched.text.takes.after start [] new_text).written in
      grind (arith, all-to-give, all-told, tells-of)

  held-up : IsWatchRefused to wrote lines scene last
      → IsPlayHeldUp to (session_played words scene.session lines unplayed) scene.sink last.sink
  held-up refused =
      record {
        given = _;
        left = session_due_outputs last.session;
        cut = refused.in_all.cut;
        among = (refused.among.0, (refused.among.1 ∙ all-to-give));
        told = record {
          told = refused.told;
          tells = told-up-to to wrote lines scene last fresh refused;
          taken = tells.takes refused.told (refused.text.takes.after start [] new_text).written;
        };
      }

  untold : (fault : WriteFault) → IsWatchUntold to.took wrote balked lines scene fault last
      → IsBrokenOff to.took (session_played words scene.session lines unplayed) scene.sink fault.count last.sink
  untold fault halt = search rules

  pub plays : (answer : Result Outcome CommandFault) → WatchesSession to wrote balked lines scene answer last
      → PlaysInto to (session_played words scene.session lines unplayed) scene.sink answer last.sink
  plays answer watched = grind (arith, held-up, untold, whole)

-- the session may have been played already
pub of-session : {S U : Type 0} (to : Giving S) (words : Writing U) (lines : List (List ℕ)) (unplayed other : Type 0)
    (found : Option SessionValue) (session : SessionValue) → found ≡ Some session → (old new : S) (answer : Result Outcome CommandFault)
    → PlaysInto to (session_played words session lines unplayed) old answer new
    → PlaysInto to (watched_by words lines other found) old answer new
of-session to words lines unplayed other found session is old new answer it =
    rw is (told answer it)
  where
    told : (answer : Result Outcome CommandFault) → PlaysInto to (session_played words session lines unplayed) old answer new
        → PlaysInto to (watched_by words lines other (Some session)) old answer new
    told (Ok outcome) it = record { sink = it.sink; done = it.done; told = it.told }
    told (Err faults.Refused) it = record { given = it.given; left = it.left; cut = it.cut; among = it.among; told = it.told }
    told (Err (faults.Text fault)) it = record { taken = it.taken; sink = it.sink; among = it.among; untold = it.untold }
