-- For proofs: what proofs say of the definitions of Watched.antt.
use Rattle.pac_debug.specs.declared.line.CommandFault.TheVariants as faults
use Rattle.pac_board.specs.SinksLaws.{Giving}
use Rattle.pac_debug_session.specs.Session.{SessionValue}
use Rattle.std.specs.Prelude.{Result, Ok, Err, List, ℕ}
use Rattle.pac_debug.specs.declared.line.CommandFault.{CommandFault}
use Rattle.pac_debug.specs.WatchedLaws.{GaveAll, GaveSome, WatchesSession}
use Rattle.pac_debug.specs.ObeyingLaws.{Scene}
use Rattle.pac_debug_session.specs.Outcome.{Outcome}
use Rattle.pac_out.specs.declared.counted.Counted.{Counted}

-- what lines gave to the sink, whatever they asked, by their answer; a text that can't be written leaves its line done
abbrev pub LinesGive : {S A : Type 0} → Giving S → SessionValue → S → Result A CommandFault → SessionValue → S → Type 0
LinesGive to old sink (Ok done) new later = GaveAll to.took old sink new later
LinesGive to old sink (Err faults.Refused) new later = GaveSome to old sink new later
LinesGive to old sink (Err (faults.Text fault)) new later = GaveAll to.took old sink new later

-- The session is used up: so it was left in the end.
pub record WatchesThrough {S W : Type 0} (to : Giving S) (wrote : W → List ℕ → W → Type 0) (balked : W → W → Type 0)
    (asked : List (List ℕ)) (old : Scene S W) (result : Result Outcome CommandFault) (later : S) (text : Counted W) : Type 0 where
  pub left : SessionValue
  pub watched : WatchesSession to wrote balked asked old result (record { session = left; sink = later; text = text })
