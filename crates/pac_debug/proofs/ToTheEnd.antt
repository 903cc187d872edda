-- A whole session: its lines, and then the run's end.
use Rattle.pac_debug.proofs.Common.{CommandFault, Counted, Err, GaveAll, Giving, IsFinishRefused, IsFinished, IsFurther}
use Rattle.pac_debug.proofs.Common.{IsSessionOfferRefused, IsSessionWatched, IsWatchRefused, LinesGive, List, ObeysLines, Ok, Outcome}
use Rattle.pac_debug.proofs.Common.{Output, Scene, SessionValue, TookTold, WatchesSession, [], append-nil, append_assoc, arith, command_of}
use Rattle.pac_debug.proofs.Common.{outputs_from, outputs_to_give, outputs_until, rules, session_at_command, session_due_outputs, subst}
use Rattle.pac_debug.proofs.Common.{sym, took-both, ℕ, ◌++◌, ◌∙◌, ◌≡◌, ◌⊎◌}
use mathlib.Core.List.{IsPrefix}
use Rattle.pac_debug.specs.declared.line.CommandFault.TheVariants as faults
use Rattle.pac_debug.proofs.Giving.{all-to-give, some-after, finish-given, lines-given}
use Rattle.pac_debug.proofs.Telling.{lines-told, lines-stop, line-refused, line-untold}

-- what was taken, and what is due, are among what was to be given
among : (old new : SessionValue) (taken : List Output) → IsFurther old new → outputs_until old new ≡ taken ++ session_due_outputs new
    → IsPrefix (taken ++ session_due_outputs new) (outputs_to_give old)
among old new taken further parts = (outputs_from new.setting new.furthest, all-to-give old new taken further parts)

taken-among : (old new : SessionValue) (taken : List Output) → IsFurther old new → outputs_until old new ≡ taken ++ session_due_outputs new
    → IsPrefix taken (outputs_to_give old)
taken-among old new taken further parts =
    let rest = outputs_from new.setting new.furthest in (
      session_due_outputs new ++ rest,
      sym (append_assoc taken (session_due_outputs new) rest) ∙ all-to-give old new taken further parts,
    )

module _ {S W : Type 0} (to : Giving S) (wrote : W → List ℕ → W → Type 0) (balked : W → W → Type 0)
    (lines : List (List ℕ)) (old mid : Scene S W) where
  -- all lines were answered, and the run came to its end
  pub finished : (done : Unit {0}) → ObeysLines to wrote balked lines old (Ok done) mid
      → GaveAll to.took old.session old.sink mid.session mid.sink → (outcome : Outcome) (end : SessionValue) (later : S)
      → IsFinished to.took mid.session mid.sink outcome end later
      → IsSessionWatched to.took wrote lines old outcome (record { session = end; sink = later; text = mid.text })
  finished done obeyed gave outcome end later finish =
      let told = lines-told to wrote balked lines done old mid obeyed in
      let same = gave.further.setting in
      let given = outputs_to_give mid.session in
      let all : gave.taken ++ given ≡ outputs_to_give old.session
      = sym (append_assoc gave.taken (session_due_outputs mid.session) (outputs_from mid.session.setting mid.session.furthest))
      ∙ all-to-give old.session mid.session gave.taken gave.further gave.parts in grind (arith, took-both)

  -- all lines were answered, and the sink refused on the way to the end
  pub held-up : (done : Unit {0}) → ObeysLines to wrote balked lines old (Ok done) mid
      → GaveAll to.took old.session old.sink mid.session mid.sink → (end : SessionValue) (later : S)
      → IsSessionOfferRefused to (session_at_command mid.session) mid.sink end later ⊎ IsFinishRefused to mid.session mid.sink end later
      → IsWatchRefused to wrote lines old (record { session = end; sink = later; text = mid.text })
  held-up done obeyed gave end later refusal =
      let told = lines-told to wrote balked lines done old mid obeyed in
      let rest = finish-given to mid.session mid.sink end later refusal in
      let some = some-after to old.session mid.session end old.sink mid.sink later gave rest in
      record {
        before = lines;
        after = [];
        parts = sym (append-nil lines);
        between = mid.session;
        sink_between = mid.sink;
        told = told.text;
        lines = told.tells;
        text = told.words;
        gave = gave;
        refusal = refusal;
        in_all = some;
        among = among old.session end some.cut.taken some.further some.cut.parts;
      }

  -- a line wasn't answered
  pub ended-early : (fault : CommandFault) → ObeysLines to wrote balked lines old (Err fault) mid
      → LinesGive {A = Unit {0}} to old.session old.sink (Err fault) mid.session mid.sink
      → WatchesSession to wrote balked lines old (Err fault) mid
  ended-early faults.Refused obeyed gave =
      let halt = lines-stop to wrote balked lines faults.Refused old mid obeyed in
      let refused = line-refused to wrote balked (command_of halt.line) halt.mid mid halt.here in
      let told = lines-told to wrote balked halt.before tt old halt.mid halt.obeyed in
      let text_is = subst (λ (file : Counted W). TookTold wrote halt.before old.text told.text file) (sym refused.1) told.words in
      let gave_is = lines-given to wrote balked halt.before (Ok tt) old halt.mid halt.obeyed in
      let among_is = among old.session mid.session gave.cut.taken gave.further gave.cut.parts in search (rules, arith)
  ended-early (faults.Text fault) obeyed gave =
      let halt = lines-stop to wrote balked lines (faults.Text fault) old mid obeyed in
      let untold = line-untold to wrote balked (command_of halt.line) fault halt.mid mid halt.here in
      let told = lines-told to wrote balked halt.before tt old halt.mid halt.obeyed in
      let among_is = taken-among old.session mid.session gave.taken gave.further gave.parts in search (rules, arith)
