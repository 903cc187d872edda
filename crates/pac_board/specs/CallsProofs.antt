-- For proofs: what proofs say of the definitions of Calls.antt.
use Rattle.pac_board.specs.SinksLaws.{Giving, Cut, RefusesAt}
use Rattle.pac_board_model.specs.Output.{Image, Output}
use Rattle.pac_machine.specs.declared.due.Due.{Due}
use Rattle.std.specs.Prelude.{Option, None, Some, Result, Ok, Err, ◌≡◌, List, []}
use Rattle.pac_cpu.specs.declared.once.Once.{Once}
use Rattle.pac_cpu.specs.declared.once.Once.TheVariants.{Stepped, Stopped}
use Rattle.pac_cpu.specs.declared.once.Stop.{Stop}
use Rattle.pac_board.specs.State.{BoardValue, nothing_due, due_with}
use Rattle.pac_board.specs.CallsLaws.{IsOneStep, StepsOnce, once_of_board}
use Rattle.pac_board.specs.declared.fault.Fault.{Fault}
use Rattle.pac_board.specs.Sinks.{TookAll}

-- what is due is offered, while this is the picture; what is refused is due still
abbrev pub OffersDue : {S A E : Type 0} → Giving S → Image → Due → S → Result A E → Due → S → Type 0
OffersDue to image old sink (Ok done) new later = (new ≡ nothing_due) × TookAll to.took sink (due_with image old) later
OffersDue to image old sink (Err refusal) new later = Cut to sink (due_with image old) (due_with image new) later

-- part of what is due, at most one output, is offered alone; `without` is what is due without it
abbrev pub OffersPart : {S A E : Type 0} → Giving S → List Output → Due → Due → S → Result A E → Due → S → Type 0
OffersPart to part old without sink (Ok done) new later = (new ≡ without) × TookAll to.took sink part later
OffersPart to part old without sink (Err refusal) new later = (new ≡ old) × RefusesAt to sink [] part later

-- the stop in an answer
abbrev pub stop_of_once : Once → Option Stop
stop_of_once (Stepped ticks kind) = None
stop_of_once (Stopped stop) = Some stop

-- what StepsOnce says, of which the stop alone is answered
abbrev pub StepsOn : {S : Type 0} → Giving S → BoardValue → S → Result (Option Stop) Fault → BoardValue → S → Type 0
StepsOn to old sink (Ok stop) new later =
    IsOneStep to.took old sink (once_of_board old) new later × (stop ≡ stop_of_once (once_of_board old))
StepsOn to old sink (Err fault) new later = StepsOnce to old sink (Err fault) new later
