-- For proofs: what proofs say of the definitions of Obeying.antt.
use Rattle.pac_board.specs.SinksLaws.{Giving}
use Rattle.pac_debug_session.specs.Session.{SessionValue}
use Rattle.pac_debug_session.specs.declared.motion.Motion.{Motion}
use Rattle.std.specs.Prelude.{Result, Ok, Err}
use Rattle.pac_debug.specs.declared.answer.Answer.{Answer}
use Rattle.pac_debug.specs.Obeying.{HasMoved, IsCommandObeyed}
use Rattle.pac_debug_session.specs.MotionsLaws.{IsTravelRefused}
use Rattle.pac_debug_text.specs.declared.command.Command.{Command}
use Rattle.pac_debug_text.specs.declared.command.NoCommand.{NoCommand}
use Rattle.pac_debug.specs.ObeyingLaws.{IsHeldUp, IsCommandDone, IsCommandRefused}

-- moving on; where the sink refused, there is no answer
abbrev pub Moves : {S E : Type 0} → Giving S → SessionValue → Motion → S → Result Answer E → SessionValue → S → Type 0
Moves to old motion sink (Ok answer) new later = HasMoved to.took old motion sink answer new later
Moves to old motion sink (Err refusal) new later = IsTravelRefused to old motion sink new later

abbrev pub Obeys : {S E : Type 0} → Giving S → SessionValue → Result Command NoCommand → S → Result Answer E → SessionValue → S → Type 0
Obeys to old asked sink (Ok answer) new later = IsCommandObeyed to.took old asked sink answer new later
Obeys to old asked sink (Err refusal) new later = IsHeldUp to old asked sink new later

abbrev pub DoesCommand : {S E : Type 0} → Giving S → SessionValue → Result Command NoCommand → S → Result Answer E → SessionValue → S
    → Type 0
DoesCommand to old asked sink (Ok answer) new later = IsCommandDone to.took old asked sink answer new later
DoesCommand to old asked sink (Err refusal) new later = IsCommandRefused to old asked sink new later
