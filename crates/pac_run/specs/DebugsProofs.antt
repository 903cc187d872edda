-- For proofs: what proofs say of the definitions of Debugs.antt.
use Rattle.pac_run.specs.declared.inputs.RunInputs.{RunInputs}
use Rattle.std.specs.Prelude.{Option, Ok, ◌≡◌}
use Rattle.pac_asm.specs.Assembled.{Assembled}
use Rattle.pac_debug.specs.Session.{SessionValue, session_at_start}
use Rattle.pac_run.specs.Plan.{plan_of, plan_with}
use Rattle.pac_board_course.specs.RomParts.{IsWhole as HasAllParts}
use Rattle.pac_run.specs.PlanProofs.{PlaysProgram}

-- what a session is made from, and that it stands at the beginning of its run
pub record IsReady (inputs : RunInputs) (program : Option Assembled) (session : SessionValue) : Type 0 where
  pub plan_is : plan_of inputs ≡ Ok (plan_with inputs program session.setting.set session.setting.script)
  pub switches : session.setting.switches ≡ inputs.dip
  pub session_is : session ≡ session_at_start session.setting 0
  pub whole : HasAllParts session.setting.set
  pub lie : PlaysProgram session.setting.set program
