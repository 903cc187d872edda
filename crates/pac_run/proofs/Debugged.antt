-- The answers of a run under a debugger, one by one.
use Rattle.pac_run.proofs.Common.{Assembled, Debugs, Err, IsBrokenAt, IsOutcome, IsPrepared, IsReady, IsRunWhole, IsUnwritten, List, None}
use Rattle.pac_run.proofs.Common.{NothingWritten, Ok, Option, Outcome, Output, Plan, Played, Prepared, Prepares, Result, RunFault}
use Rattle.pac_run.proofs.Common.{RunInputs, SessionValue, Setting, WritesPlay, Writing, Writings, arith, contents_of, lines, plan_with}
use Rattle.pac_run.proofs.Common.{rules, session_at_start, session_played, setting_of_plan, subst, told_played, trace_of, ℕ, ◌≡◌}
use Rattle.pac_run.specs.declared.fault.Output.{Output as Which}
use Rattle.pac_run.specs.declared.fault.Output.TheVariants as which
use Rattle.pac_run.specs.declared.fault.RunFault.TheVariants as fault
use Rattle.pac_run.proofs.Answered.{NoWrite, plan-writes}
use Rattle.pac_run.proofs.Traced.{session-outputs, session-outcome, seen-through, same-setting}
use Rattle.std.proofs.lemmas.Bool.Decides.{nat_tests}

-- a session that was made of what was prepared
pub ready-session : (inputs : RunInputs) (prepared : Prepared) (session : SessionValue) → IsPrepared inputs None prepared
    → session ≡ session_at_start (record {
      set = prepared.board.value.set;
      switches = prepared.board.value.state.now.board.memory.switches;
      script = prepared.script;
    }) prepared.board.value.made
    → IsReady inputs prepared.program session
ready-session inputs prepared session ready is = search rules

module _ {F W L R T : Type 0} (inputs : RunInputs) (commands : List ℕ) (to : Writings F W L R) (words : Writing T) where
  -- nothing was written
  pub refused-all : (why : RunFault) → Prepares inputs None (Err why) → NothingWritten to → IsUnwritten words
      → Debugs inputs commands to words (Err why)
  refused-all (fault.State refusal) is none silent = absurd is.refuses
  refused-all (fault.Write output count) is none silent = absurd (subst NoWrite is (plan-writes inputs))
  refused-all fault.NoMemory is none silent = (none, silent)
  refused-all why is none silent = (is, none, silent)

  module _ (program : Option Assembled) (session : SessionValue) (ready : IsReady inputs program session) (unplayed : Type 0)
      (still : unplayed → IsUnwritten words) where
    abbrev plan : Plan
    plan = plan_with inputs program session.setting.set session.setting.script

    abbrev setting : Setting
    setting = setting_of_plan plan inputs.dip

    abbrev outputs : List Output
    outputs = (trace_of plan inputs.dip).outputs

    abbrev played : Played
    played = told_played words setting outputs (IsOutcome session) (lines commands) unplayed

    -- what a session's run leaves, by its answer: its run is the plan's trace
    whole : (outcome : Outcome) → WritesPlay played plan.listing to (Ok outcome) → IsRunWhole (contents_of plan inputs.dip) to outcome
    whole outcome it = let same = session-outcome inputs program session ready outcome it.film.done.outcome_is in search rules

    broken : (output : Which) (count : ℕ) → WritesPlay played plan.listing to (Err (fault.Write output count))
        → IsBrokenAt plan inputs.dip commands to words output count
    broken which.Listing count it = search rules
    broken which.Report count it = grind (arith, nat_tests, session-outcome)
    broken which.Frames count it = (record { listing = it.listing; film = it.film.0; report = it.report }, it.film.1)
    broken which.Wave count it = (record { listing = it.listing; film = it.film.film; report = it.report }, search rules)
    broken which.Text count it = record { listing = it.listing; report = it.report; untold = search rules }
    broken which.State count it = absurd it.film

    by-answer : (answer : Result Outcome RunFault) → WritesPlay played plan.listing to answer → Debugs inputs commands to words answer
    by-answer (Ok outcome) it = grind (arith, seen-through, whole)
    by-answer (Err (fault.Write output count)) it = grind (arith, broken, seen-through)
    by-answer answer it = absurd it

    pub debugged : (answer : Result Outcome RunFault)
        → WritesPlay (session_played words session (lines commands) unplayed) plan.listing to answer
        → Debugs inputs commands to words answer
    debugged answer it =
        by-answer answer
        (rw (same-setting inputs program session ready, ← session-outputs inputs program session ready) it)
