-- Law: the law that a debugger changes nothing, which is proved on a public function of the crate: what is so of a run under
-- a debugger is so of the run without one.
use Rattle.std.specs.Prelude.{ℕ, List, Result, Err}
use Rattle.pac_board_course.specs.declared.outcome.Outcome.{Outcome}
use Rattle.pac_run.specs.declared.fault.Output.TheVariants.{Text}
use Rattle.pac_run.specs.declared.fault.RunFault.{RunFault}
use Rattle.pac_run.specs.declared.fault.RunFault.TheVariants as fault
use Rattle.pac_run.specs.declared.inputs.RunInputs.{RunInputs}
use Rattle.pac_run.specs.Debugs.{Debugs}
use Rattle.pac_run.specs.declared.writers.Writers.{Writers}
use Rattle.pac_run.specs.Run.{Writing, Writings, Runs, writings}

-- each answer but the one that the session's text was refused, which a run without a debugger hasn't
abbrev pub IsOfRuns : Result Outcome RunFault → Type 0
IsOfRuns (Err (fault.Write Text count)) = ⊥
IsOfRuns answer = Unit {0}

-- By that answer the four writers have what they have by the same answer of a run without a debugger, whatever the commands ask.
abbrev pub LeavesTheRun : {F W L R T : Type 0} → Writings F W L R → Writing T → Type 0
LeavesTheRun to text =
    (inputs : RunInputs) (commands : List ℕ) (answer : Result Outcome RunFault) → IsOfRuns answer → Debugs inputs commands to text answer
    → Runs inputs to answer

-- So it is with any five writers that say of themselves what they took and refused, whatever they are before and after.
abbrev pub DebuggersChangeNothing : {F W L R T : Type 0} → (F → List ℕ → F → Type 0) → (F → F → Type 0) → (W → List ℕ → W → Type 0)
    → (W → W → Type 0) → (L → List ℕ → L → Type 0) → (L → L → Type 0) → (R → List ℕ → R → Type 0) → (R → R → Type 0)
    → (T → List ℕ → T → Type 0) → (T → T → Type 0) → Type 0
DebuggersChangeNothing {F} {W} {L} {R} {T} took_f refused_f took_w refused_w took_l refused_l took_r refused_r took refused =
    (old new : Writers F W L R) (text text_left : T)
    → LeavesTheRun (writings took_f refused_f took_w refused_w took_l refused_l took_r refused_r old new)
    (record { took = took; refused = refused; old = text; new = text_left })
