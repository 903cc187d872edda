-- The file of the state, which is the last output: a run that fails leaves it as it was.
use Rattle.pac_run_command.proofs.Common.{AllBegun, AskedRun, EndsInState, EndsWhole, Err, Failure, Frames, Handling, HasLater, HasNewState}
use Rattle.pac_run_command.proofs.Common.{HasNewText, HasPathAlone, List, Listing, None, Of, Ok, Option, Outcome, PerformsRun}
use Rattle.pac_run_command.proofs.Common.{ReplacesWhole, Result, RunInputs, Some, StatesAreWhole, Target, WantedOutput, Wave, Writings, []}
use Rattle.pac_run_command.proofs.Common.{ap, drafted, film_output, inl, inr, option_to_list, refl, refused_if_there, run_output_files}
use Rattle.pac_run_command.proofs.Common.{run_outputs, saving, state_text, took_if_there, writing, writings_of, ℕ, ◌++◌, ◌∙◌, ◌∷◌, ◌≡◌}
use Rattle.pac_run.specs.declared.fault.Output.TheVariants.{State}
use Rattle.pac_run_command.proofs.Failing.{stays-failed}
use Rattle.pac_run_command.proofs.Left.{done-from}
use Rattle.pac_run_command.proofs.WholeOutputs.{outputs-whole}

-- the other three outputs have other paths
others : (path : List ℕ) (asked : AskedRun) (load : Option (List ℕ)) → HasPathAlone (Of State) path (run_outputs (saving asked load path))
    → (asked.frames ≡ path → ⊥) × (asked.wave ≡ path → ⊥) × (asked.listing ≡ path → ⊥)
others path asked load (inl here) = absurd (cc (ap (λ (one : WantedOutput Target). one.output) here.0))
others path asked load (inr (frames, inl here)) = absurd (cc (ap (λ (one : WantedOutput Target). one.output) here.0))
others path asked load (inr (frames, inr (wave, inl here))) = absurd (cc (ap (λ (one : WantedOutput Target). one.output) here.0))
others path asked load (inr (frames, inr (wave, inr (listing, last)))) = (frames, wave, listing)

module _ {Disk File R : Type 0} (handling : Handling Disk File) (took : File → List ℕ → File → Type 0) (refused : File → File → Type 0)
    (wrote : R → List ℕ → R → Type 0) (balked : R → R → Type 0) where
  module _ {path : List ℕ} {named : Disk → Option (List ℕ)} {text_of : File → List ℕ}
      (keeps : ReplacesWhole handling took path named text_of) (asked : AskedRun)
      (frames : asked.frames ≡ path → ⊥) (wave : asked.wave ≡ path → ⊥) (listing : asked.listing ≡ path → ⊥)
      (inputs : RunInputs) (to : Writings File File File R) (from : Option (List ℕ)) (shown sounded listed : File) (old new : Disk) where
    abbrev wanted : List (WantedOutput Target)
    wanted =
        film_output asked Frames asked.frames ∷ film_output asked Wave asked.wave ∷ film_output asked Listing asked.listing
        ∷ drafted (Of State) path ∷ []

    -- so the text is that of the state, after which none comes
    state-text : (file : File) (found : Option (List ℕ)) → HasNewText text_of path wanted (shown ∷ sounded ∷ listed ∷ file ∷ []) found
        → found ≡ Some (text_of file)
    state-text file found (inl here) = absurd (frames here.0)
    state-text file found (inr (apart, inl here)) = absurd (wave here.0)
    state-text file found (inr (apart, inr (other, inl here))) = absurd (listing here.0)
    state-text file found (inr (apart, inr (other, inr (third, inl here)))) = here.1
    state-text file found (inr (apart, inr (other, inr (third, inr none)))) = absurd (none.0 refl)

    not-last : HasLater path wanted → ⊥
    not-last (inl here) = frames here.0
    not-last (inr (inl here)) = wave here.0
    not-last (inr (inr (inl here))) = listing here.0
    not-last (inr (inr (inr (inl here)))) = here.1
    not-last (inr (inr (inr (inr none)))) = none

    new-state : (created left : Option File) (outcome : Outcome) (found : Option (List ℕ))
        → AllBegun handling old (drafted (Of State) path ∷ []) (option_to_list created) new
        → PerformsRun inputs from to (writing (took_if_there took) (refused_if_there refused) created left) (Ok outcome)
        → HasNewText text_of path wanted (shown ∷ sounded ∷ listed ∷ option_to_list left) found → HasNewState inputs from found
    new-state None left outcome found begun performs has = absurd begun
    new-state (Some draft) None outcome found begun performs has =
        absurd (done-from handling took refused inputs to from draft None outcome performs).holds.holds.state_is
    new-state (Some draft) (Some final) outcome found begun performs has =
        let resumed = done-from handling took refused inputs to from draft (Some final) outcome performs in
        let text = state_text resumed.plan inputs.dip from resumed.holds.board in
        record {
          plan = resumed.plan;
          plan_is = resumed.plan_is;
          board = resumed.holds.board;
          is_first = resumed.holds.is_first;
          found_is = state-text final found has ∙ ap (λ (bytes : List ℕ). Some bytes)
              (keeps.grows draft final text resumed.holds.holds.state_is
              ∙ ap (λ bytes. bytes ++ text) (keeps.empty old begun.0 draft begun.1));
        }

    state-ends : (created left : Option File) (before found : Option (List ℕ))
        → AllBegun handling old (drafted (Of State) path ∷ []) (option_to_list created) new → (ran answer : Result Outcome Failure)
        → PerformsRun inputs from to (writing (took_if_there took) (refused_if_there refused) created left) ran
        → ((failure : Failure) → ran ≡ Err failure → answer ≡ Err failure)
        → EndsWhole (found ≡ before) (HasNewText text_of path wanted (shown ∷ sounded ∷ listed ∷ option_to_list left) found)
        (HasLater path wanted) answer
        → EndsInState inputs from before found answer
    state-ends created left before found begun (Ok ended) (Ok outcome) performs fails text =
        new-state created left ended found begun performs text
    state-ends created left before found begun (Err failure) (Ok outcome) performs fails text = absurd (cc (fails failure refl))
    state-ends created left before found begun ran (Err failure) performs fails (inl same) = same
    state-ends created left before found begun ran (Err failure) performs fails (inr whole) = absurd (not-last whole.1)

  pub states-whole : StatesAreWhole handling took refused wrote balked
  states-whole named text_of asked load from path keeps alone report report_left given parts old answer new performed =
      let left = run_output_files performed.left in
      let settles = performed.settled in
      let to = writings_of took refused performed.created performed.left (writing wrote balked report report_left) in
      let whole = (outputs-whole handling took refused wrote balked wrote balked report report_left report report_left named text_of
      (Of State) path keeps).of_runs from (saving asked load path) given parts old answer new alone performed in
      let apart = others path asked load alone in
      state-ends keeps asked apart.0 apart.1 apart.2 performed.inputs to from performed.left.frames performed.left.wave
      performed.left.listing performed.all_begun.2.2.0 performed.during performed.created.state performed.left.state (named old) (named new)
      performed.all_begun.2.2.2 performed.ran answer performed.performed
      (λ failure is. stays-failed handling (run_outputs (saving asked load path)) left failure performed.ran settles.so_far answer
      performed.during settles.written new is settles.all_written settles.all_settled) whole.ends
