-- The file of an output that takes its place is whole at each moment of a run.
use Rattle.pac_run_command.proofs.Common.{AllBegun, AllElsewhere, AllOutputsAreWhole, AskedPlay, Bool, Does, EndsWhole, Err, Failure}
use Rattle.pac_run_command.proofs.Common.{FirstUnbegun, Given, Handling, HasLater, HasNewText, HasPathAlone, InTurn, IsPerformed, IsSettled}
use Rattle.pac_run_command.proofs.Common.{IsWrittenOut, List, NamedFile, None, Ok, Option, Outcome, Performing, ReplacesWhole, Result, Some}
use Rattle.pac_run_command.proofs.Common.{StaysWhole, Target, WantedOutput, WhileBegun, WhileInTurn, WriteFault, [], ap, begins_by, by_call}
use Rattle.pac_run_command.proofs.Common.{drafted, false, inl, inr, lets_go_by, refl, run_output_files, run_outputs, subst, sym, true}
use Rattle.pac_run_command.proofs.Common.{true≢false, writing, writings_of, ℕ, ◌∙◌, ◌∷◌, ◌≡◌, ◌⊎◌}
use Rattle.pac_run_command.proofs.Failing.{AreFor, ByAnswer, either, ends-after, run-fits}
use Rattle.pac_run_command.proofs.Left.{state-there}

module _ {Disk File : Type 0} {handling : Handling Disk File} {took : File → List ℕ → File → Type 0} {path : List ℕ}
    {named : Disk → Option (List ℕ)} {text_of : File → List ℕ} (keeps : ReplacesWhole handling took path named text_of) where
  -- ---- what is begun

  -- the file isn't changed where this is begun
  abbrev Spares : WantedOutput Target → Type 0
  Spares one = (one.path ≡ path → ⊥) ⊎ (one.is_draft ≡ true)

  abbrev AllSpare : List (WantedOutput Target) → Type 0
  AllSpare [] = Unit {0}
  AllSpare (one ∷ more) = Spares one × AllSpare more

  elsewhere-spare : (wanted : List (WantedOutput Target)) → AllElsewhere path wanted → AllSpare wanted
  elsewhere-spare [] all = tt
  elsewhere-spare (one ∷ more) all = (inl all.0, elsewhere-spare more all.1)

  pub alone-spare : (output : Target) (wanted : List (WantedOutput Target)) → HasPathAlone output path wanted → AllSpare wanted
  alone-spare output [] none = absurd none
  alone-spare output (one ∷ more) (inl here) =
      (inr (ap (λ (wanted : WantedOutput Target). wanted.is_draft) here.0), elsewhere-spare more here.1)
  alone-spare output (one ∷ more) (inr later) = (inl later.0, alone-spare output more later.1)

  begins-same : (is_draft : Bool) (other : List ℕ) → ((other ≡ path → ⊥) ⊎ (is_draft ≡ true)) → (old new : Disk) (file : Option File)
      → begins_by handling is_draft old other file new → named new ≡ named old
  begins-same true other spares old new file is = keeps.drafts old new other file is
  begins-same false other (inl apart) old new file is = keeps.creates old new other file apart is
  begins-same false other (inr never) old new file is = absurd (true≢false (sym never))

  lets-go-same : (is_draft : Bool) (other : List ℕ) (old new : Disk) (file : File) → lets_go_by handling is_draft old other file new
      → named new ≡ named old
  lets-go-same true other old new file is = keeps.discards old new other file is
  lets-go-same false other old new file is = keeps.closes old new file is

  all-begun : (before : Option (List ℕ)) (wanted : List (WantedOutput Target)) → AllSpare wanted → (files : List File) (old new : Disk)
      → named old ≡ before → (begun : AllBegun handling old wanted files new)
      → WhileBegun (λ disk. named disk ≡ before) handling old wanted files new begun × (named new ≡ before)
  all-begun before [] spare [] old new at begun = (tt, ap named begun ∙ at)
  all-begun before [] spare (file ∷ files) old new at begun = absurd begun
  all-begun before (one ∷ more) spare [] old new at begun = absurd begun
  all-begun before (one ∷ more) spare (file ∷ files) old new at begun =
      let here = begins-same one.is_draft one.path spare.0 old begun.0 (Some file) begun.1 ∙ at in
      let rest = all-begun before more spare.1 files begun.0 new here begun.2 in
      ((here, rest.0), rest.1)

  pub not-begun : (wanted : List (WantedOutput Target)) → AllSpare wanted → (output : Target) (old new : Disk)
      → FirstUnbegun handling old wanted output new → named new ≡ named old
  not-begun [] spare output old new none = absurd none
  not-begun (one ∷ more) spare output old new (inl failed) = begins-same one.is_draft one.path spare.0 old new None failed.1
  not-begun (one ∷ more) spare output old new (inr first) =
      lets-go-same one.is_draft one.path first.3 new first.0 first.5
      ∙ (not-begun more spare.1 output first.1 first.3 first.4
      ∙ begins-same one.is_draft one.path spare.0 old first.1 (Some first.0) first.2)

  -- ---- what is written out

  written-same : (is_draft : Bool) (output : Target) (other : List ℕ) (file : File) (ran answer : Result Outcome Failure) (old new : Disk)
      → IsWrittenOut handling old (record { output = output; path = other; is_draft = is_draft }) file ran answer new
      → named new ≡ named old
  written-same true output other file (Ok outcome) answer old new is = keeps.syncs old new file is.done is.called
  written-same false output other file (Ok outcome) answer old new is = ap named is.1
  written-same is_draft output other file (Err failure) answer old new is = ap named is.1

  -- what is done in turn with outputs of which each keeps the file, by what holds of them all
  all-keep : (holds : Option (List ℕ) → Type 0) (does : Does Disk File) (all : List (WantedOutput Target) → Type 0)
      → ((one : WantedOutput Target) (more : List (WantedOutput Target)) → all (one ∷ more)
      → ((file : File) (ran answer : Result Outcome Failure) (old new : Disk) → does old one file ran answer new → named new ≡ named old)
      × all more) → (wanted : List (WantedOutput Target)) → all wanted → (files : List File) (ran answer : Result Outcome Failure)
      (old new : Disk) → holds (named old) → (turns : InTurn does old wanted files ran answer new)
      → WhileInTurn (λ disk. holds (named disk)) does old wanted files ran answer new turns × (named new ≡ named old)
  all-keep holds does all each [] are files ran answer old new at turns = (tt, ap named turns.1)
  all-keep holds does all each (one ∷ more) are [] ran answer old new at turns = (tt, ap named turns.1)
  all-keep holds does all each (one ∷ more) are (file ∷ files) ran answer old new at turns =
      let keep = each one more are in
      let here = keep.0 file ran turns.1 old turns.0 turns.2 in
      let held : holds (named turns.0) = rw here at in
      let rest = all-keep holds does all each more keep.1 files turns.1 answer turns.0 new held turns.3 in
      ((held, rest.0), rest.1 ∙ here)

  -- ---- what is settled

  settled-elsewhere : (is_draft : Bool) (output : Target) (other : List ℕ) → (other ≡ path → ⊥) → (file : File)
      (ran answer : Result Outcome Failure) (old new : Disk)
      → IsSettled handling old (record { output = output; path = other; is_draft = is_draft }) file ran answer new
      → named new ≡ named old
  settled-elsewhere true output other apart file (Ok outcome) answer old new is = keeps.elsewhere old new other file is.done apart is.called
  settled-elsewhere false output other apart file (Ok outcome) answer old new is = keeps.closes old new file is.1
  settled-elsewhere is_draft output other apart file (Err failure) answer old new is = lets-go-same is_draft other old new file is.1

  -- the output's own draft takes its place, or the file stays
  called : (before : Option (List ℕ)) (output : Target) (file : File) (outcome : Outcome) (done : Result Unit WriteFault)
      (so_far : Result Outcome Failure) (old new : Disk) → named old ≡ before → handling.publishes old path file done new
      → so_far ≡ by_call output outcome done → ByAnswer (named new ≡ before) (named new ≡ Some (text_of file)) so_far
  called before output file outcome (Ok done) so_far old new at publishes is = rw is (keeps.publishes old new file done publishes)
  called before output file outcome (Err fault) so_far old new at publishes is = rw is (keeps.stays old new file fault publishes ∙ at)

  own : (before : Option (List ℕ)) (output : Target) (file : File) (ran so_far : Result Outcome Failure) (old new : Disk)
      → named old ≡ before → IsSettled handling old (drafted output path) file ran so_far new
      → ByAnswer (named new ≡ before) (named new ≡ Some (text_of file)) so_far
  own before output file (Ok outcome) so_far old new at is =
      called before output file outcome is.done so_far old new at is.called is.answer_is
  own before output file (Err failure) so_far old new at is = rw is.0 (keeps.discards old new path file is.1 ∙ at)

  -- `text` and `later` are of all outputs, these are the last of them
  all-settled : (before : Option (List ℕ)) (text : Option (List ℕ) → Type 0) (later : Type 0) (output : Target)
      (wanted : List (WantedOutput Target)) → HasPathAlone output path wanted → (files : List File) (ran answer : Result Outcome Failure)
      → ((outcome : Outcome) → answer ≡ Ok outcome → AreFor wanted files) → (old new : Disk) → named old ≡ before
      → ((found : Option (List ℕ)) → HasNewText text_of path wanted files found → text found) → (HasLater path wanted → later)
      → (turns : InTurn (IsSettled handling) old wanted files ran answer new)
      → WhileInTurn (λ disk. (named disk ≡ before) ⊎ text (named disk)) (IsSettled handling) old wanted files ran answer new turns
      × EndsWhole (named new ≡ before) (text (named new)) later answer
  all-settled before text later output [] none files ran answer fit old new at whole comes turns = absurd none
  all-settled before text later output (one ∷ more) alone [] ran (Ok outcome) fit old new at whole comes turns = absurd (fit outcome refl)
  all-settled before text later output (one ∷ more) alone [] ran (Err failure) fit old new at whole comes turns =
      (tt, inl (ap named turns.1 ∙ at))
  all-settled before text later output (one ∷ more) (inr apart) (file ∷ files) ran answer fit old new at whole comes turns =
      let here = settled-elsewhere one.is_draft one.output one.path apart.0 file ran turns.1 old turns.0 turns.2 ∙ at in
      let rest = all-settled before text later output more apart.1 files turns.1 answer fit turns.0 new here
      (λ found has. whole found (inr (apart.0, has))) (λ has. comes (inr has)) turns.3 in
      ((inl here, rest.0), rest.1)
  all-settled before text later output (one ∷ more) (inl here) (file ∷ files) ran answer fit old new at whole comes turns =
      let path_is = ap (λ (wanted : WantedOutput Target). wanted.path) here.0 in
      let has = λ (found : Option (List ℕ)) (is : found ≡ Some (text_of file)). whole found (inl (path_is, is)) in
      let settles = subst (λ wanted. IsSettled handling old wanted file ran turns.1 turns.0) here.0 turns.2 in
      let placed = own before output file ran turns.1 old turns.0 at settles in
      let held = either turns.1 placed (has (named turns.0)) in
      let rest = all-keep (λ found. (found ≡ before) ⊎ text found) (IsSettled handling) (AllElsewhere path)
      (λ one more all. (settled-elsewhere one.is_draft one.output one.path all.0, all.1)) more here.1 files turns.1 answer turns.0 new
      held turns.3 in (
        (held, rest.0),
        rw rest.1 (ends-after handling _ _ _ _ more files turns.1 answer turns.0 new turns.3 placed (has (named turns.0))
            (λ some. comes (inl (path_is, some)))),
      )

  -- ---- a run

  pub stays : {performs : Performing File} (output : Target) (asked : AskedPlay) (given : Given) (parts : List NamedFile) (old : Disk)
      (answer : Result Outcome Failure) (new : Disk) → HasPathAlone output path (run_outputs asked)
      → (performed : IsPerformed handling performs asked given parts old answer new)
      → ((outcome : Outcome) → performed.ran ≡ Ok outcome → AreFor (run_outputs asked) (run_output_files performed.left))
      → StaysWhole handling performs path named text_of asked given parts old answer new performed
  stays output asked given parts old answer new alone performed fit =
      let wanted = run_outputs asked in
      let left = run_output_files performed.left in
      let settles = performed.settled in
      let begun = all-begun (named old) wanted (alone-spare output wanted alone) (run_output_files performed.created) old performed.during
      refl performed.all_begun in
      let written = all-keep (λ found. found ≡ named old) (IsWrittenOut handling) (λ all. Unit {0})
      (λ one more all. (written-same one.is_draft one.output one.path, tt)) wanted tt left performed.ran settles.so_far performed.during
      settles.written begun.1 settles.all_written in
      let settled = all-settled (named old) (HasNewText text_of path wanted left) (HasLater path wanted) output wanted alone left
      settles.so_far answer (run-fits handling wanted left performed.ran settles.so_far answer performed.during settles.written new
      settles.all_written settles.all_settled fit) settles.written new (written.1 ∙ begun.1) (λ found has. has) (λ later. later)
      settles.all_settled in
      record { begun = begun.0; written = written.0; settled = settled.0; ends = settled.1 }

module _ {Disk File R T : Type 0} (handling : Handling Disk File) (took : File → List ℕ → File → Type 0) (refused : File → File → Type 0)
    (wrote : R → List ℕ → R → Type 0) (balked : R → R → Type 0) (said : T → List ℕ → T → Type 0) (fell_silent : T → T → Type 0) where
  pub outputs-whole : AllOutputsAreWhole handling took refused wrote balked said fell_silent
  outputs-whole report report_left text text_left named text_of output path keeps = record {
    of_runs = λ from asked given parts old answer new alone performed.
        stays keeps output asked given parts old answer new alone performed (λ outcome is. state-there handling took refused
        performed.inputs (writings_of took refused performed.created performed.left (writing wrote balked report report_left)) from
        asked.save performed.created.state performed.left.state performed.all_begun.2.2.0 performed.during outcome performed.ran is
        performed.all_begun.2.2.2 performed.performed);
    of_sessions = λ commands asked given parts old answer new alone performed.
        stays keeps output _ given parts old answer new alone performed (λ outcome is. tt);
    unbegun = λ asked old answer new alone uncreated.
        not-begun keeps (run_outputs asked) (alone-spare keeps output (run_outputs asked) alone) uncreated.output old new uncreated.first;
  }
