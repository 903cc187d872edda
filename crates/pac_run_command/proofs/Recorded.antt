-- A run of what was read, by itself or under a debugger.
use Rattle.pac_run_command.proofs.Common.{Any, AskedDebug, AskedPlay, Bor, Ending, Failure, FindsFile, Global, Handling, HasIfNamed}
use Rattle.pac_run_command.proofs.Common.{IsOfReading, List, Manner, Memory, Option, PartUnread, Performing, Played, PlaysRun, Read}
use Rattle.pac_run_command.proofs.Common.{ReadsAndRuns, RunsGiven, Some, Vec, WantedFile, Watched, WatchesRun, Writing, from_power_on, inl}
use Rattle.pac_run_command.proofs.Common.{inr, option_copied, option_map, performing, played_files, silent_in, subst, sym, watched_files}
use Rattle.pac_run_command.proofs.Common.{watching, ℕ, ◌≡◌}

pub silent-in : (manner : Manner) {report text : Type 0} → report → text → silent_in manner report text
silent-in (Played from) report text = report
silent-in (Watched commands) report text = (report, text)

-- a failure of reading what is read later
of-reading : (one other : List ℕ → Type 0) → ((name : List ℕ) → one name → other name) → (failure : Failure) → IsOfReading one failure
    → IsOfReading other failure
of-reading one other onward (Read name) reason = onward name.now reason
of-reading one other onward Memory reason = tt
of-reading one other onward _ reason = absurd reason

-- with the last of what the command line names, it is all of the work
once-read : {A Disk File C : Type 0} (finds : FindsFile) (handling : Handling Disk File) (named : List WantedFile) (has : A → Type 0)
    (performs : A → Performing File) {silent : Type 0} {ending : Ending C} (asked : AskedPlay) {old new : Disk} (last : A) → has last
    → RunsGiven finds handling (performs last) silent ending asked old new
    → ReadsAndRuns finds handling named has performs silent ending asked old new
once-read finds handling named has performs asked last had (inl unbegun) = inl (record {
  failure = unbegun.failure;
  reason = of-reading (PartUnread finds asked.run) _ (λ name unread. inr (record { last = last; is_had = had; holds = unread }))
      unbegun.failure unbegun.reason;
  fails = unbegun.fails;
  unchanged = unbegun.unchanged;
  is_silent = unbegun.is_silent;
})
once-read finds handling named has performs asked last had (inr run) = inr (record { last = last; is_had = had; holds = run })

module _ {Disk File R C : Type 0} (finds : FindsFile) (handling : Handling Disk File) (took : File → List ℕ → File → Type 0)
    (refused : File → File → Type 0) (report : Writing R) (silent : Type 0) (ending : Ending C) (old new : Disk) where
  pub once-played : (asked : AskedPlay) (from : Option (Bor (List ℕ))) (state : Option (Vec ℕ Global))
      → option_copied from ≡ option_map (λ bytes. bytes.items) state → HasIfNamed finds asked.load state
      → RunsGiven finds handling (performing took refused report (option_copied from)) silent ending asked old new
      → PlaysRun finds handling (performing took refused report) silent ending asked old new
  once-played asked from state same had runs =
      once-read finds handling (played_files asked) (HasIfNamed finds asked.load)
      (λ state. performing took refused report (option_map (λ bytes. bytes.items) state)) asked state had
      (subst (λ some. RunsGiven finds handling (performing took refused report some) silent ending asked old new) same runs)

  pub once-watched : {T : Type 0} (text : Writing T) (asked : AskedDebug) (commands items : List ℕ) → commands ≡ items
      → finds.bytes Any asked.commands (Some items)
      → RunsGiven finds handling (watching took refused report text commands) silent ending (from_power_on asked.run) old new
      → WatchesRun finds handling (watching took refused report text) silent ending asked old new
  once-watched text asked commands items same had runs =
      once-read finds handling (watched_files asked) (λ commands. finds.bytes Any asked.commands (Some commands))
      (watching took refused report text) (from_power_on asked.run) commands
      (subst (λ bytes. finds.bytes Any asked.commands (Some bytes)) (sym same) had) runs
