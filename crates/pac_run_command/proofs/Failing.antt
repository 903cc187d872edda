-- What stays so of a run that failed, and what is there of one that was done.
use Rattle.pac_run_command.proofs.Common.{Does, EndsWhole, Err, Failure, Handling, InTurn, IsSettled, IsSome, IsWrittenOut, List, Ok}
use Rattle.pac_run_command.proofs.Common.{Outcome, Result, Target, WantedOutput, [], inl, inr, refl, ◌∙◌, ◌∷◌, ◌≡◌, ◌⊎◌}

-- ---- what is so of any files

-- one fact of a run that failed, another of one that was done
abbrev pub ByAnswer : (failed done : Type 0) → Result Outcome Failure → Type 0
ByAnswer failed done (Ok outcome) = done
ByAnswer failed done (Err failure) = failed

pub either : {failed done other : Type 0} (answer : Result Outcome Failure) → ByAnswer failed done answer → (done → other) → failed ⊎ other
either (Ok outcome) is onward = inr (onward is)
either (Err failure) is onward = inl is

-- there is a file for each output
abbrev pub AreFor : {File : Type 0} → List (WantedOutput Target) → List File → Type 0
AreFor [] files = Unit {0}
AreFor (wanted ∷ more) [] = ⊥
AreFor (wanted ∷ more) (file ∷ files) = AreFor more files

-- ---- what failed stays so

-- where a failure stays what it is by each step, it is the answer
still-fails : {Disk File : Type 0} (does : Does Disk File) (failure : Failure)
    → ((old new : Disk) (one : WantedOutput Target) (file : File) (ran answer : Result Outcome Failure) → ran ≡ Err failure
    → does old one file ran answer new → answer ≡ Err failure)
    → (wanted : List (WantedOutput Target)) (files : List File) (ran answer : Result Outcome Failure) (old new : Disk)
    → ran ≡ Err failure → InTurn does old wanted files ran answer new → answer ≡ Err failure
still-fails does failure stays [] files ran answer old new fails turns = turns.0 ∙ fails
still-fails does failure stays (one ∷ more) [] ran answer old new fails turns = turns.0 ∙ fails
still-fails does failure stays (one ∷ more) (file ∷ files) ran answer old new fails turns =
    still-fails does failure stays more files turns.1 answer turns.0 new (stays old turns.0 one file ran turns.1 fails turns.2) turns.3

module _ {Disk File : Type 0} (handling : Handling Disk File) where
  unsettled : (wanted : List (WantedOutput Target)) (files : List File) (failure : Failure) (ran answer : Result Outcome Failure)
      (old new : Disk) → ran ≡ Err failure → InTurn (IsSettled handling) old wanted files ran answer new → answer ≡ Err failure
  unsettled wanted files failure =
      still-fails (IsSettled handling) failure (λ old new one file ran answer fails is. (rw fails at is).0) wanted files

  -- a run that failed fails in the end
  pub stays-failed : (wanted : List (WantedOutput Target)) (files : List File) (failure : Failure)
      (ran so_far answer : Result Outcome Failure) (old written new : Disk)
      → ran ≡ Err failure → InTurn (IsWrittenOut handling) old wanted files ran so_far written
      → InTurn (IsSettled handling) written wanted files so_far answer new → answer ≡ Err failure
  stays-failed wanted files failure ran so_far answer old written new failed out =
      unsettled wanted files failure so_far answer written new (still-fails (IsWrittenOut handling) failure
      (λ old new one file ran answer fails is. (rw fails at is).0) wanted files ran so_far old written failed out)

  -- a run whose answer is that it was done was
  pub run-fits : (wanted : List (WantedOutput Target)) (files : List File) (ran so_far answer : Result Outcome Failure)
      (old written new : Disk) → InTurn (IsWrittenOut handling) old wanted files ran so_far written
      → InTurn (IsSettled handling) written wanted files so_far answer new
      → ((outcome : Outcome) → ran ≡ Ok outcome → AreFor wanted files) → (outcome : Outcome) → answer ≡ Ok outcome → AreFor wanted files
  run-fits wanted files (Ok done) so_far answer old written new out settled fit outcome is = fit done refl
  run-fits wanted files (Err failure) so_far answer old written new out settled fit outcome is =
      absurd (cc (stays-failed wanted files failure (Err failure) so_far answer old written new refl out settled))

  -- how it ends once an output took its place, or couldn't
  pub ends-after : (same placed whole later : Type 0) (more : List (WantedOutput Target)) (files : List File)
      (so_far answer : Result Outcome Failure) (old new : Disk) → InTurn (IsSettled handling) old more files so_far answer new
      → ByAnswer same placed so_far → (placed → whole) → (IsSome more → later) → EndsWhole same whole later answer
  ends-after same placed whole later more files (Err failure) answer old new turns is onward some =
      rw (unsettled more files failure (Err failure) answer old new refl turns) (inl is)
  ends-after same placed whole later more files (Ok outcome) (Ok ended) old new turns is onward some = onward is
  ends-after same placed whole later [] files (Ok outcome) (Err failure) old new turns is onward some = absurd (cc (turns.0))
  ends-after same placed whole later (next ∷ more) files (Ok outcome) (Err failure) old new turns is onward some = inr (onward is, some tt)
