-- Why a run whose files couldn't be read wasn't begun.
use Rattle.pac_run_command.proofs.Common.{Err, Failure, IsOfReading, List, ReadFault, ReadsFiles, Unreadable, ℕ, ◌≡◌}
use Rattle.pac_run_command.specs.FailuresProofs as failures_proofs

-- why nothing was begun, by a fault of reading
pub unread-reason : {A : Type 0} (read : A → Type 0) (unread all : List ℕ → Type 0) (fault : ReadFault) (failure : Failure)
    → ((name : List ℕ) → unread name → all name) → ReadsFiles read unread (Err fault) → failure ≡ failures_proofs.read_failure fault
    → IsOfReading all failure
unread-reason read unread all (Unreadable name) failure onward reads failure_is = rw failure_is (onward name.now reads)
unread-reason read unread all _ failure onward reads failure_is = rw failure_is tt
