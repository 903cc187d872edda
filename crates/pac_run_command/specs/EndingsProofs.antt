-- For proofs: how the work ends, by what a teller says of itself.
use Rattle.std.specs.Prelude.{ℕ, List, Result}
use Rattle.clap.specs.declared.error.kind.ErrorKind.{ErrorKind}
use Rattle.pac_run.specs.WriteFault.{WriteFault}
use Rattle.pac_run_command.specs.Endings.{Ending}

abbrev pub ending_told : {C : Type 0} → (tells : C → (line : List ℕ) → C → Type 0)
    → (explains : C → ErrorKind → (written : Result Unit WriteFault) → C → Type 0) → (old new : C) → (status : ℕ) → Ending C
ending_told tells explains old new status = record { tells = tells; explains = explains; old = old; new = new; status = status }
