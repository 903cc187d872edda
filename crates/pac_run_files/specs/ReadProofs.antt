-- For proofs: what proofs say of the definitions of Read.antt.
use Rattle.std.specs.Prelude.{List, ℕ, Result, Ok, Err, ⊤}
use Rattle.pac_run_files.specs.declared.given.ReadFault.{ReadFault}
use Rattle.pac_run_files.specs.declared.given.ReadFault.TheVariants.{Unreadable, Memory}

-- by the answer: what was read; or the name of a file that can't be; or memory ran out
abbrev pub ReadsFiles : {A : Type 0} → (A → Type 0) → (List ℕ → Type 0) → Result A ReadFault → Type 0
ReadsFiles read unread (Ok value) = read value
ReadsFiles read unread (Err (Unreadable name)) = unread name.now
ReadsFiles read unread (Err Memory) = ⊤
