-- For proofs: bytes that wait for a file, so that small pieces go to its writer in large writes.
use Rattle.std.specs.Prelude.{◌≡◌, ℕ, List, ◌++◌, Result, Ok, Err}
use Rattle.pac_out.specs.declared.counted.Counted.{Counted}
use Rattle.pac_out.specs.declared.WriteFault.{WriteFault}
use Rattle.pac_out.specs.CountedLaws.{Takes, Refuses}

-- Of this text the file took a prefix, and the rest waits.
pub record Holds {W : Type 0} (took : W → List ℕ → W → Type 0) (old : Counted W) (text waiting : List ℕ) (new : Counted W) : Type 0 where
  pub put : List ℕ
  pub parts : text ≡ put ++ waiting
  pub takes : Takes took old put new

-- What gathering bytes after those that wait leaves, by the answer: all of them are in the file or wait; or the writer
-- refused within them.
abbrev pub Gathers : {W A : Type 0} → (W → List ℕ → W → Type 0) → (W → W → Type 0) → List ℕ → Counted W → List ℕ
    → Result A WriteFault → List ℕ → Counted W
    → Type 0
Gathers took refused waiting old bytes (Ok done) later new = Holds took old (waiting ++ bytes) later new
Gathers took refused waiting old bytes (Err fault) later new = Refuses took refused old (waiting ++ bytes) fault new
