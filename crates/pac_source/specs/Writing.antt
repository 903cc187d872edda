-- For proofs: what writing a whole text to a writer leaves of it.
use Rattle.std.specs.Prelude.{ℕ, List, Result, Ok, Err}
use Rattle.pac_out.specs.declared.WriteFault.{WriteFault}
use Rattle.pac_out.specs.Writes.{StopsAfter}

-- the writer took all of the text, or refused after so many bytes, fewer than all
abbrev pub LeavesText : {W A : Type 0} → (W → List ℕ → W → Type 0) → (W → W → Type 0) → W → List ℕ → Result A WriteFault → W → Type 0
LeavesText took refused old text (Ok done) new = took old text new
LeavesText took refused old text (Err fault) new = (taken : ℕ) × StopsAfter took refused old text taken new
