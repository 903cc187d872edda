-- Law: what writing a whole text to a writer leaves of it.
use Rattle.std.specs.Prelude.{◌≡◌, ℕ, List, Result, Ok, Err}
use Rattle.pac_out.specs.declared.WriteFault.{WriteFault}
use Rattle.pac_out.specs.Counted.{file_count}
use Rattle.pac_out.specs.Writes.{StopsAfter}

-- the writer took so many bytes of the text, fewer than all, and refused; this is told, exact below 2^64
pub record SaveStops {W : Type 0} (took : W → List ℕ → W → Type 0) (refused : W → W → Type 0) (old : W) (text : List ℕ) (told : ℕ) (new : W)
    : Type 0 where
  pub taken : ℕ
  pub stopped : StopsAfter took refused old text taken new
  pub told_is : told ≡ file_count taken

-- the writer took all of the text, or refused
abbrev pub Saves : {W A : Type 0} → (W → List ℕ → W → Type 0) → (W → W → Type 0) → W → List ℕ → Result A WriteFault → W → Type 0
Saves took refused old text (Ok done) new = took old text new
Saves took refused old text (Err fault) new = SaveStops took refused old text fault.count new
