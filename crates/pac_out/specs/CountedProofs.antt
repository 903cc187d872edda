-- For proofs: what proofs say of the definitions of Counted.antt.
use Rattle.std.specs.Prelude.{List, ℕ, ◌≡◌, ◌+◌, Result, Ok, Err}
use Rattle.pac_out.specs.declared.counted.Counted.{Counted}
use Rattle.pac_out.specs.Writes.{StopsAfter}
use Rattle.pac_out.specs.Counted.{file_count}
use Rattle.pac_out.specs.declared.WriteFault.{WriteFault}
use Rattle.pac_out.specs.CountedLaws.{HasPut, Refuses}

-- The writer of a file that hadn't refused took a prefix of these bytes, fewer than all, and refused; the file counts
-- what it took.
pub record Stops {W : Type 0} (took : W → List ℕ → W → Type 0) (refused : W → W → Type 0) (old : Counted W) (bytes : List ℕ)
    (new : Counted W) : Type 0 where
  pub taken : ℕ
  pub stopped : StopsAfter took refused old.writer bytes taken new.writer
  pub count_is : new.count ≡ file_count (old.count + taken)

-- What putting bytes into a file leaves of it, by the answer. Of a file that has failed it is the same fault each time, be there bytes
-- to put or none.
abbrev pub Puts : {W A : Type 0} → (W → List ℕ → W → Type 0) → (W → W → Type 0) → Counted W → List ℕ → Result A WriteFault → Counted W
    → Type 0
Puts took refused old bytes (Ok done) new = HasPut took old bytes new
Puts took refused old bytes (Err fault) new = Refuses took refused old bytes fault new
