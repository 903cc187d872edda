-- Law: what is proved of the definitions of Counted.antt.
use Rattle.std.specs.Prelude.{List, ℕ, length, false, ◌≡◌, true, [], ◌≤◌, ◌++◌}
use Rattle.pac_out.specs.declared.counted.Counted.{Counted}
use Rattle.pac_out.specs.Counted.{file_count}
use Rattle.pac_out.specs.Writes.{StopsAfter}
use Rattle.pac_out.specs.declared.WriteFault.{WriteFault}

-- The file, whose writer was `start` before its first byte, has taken this text.
pub record HasTaken {W : Type 0} (took : W → List ℕ → W → Type 0) (start : W) (text : List ℕ) (file : Counted W) : Type 0 where
  pub written : took start text file.writer
  pub count_is : file.count ≡ file_count (length text)
  pub open_yet : file.failed ≡ false

-- The file, whose writer was `start` before its first byte, was offered this text, and its writer refused
-- after the first `taken` bytes of it.
pub record HasStopped {W : Type 0} (took : W → List ℕ → W → Type 0) (refused : W → W → Type 0) (start : W) (text : List ℕ)
    (file : Counted W)
    : Type 0 where
  pub taken : ℕ
  pub stopped : StopsAfter took refused start text taken file.writer
  pub count_is : file.count ≡ file_count taken
  pub closed : file.failed ≡ true

-- Whatever text the file had taken, it has taken these bytes after it, in one call, in several or in none. Its count never goes back.
-- A file that has failed takes none, and stays as it is.
pub record Takes {W : Type 0} (took : W → List ℕ → W → Type 0) (old : Counted W) (bytes : List ℕ) (new : Counted W) : Type 0 where
  pub at_least : old.count ≤ new.count
  pub after : (start : W) (text : List ℕ) → HasTaken took start text old → HasTaken took start (text ++ bytes) new
  pub failed_is : new.failed ≡ old.failed
  pub later : old.failed ≡ true → (bytes ≡ []) × (new ≡ old)

-- A file that hadn't failed has taken these bytes.
pub record HasPut {W : Type 0} (took : W → List ℕ → W → Type 0) (old : Counted W) (bytes : List ℕ) (new : Counted W) : Type 0 where
  pub was_open : old.failed ≡ false
  pub takes : Takes took old bytes new

-- Whatever text the file had taken, its writer has now refused within that text and these bytes, and the fault
-- tells the file's count, which is at least what the file had counted before. A file that had failed stays as it was.
pub record Refuses {W : Type 0} (took : W → List ℕ → W → Type 0) (refused : W → W → Type 0) (old : Counted W) (bytes : List ℕ)
    (fault : WriteFault)
    (new : Counted W) : Type 0 where
  pub told : fault.count ≡ new.count
  pub at_least : old.count ≤ fault.count
  pub after : (start : W) (text : List ℕ) → HasTaken took start text old → HasStopped took refused start (text ++ bytes) new
  pub closed : new.failed ≡ true
  pub later : old.failed ≡ true → new ≡ old
