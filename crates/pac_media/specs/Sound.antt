-- For proofs: a wave file while samples come, and what each call leaves of it.
use Rattle.std.specs.Prelude.{◌≡◌, ℕ, ◌-◌, ◌/◌, ◌≤◌, List, [], ◌++◌, length, if◌then◌else◌, Result, Ok, Err}
use Rattle.pac_out.specs.declared.counted.Counted.{Counted}
use Rattle.pac_out.specs.declared.WriteFault.{WriteFault}
use Rattle.pac_out.specs.CountedLaws.{HasTaken, HasStopped}

-- the file, the bytes that wait for it, and how many of the samples that its header announces are still to come
pub record Sound (W : Type 0) : Type 0 where
  pub file : Counted W
  pub waiting : List ℕ
  pub owed : ℕ

-- The wave file was given this text: the file, whose writer was `start` before its first byte, has taken a prefix of it,
-- and the rest waits.
pub record HasText {W : Type 0} (took : W → List ℕ → W → Type 0) (start : W) (text : List ℕ) (sound : Sound W) : Type 0 where
  pub prefix : List ℕ
  pub parts : text ≡ prefix ++ sound.waiting
  pub taken : HasTaken took start prefix sound.file

-- Whatever text the wave file was given, these bytes were given after it. What the file has taken stays taken.
pub record Gains {W : Type 0} (took : W → List ℕ → W → Type 0) (old : Sound W) (bytes : List ℕ) (new : Sound W) : Type 0 where
  pub at_least : old.file.count ≤ new.file.count
  pub after : (start : W) (text : List ℕ) → HasText took start text old → HasText took start (text ++ bytes) new
  pub further : (start : W) (text : List ℕ) (has : HasText took start text old) → length has.prefix ≤ length (after start text has).prefix

-- Whatever text the wave file was given, the file has now taken all of it and then these bytes, and nothing waits.
pub record Delivers {W : Type 0} (took : W → List ℕ → W → Type 0) (old : Sound W) (bytes : List ℕ) (new : Sound W) : Type 0 where
  pub at_least : old.file.count ≤ new.file.count
  pub after : (start : W) (text : List ℕ) → HasText took start text old → HasTaken took start (text ++ bytes) new.file
  pub none_waits : new.waiting ≡ []

-- Whatever text the wave file was given, its writer has now refused within what waited of it and these bytes, and the fault tells
-- the count of the bytes that the file took, which is at least what it had counted before.
pub record SoundFails {W : Type 0} (took : W → List ℕ → W → Type 0) (refused : W → W → Type 0) (old : Sound W) (bytes : List ℕ)
    (fault : WriteFault) (new : Sound W) : Type 0 where
  pub told : fault.count ≡ new.file.count
  pub at_least : old.file.count ≤ fault.count
  pub after : (start : W) (text : List ℕ) → HasText took start text old → HasStopped took refused start (text ++ bytes) new.file
  pub past : (start : W) (text : List ℕ) (has : HasText took start text old) → length has.prefix ≤ (after start text has).taken

-- What giving bytes to a wave file leaves of it, by the answer; some of them may wait.
abbrev pub GivesSound : {W A : Type 0} → (W → List ℕ → W → Type 0) → (W → W → Type 0) → Sound W → List ℕ → Result A WriteFault → Sound W →
    Type 0
GivesSound took refused old bytes (Ok done) new = Gains took old bytes new
GivesSound took refused old bytes (Err fault) new = SoundFails took refused old bytes fault new

-- What giving bytes to a wave file and writing all that waits leaves of it, by the answer.
abbrev pub FinishesSound : {W A : Type 0} → (W → List ℕ → W → Type 0) → (W → W → Type 0) → Sound W → List ℕ → Result A WriteFault → Sound W
    → Type 0
FinishesSound took refused old bytes (Ok done) new = Delivers took old bytes new
FinishesSound took refused old bytes (Err fault) new = SoundFails took refused old bytes fault new

-- how many samples can be gathered before what waits has to be written; none after a fault
abbrev pub sample_room : {W : Type 0} → Sound W → ℕ
sample_room sound = if sound.file.failed then 0 else (8192 - length sound.waiting) / 2
