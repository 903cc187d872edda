-- For proofs: what the film and the wave file of a run, side by side, make of an output of the board.
use Rattle.std.specs.Prelude.{◌≡◌, ◌⊎◌, ℕ, ℤ, ◌-◌, false, List, [], Some}
use Rattle.pac_media.specs.CountedLaws.{Takes, Refuses}
use Rattle.pac_media.specs.CountedProofs.{Stops}
use Rattle.pac_media.specs.WriteFault.{WriteFault}
use Rattle.pac_media.specs.Samples.{sample_text}
use Rattle.pac_media.specs.Sound.{Gains, Delivers, SoundFails}
use Rattle.pac_board_course.specs.Output.{Output, Image, Sound, Show}
use Rattle.pac_board_course.specs.SinksLaws.{Giving, by}
use Rattle.pac_run.specs.declared.fault.Output.TheVariants as which
use Rattle.pac_run.specs.declared.film.Film.{Film}
use Rattle.pac_run.specs.Texts.{image_bytes}

-- a sample goes into the wave file, which owes one less then
pub record TookSample {F W : Type 0} (took : W → List ℕ → W → Type 0) (old : Film F W) (sample : ℤ) (new : Film F W) : Type 0 where
  pub frames : new.frames ≡ old.frames
  pub wave : Gains took old.wave (sample_text sample) new.wave
  pub owed : new.wave.owed ≡ old.wave.owed - 1
  pub fault : new.fault ≡ old.fault

-- the samples that waited are written, and then a picture's image goes into the film
pub record TookImage {F W : Type 0} (took_f : F → List ℕ → F → Type 0) (took_w : W → List ℕ → W → Type 0) (old : Film F W) (image : Image)
    (new : Film F W) : Type 0 where
  pub wave : Delivers took_w old.wave [] new.wave
  pub owed : new.wave.owed ≡ old.wave.owed
  pub frames : Takes took_f old.frames (image_bytes (Show image)) new.frames
  pub fault : new.fault ≡ old.fault

abbrev pub film_took : {F W : Type 0} → (F → List ℕ → F → Type 0) → (W → List ℕ → W → Type 0) → Film F W → Output → Film F W → Type 0
film_took took_f took_w old (Sound sample) new = TookSample took_w old sample new
film_took took_f took_w old (Show image) new = TookImage took_f took_w old image new

-- The wave's writer refused within what waited and these bytes, and that is kept.
pub record RefusedSound {F W : Type 0} (took : W → List ℕ → W → Type 0) (refused : W → W → Type 0) (old : Film F W) (bytes : List ℕ)
    (new : Film F W) : Type 0 where
  pub frames : new.frames ≡ old.frames
  pub told : WriteFault
  pub wave : SoundFails took refused old.wave bytes told new.wave
  pub fault : new.fault ≡ Some (record { output = which.Wave; count = told.count })

-- The samples that waited are written, and then the frames' writer refused within an image, and that is kept.
pub record RefusedImage {F W : Type 0} (took_f : F → List ℕ → F → Type 0) (refused_f : F → F → Type 0) (took_w : W → List ℕ → W → Type 0)
    (old : Film F W) (image : Image) (new : Film F W) : Type 0 where
  pub wave : Delivers took_w old.wave [] new.wave
  pub told : WriteFault
  pub frames : Refuses took_f refused_f old.frames (image_bytes (Show image)) told new.frames
  pub stops : old.frames.failed ≡ false → Stops took_f refused_f old.frames (image_bytes (Show image)) new.frames
  pub fault : new.fault ≡ Some (record { output = which.Frames; count = told.count })

abbrev pub film_refused : {F W : Type 0} → (F → List ℕ → F → Type 0) → (F → F → Type 0) → (W → List ℕ → W → Type 0) → (W → W → Type 0)
    → Film F W → Output → Film F W → Type 0
film_refused took_f refused_f took_w refused_w old (Sound sample) new = RefusedSound took_w refused_w old (sample_text sample) new
film_refused took_f refused_f took_w refused_w old (Show image) new =
    RefusedSound took_w refused_w old [] new ⊎ RefusedImage took_f refused_f took_w old image new

-- both, as a sink says them of itself
abbrev pub film_giving : {F W : Type 0} → (F → List ℕ → F → Type 0) → (F → F → Type 0) → (W → List ℕ → W → Type 0) → (W → W → Type 0)
    → Giving (Film F W)
film_giving took_f refused_f took_w refused_w = by (film_took took_f took_w) (film_refused took_f refused_f took_w refused_w)
