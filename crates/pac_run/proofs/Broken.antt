-- What a film and a wave file have where one of them refused, and what a player's run comes to then.
use Rattle.pac_run.proofs.Common.{Cut, Err, Film, FinishesSound, FramesStop, HasBegun, HasSoundOf, HasStopped, Image, Joins, List, Ok}
use Rattle.pac_run.proofs.Common.{Output, OutputFault, Reel, RefusedImage, RefusedSound, Result, Show, Some, Sound, SoundFails, Stops}
use Rattle.pac_run.proofs.Common.{WaveStops, WriteFault, [], ap, append-nil, append_assoc, arith, common_steps, film_giving, film_refused}
use Rattle.pac_run.proofs.Common.{header_size, heard_by, image_bytes, images_text, inl, inr, length, length-append, outputs_before, pos}
use Rattle.pac_run.proofs.Common.{refl, replicate, rules, sample_bytes, samples_in, samples_text, shown_before, shown_by, stops-after}
use Rattle.pac_run.proofs.Common.{stops-within, sym, wave_file_text, wave_so_far, writing, ℕ, ◌++◌, ◌+◌, ◌-◌, ◌<◌, ◌∙◌, ◌∷◌, ◌≡◌, ◌≤◌}
use mathlib.Core.List.{IsPrefix}
use Rattle.pac_media.specs.Sound as media
use Rattle.pac_run.specs.declared.fault.Output.{Output as Which}
use Rattle.pac_run.specs.declared.fault.Output.TheVariants as which
use Rattle.pac_run.proofs.Heard.{IsHeard, ends-there, frames-append, heard-images, is-heard, is-shown, size}
use Rattle.pac_run.proofs.Filmed.{Filmed, filmed, wave-long, wave-whole, zeros, zeros-last}
use Rattle.std.proofs.lemmas.Bool.Decides.{nat_tests}

module _ {F W : Type 0} (at : Reel F W) (total : ℕ) where
  -- Film or wave file stopped among these outputs, when those were taken.
  abbrev pub StopsThere : (outputs taken : List Output) → Film F W → Which → ℕ → Type 0
  StopsThere outputs taken film which.Frames count =
      (stop : FramesStop (shown_by at film) (heard_by at film) total outputs count) × (shown_before stop.images.taken outputs ≡ taken)
  StopsThere outputs taken film which.Wave count =
      (stop : WaveStops (shown_by at film) (heard_by at film) total outputs count)
      × (header_size ≤ stop.sound.taken) × IsHeard (stop.sound.taken - header_size) outputs taken
  StopsThere outputs taken film other count = ⊥

  -- ---- the wave's writer refused

  -- within what waited and some bytes, when these outputs were taken, and those were left
  module _ (taken left : List Output) (told : WriteFault) (asked new : Film F W) (has : Filmed at total taken asked)
      (frames : new.frames ≡ asked.frames) (bytes more : List ℕ) (fails : SoundFails at.took_w at.refused_w asked.wave bytes told new.wave)
      (whole : (wave_so_far total taken ++ bytes) ++ more ≡ wave_file_text total (taken ++ left))
      (ends : (n : ℕ) → n < length bytes → outputs_before sample_bytes n left ≡ []) where
    abbrev stopped : HasStopped at.took_w at.refused_w at.wave (wave_so_far total taken ++ bytes) new.wave.file
    stopped = fails.after at.wave (wave_so_far total taken) has.sound

    enough : header_size ≤ stopped.taken
    enough = search rules

    heard-there : IsHeard (stopped.taken - header_size) (taken ++ left) taken
    heard-there = grind (arith, nat_tests, wave_so_far, length-append, wave-long, is-heard)

    pub wave-fails : StopsThere (taken ++ left) taken new which.Wave told.count
    wave-fails = (
      record {
        sound = record {
          taken = stopped.taken;
          stopped = rw whole at (stops-within stopped.stopped more);
          count_is = fails.told ∙ stopped.count_is;
        };
        header_first = λ few. absurd (omega (arith, few, enough));
        images = grind (arith, heard-images, heard-there);
      },
      enough,
      heard-there,
    )

  module _ (taken rest : List Output) (asked new : Film F W) (has : Filmed at total taken asked) where
    at-wave : (output : Output) → (refused : RefusedSound at.took_w at.refused_w asked (sample_bytes output) new)
        → sample_bytes output ++ samples_text (samples_in rest ++ zeros total (taken ++ output ∷ rest))
        ≡ samples_text (samples_in (output ∷ rest) ++ zeros total (taken ++ output ∷ rest))
        → StopsThere (taken ++ output ∷ rest) taken new which.Wave refused.told.count
    at-wave output refused same =
        wave-fails taken (output ∷ rest) refused.told asked new has refused.frames (sample_bytes output) _ refused.wave
        (append_assoc (wave_so_far total taken) (sample_bytes output) _
        ∙ ap (λ bytes. wave_so_far total taken ++ bytes) same ∙ wave-whole total taken (output ∷ rest))
        (λ n few. ends-there sample_bytes n output rest few)

    -- the frames' writer refused within an image
    module _ (joined : Joins at.took_f) (image : Image) (refused : RefusedImage at.took_f at.refused_f at.took_w asked image new) where
      abbrev stop : Stops at.took_f at.refused_f asked.frames (image_bytes (Show image)) new.frames
      stop = refused.stops has.images.open_yet

      abbrev all : List Output
      all = taken ++ Show image ∷ rest

      shown-is : shown_before (size image_bytes taken + stop.taken) all ≡ taken
      shown-is = grind (arith, is-shown, size)

      at-image : StopsThere all taken new which.Frames refused.told.count
      at-image = (
        record {
          images = record {
            taken = size image_bytes taken + stop.taken;
            stopped = rw (append_assoc (images_text taken) (image_bytes (Show image)) (images_text rest)
                ∙ sym (frames-append taken (Show image ∷ rest))) at
                (stops-within (stops-after joined has.images.written stop.stopped) (images_text rest));
            count_is = search rules;
          };
          sound = rw (shown-is, ← append-nil (wave_so_far total taken))
              (refused.wave.after at.wave (wave_so_far total taken) has.sound).written;
        },
        shown-is,
      )

    at-next : (joined : Joins at.took_f) (output : Output) (fault : OutputFault)
        → film_refused at.took_f at.refused_f at.took_w at.refused_w asked output new → Some fault ≡ new.fault
        → StopsThere (taken ++ output ∷ rest) taken new fault.output fault.count
    at-next joined (Sound sample) fault refused told =
        let same : fault ≡ record { output = which.Wave; count = refused.told.count } = cc in
        rw same (at-wave (Sound sample) refused refl)
    at-next joined (Show image) fault (inl refused) told =
        let same : fault ≡ record { output = which.Wave; count = refused.told.count } = cc in
        rw same (at-wave (Show image) refused refl)
    at-next joined (Show image) fault (inr refused) told =
        let same : fault ≡ record { output = which.Frames; count = refused.told.count } = cc in rw same (at-image joined image refused)

  -- among all outputs of a run
  pub stops-among : (joined : Joins at.took_f) {given left : List Output} (outputs : List Output) (old new : Film F W) (fault : OutputFault)
      → HasBegun at total old → (cut : Cut (film_giving at.took_f at.refused_f at.took_w at.refused_w) old given left new)
      → IsPrefix (cut.taken ++ left) outputs → Some fault ≡ new.fault → StopsThere outputs cut.taken new fault.output fault.count
  stops-among joined outputs old new fault begun cut among told =
      let taken = cut.taken in
      let refuses = cut.refuses in
      let rest = refuses.rest ++ among.0 in
      let all : taken ++ (refuses.first ∷ rest) ≡ outputs = grind (arith, common_steps) in
      rw all at (at-next taken rest refuses.asked new (filmed at total taken begun refuses.before) joined refuses.first fault
      refuses.refusal told)

  -- all were taken, and the zeros refused
  pub stops-at-zeros : (outputs : List Output) (mid new : Film F W) (told : WriteFault) → Filmed at total outputs mid
      → SoundFails at.took_w at.refused_w mid.wave (samples_text (replicate mid.wave.owed (pos 0))) told new.wave
      → new.frames ≡ mid.frames → StopsThere outputs outputs new which.Wave told.count
  stops-at-zeros outputs mid new told has fails same =
      let silence = samples_text (replicate mid.wave.owed (pos 0)) in
      rw append-nil at
      (wave-fails outputs [] told mid new has same silence [] fails
      (cc (append-nil (wave_so_far total outputs ++ silence), zeros-last at total outputs mid has, append-nil outputs)) (λ n few. refl))

  -- ---- a player's text was refused: what waited is written

  pub sound-of : (taken : List Output) (mid : Film F W) (wave_now : media.Sound W) → Filmed at total taken mid
      → (answer : Result (Unit {0}) WriteFault) → FinishesSound at.took_w at.refused_w mid.wave [] answer wave_now
      → HasSoundOf (writing at.took_w at.refused_w at.wave wave_now.file.writer) total taken
  sound-of taken mid wave_now has (Ok done) finished =
      inl (rw append-nil at (finished.after at.wave (wave_so_far total taken) has.sound).written)
  sound-of taken mid wave_now has (Err fault) fails =
      let stop = fails.after at.wave (wave_so_far total taken) has.sound in
      inr (record {
        count = fault.count;
        sound = search rules;
        past_header = omega arith;
        no_picture = has.settled (stop.taken - header_size) (omega arith);
      })
