-- What a film and a wave file have after the outputs of a list.
use Rattle.pac_run.proofs.Common.{Film, HasBegun, HasTaken, HasText, List, Output, Reel, Show, Sound, TookAll}
use Rattle.pac_run.proofs.Common.{[], ap, append-nil, append_assoc, arith, film_took, flat_map, flat_map-append, frame_samples, header_size}
use Rattle.pac_run.proofs.Common.{image_bytes, images_text, length, length-append, outputs_before, picture_count, pos, refl, replicate}
use Rattle.pac_run.proofs.Common.{rules, sample_bytes, sample_text, samples_in, samples_text, sound_text, wav_header, wave_file_text}
use Rattle.pac_run.proofs.Common.{wave_so_far, ℕ, ℤ, ◌*◌, ◌++◌, ◌+◌, ◌-◌, ◌∙◌, ◌∷◌, ◌≡◌, ◌≤◌}
use Rattle.pac_run.proofs.Common.{map, subst}
use Rattle.pac_media.proofs.Gathered.{gains-waiting}
use Rattle.pac_run.specs.Films.{TookSample}
use Rattle.pac_run.proofs.Heard.{all-before, frames-append, pictures-counted, samples-add-none, size, sound-bytes}
use Rattle.std.proofs.lemmas.Bool.Decides.{nat_tests}

-- ---- texts of lists that are put together

pub samples-append : (one other : List Output) → samples_in (one ++ other) ≡ samples_in one ++ samples_in other
samples-append [] other = refl
samples-append (Sound sample ∷ one) other = ap (λ samples. sample ∷ samples) (samples-append one other)
samples-append (Show image ∷ one) other = samples-append one other

-- the sound of a list begins with that of its beginning
pub sound-append : (owed : ℕ) (one other : List Output)
    → samples_text (samples_in one)
    ++ samples_text (samples_in other ++ replicate (owed - length (samples_in (one ++ other))) (pos 0)) ≡ sound_text owed (one ++ other)
sound-append owed one other = grind (arith, nat_tests, samples_in, flat_map-append, sample_text, samples_text, append_assoc, samples-append)

-- the header has its size
pub header-long : (samples : ℕ) → length (wav_header samples) ≡ header_size
unfolding wav_header
header-long samples = refl

module _ (total : ℕ) where
  abbrev pub head : List ℕ
  head = wav_header (frame_samples * total)

  -- the wave file with some outputs more
  pub wave-more : (taken more : List Output) → wave_so_far total (taken ++ more) ≡ wave_so_far total taken ++ samples_text (samples_in more)
  wave-more taken more = grind (arith, nat_tests, samples_text, samples-append, flat_map-append, sample_text, samples_in, append_assoc)

  -- and the whole of it
  abbrev pub zeros : List Output → List ℤ
  zeros outputs = replicate (frame_samples * total - length (samples_in outputs)) (pos 0)

  pub wave-whole : (taken left : List Output)
      → wave_so_far total taken ++ samples_text (samples_in left ++ zeros (taken ++ left)) ≡ wave_file_text total (taken ++ left)
  wave-whole taken left = grind (arith, nat_tests, append_assoc, samples_text, samples_in, sound-append, frame_samples)

  pub wave-long : (taken : List Output) → length (wave_so_far total taken) ≡ header_size + size sample_bytes taken
  wave-long taken = grind (arith, nat_tests, sound-bytes, length-append, samples_text, samples_in, header-long, frame_samples)

module _ {F W : Type 0} (at : Reel F W) (total : ℕ) where
  -- These outputs were taken. What waits of the sound came after the last picture.
  pub record Filmed (taken : List Output) (film : Film F W) : Type 0 where
    pub images : HasTaken at.took_f at.frames (images_text taken) film.frames
    pub sound : HasText at.took_w at.wave (wave_so_far total taken) film.wave
    pub owed : film.wave.owed ≡ frame_samples * total - length (samples_in taken)
    pub past_header : header_size ≤ length sound.prefix
    pub settled : (n : ℕ) → length sound.prefix ≤ header_size + n
        → picture_count (outputs_before sample_bytes n taken) ≡ picture_count taken

  at-first : (film : Film F W) → HasBegun at total film → Filmed [] film
  at-first film it =
      record {
        images = it.images;
        sound = search rules;
        owed = omega (arith, it.owed);
        past_header = omega (arith, header-long (frame_samples * total));
        settled = λ n enough. refl;
      }

  -- one output more: all samples before an image are written
  one-more : (taken : List Output) (output : Output) (old new : Film F W) → Filmed taken old → film_took at.took_f at.took_w old output new
      → Filmed (taken ++ output ∷ []) new
  one-more taken (Sound sample) old new has took =
      let later = took.wave.after at.wave (wave_so_far total taken) has.sound in
      let further = took.wave.further at.wave (wave_so_far total taken) has.sound in
      record {
        images = rw (frames-append taken (Sound sample ∷ []) ∙ append-nil (images_text taken), took.frames) has.images;
        sound = grind (arith, wave-more);
        owed = let long = ap length (samples-append taken (Sound sample ∷ [])) ∙ length-append (samples_in taken) (sample ∷ []) in
            omega (arith, took.owed, has.owed, long);
        past_header = omega (arith, has.past_header, further);
        settled = grind (arith, pictures-counted, samples-add-none);
      }
  one-more taken (Show image) old new has took =
      let all = append-nil (wave_so_far total taken) in
      record {
        images = rw (frames-append taken (Show image ∷ []), append-nil (image_bytes (Show image)))
            (took.frames.after at.frames (images_text taken) has.images);
        sound = grind (arith, wave-more);
        owed = omega (arith, took.owed, ap length (samples-append taken (Show image ∷ []) ∙ append-nil (samples_in taken)));
        past_header = omega (arith, wave-long total taken, ap length all);
        settled = λ n enough.
            let joined = ap length (flat_map-append sample_bytes taken (Show image ∷ []) ∙ append-nil (flat_map sample_bytes taken)) in
            ap picture_count
            (all-before sample_bytes n (taken ++ Show image ∷ []) (omega (arith, enough, wave-long total taken, ap length all, joined)));
      }

  all-more : (before outputs : List Output) (old new : Film F W) → Filmed before old
      → TookAll (film_took at.took_f at.took_w) old outputs new → Filmed (before ++ outputs) new
  all-more before [] old new has same = rw (append-nil, same) has
  all-more before (output ∷ more) old new has took =
      rw append_assoc at
      (all-more (before ++ output ∷ []) more took.between new (one-more before output old took.between has took.before) took.after)

  pub filmed : (outputs : List Output) {old new : Film F W} → HasBegun at total old
      → TookAll (film_took at.took_f at.took_w) old outputs new → Filmed outputs new
  filmed outputs {old} {new} begun took = all-more [] outputs old new (at-first old begun) took

  -- the zeros, at last
  pub zeros-last : (outputs : List Output) (mid : Film F W) → Filmed outputs mid
      → wave_so_far total outputs ++ samples_text (replicate mid.wave.owed (pos 0)) ≡ wave_file_text total outputs
  zeros-last outputs mid has = cc (has.owed, append-nil outputs, wave-whole total outputs [])

-- ---- samples that wait

-- a film of which these bytes wait, and which owes so many samples
abbrev film-of : {F W : Type 0} → Film F W → List ℕ → ℕ → Film F W
film-of film text owed = record film { wave = record film.wave { waiting = text; owed = owed } }

-- one with some samples more
abbrev pub film-with : {F W : Type 0} → Film F W → List ℤ → Film F W
film-with film samples = film-of film (film.wave.waiting ++ samples_text samples) (film.wave.owed - length samples)

abbrev film-next : {F W : Type 0} → Film F W → ℤ → Film F W
film-next film sample = film-of film (film.wave.waiting ++ sample_text sample) (film.wave.owed - 1)

film-joined : {F W : Type 0} (film : Film F W) (sample : ℤ) (more : List ℤ) →
    film-with (film-next film sample) more ≡ film-with film (sample ∷ more)
film-joined film sample more =
    let text = append_assoc film.wave.waiting (sample_text sample) (samples_text more) in
    let left : (film.wave.owed - 1) - length more ≡ film.wave.owed - length (sample ∷ more) = omega arith in
    ap (λ text. film-of film text ((film.wave.owed - 1) - length more)) text
    ∙ ap (film-of film (film.wave.waiting ++ samples_text (sample ∷ more))) left

film-same : {F W : Type 0} (film : Film F W) → film-with film [] ≡ film
film-same film =
    let left : film.wave.owed - length {A = ℤ} [] ≡ film.wave.owed = omega arith in
    ap (λ text. film-of film text (film.wave.owed - length {A = ℤ} [])) (append-nil film.wave.waiting)
    ∙ ap (film-of film film.wave.waiting) left

module _ {F W : Type 0} (took_f : F → List ℕ → F → Type 0) (took_w : W → List ℕ → W → Type 0) where
  took-next : (film : Film F W) (sample : ℤ) → TookSample took_w film sample (film-next film sample)
  took-next film sample = record { frames = refl; wave = gains-waiting refl refl refl; owed = refl; fault = refl }

  -- are taken one by one
  pub took-each : (samples : List ℤ) (film : Film F W) → TookAll (film_took took_f took_w) film (map Sound samples) (film-with film samples)
  took-each [] film = film-same film
  took-each (sample ∷ more) film =
      record {
        between = film-next film sample;
        before = took-next film sample;
        after = subst (TookAll (film_took took_f took_w) (film-next film sample) (map Sound more)) (film-joined film sample more)
            (took-each more (film-next film sample));
      }
