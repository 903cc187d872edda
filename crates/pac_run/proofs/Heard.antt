-- What comes before a byte among outputs: all of a first part and something of a second, or something of the first.
use Rattle.std.proofs.lemmas.Bool.{cases_lt}
use Rattle.pac_run.proofs.Common.{List, Output, Show, Sound, [], ap, append-nil, arith, flat_map, flat_map-append, image_bytes, images_text}
use Rattle.pac_run.proofs.Common.{inl, inr, length, length-append, nat_tests, outputs_before, picture_count, refl, rules, sample_bytes}
use Rattle.pac_run.proofs.Common.{sample_text, samples_in, samples_text, sym, ℕ, ◌++◌, ◌+◌, ◌-◌, ◌<◌, ◌∙◌, ◌∷◌, ◌≡◌, ◌≤◌}

-- ---- counts and texts of lists that are put together

pub pictures-counted : (one other : List Output) → picture_count (one ++ other) ≡ picture_count one + picture_count other
pictures-counted [] other = omega arith
pictures-counted (Sound sample ∷ more) other = pictures-counted more other
pictures-counted (Show image ∷ more) other = let e = pictures-counted more other in omega (arith, e)

pub frames-append : (one other : List Output) → images_text (one ++ other) ≡ images_text one ++ images_text other
frames-append one other = flat_map-append image_bytes one other

-- no picture has no image
pub no-images : (outputs : List Output) → picture_count outputs ≡ 0 → images_text outputs ≡ []
no-images [] none = refl
no-images (Sound sample ∷ more) none = no-images more none
no-images (Show image ∷ more) none = absurd (omega (arith, none))

-- the sound's bytes are those of its samples
pub sound-bytes : (outputs : List Output) → samples_text (samples_in outputs) ≡ flat_map sample_bytes outputs
sound-bytes [] = refl
sound-bytes (Sound sample ∷ more) = ap (λ rest. sample_text sample ++ rest) (sound-bytes more)
sound-bytes (Show image ∷ more) = sound-bytes more

-- ---- before a byte

module _ (bytes : Output → List ℕ) where
  abbrev pub size : List Output → ℕ
  size outputs = length (flat_map bytes outputs)

  pub size-more : (output : Output) (more : List Output) → size (output ∷ more) ≡ length (bytes output) + size more
  size-more output more = length-append (bytes output) (flat_map bytes more)

  -- an output whose bytes all come before, and one with the byte
  goes-on : (n : ℕ) (output : Output) (more : List Output) → length (bytes output) ≤ n
      → outputs_before bytes n (output ∷ more) ≡ output ∷ outputs_before bytes (n - length (bytes output)) more
  goes-on n output more less = search rules

  pub ends-there : (n : ℕ) (output : Output) (more : List Output) → n < length (bytes output) → outputs_before bytes n (output ∷ more) ≡ []
  ends-there n output more less = search rules

  -- all of a first part comes before
  pub before-past : (n : ℕ) (one other : List Output) → size one ≤ n
      → outputs_before bytes n (one ++ other) ≡ one ++ outputs_before bytes (n - size one) other
  before-past n [] other less = let none : n ≡ n - size [] = omega arith in ap (λ m. outputs_before bytes m other) none
  before-past n (output ∷ one) other less =
      let long = size-more output one in
      let first = goes-on n output (one ++ other) (omega (arith, long, less)) in
      let rest = before-past (n - length (bytes output)) one other (omega (arith, long, less)) in
      let count : (n - length (bytes output)) - size one ≡ n - size (output ∷ one) = omega (arith, long) in
      first ∙ ap (λ more. output ∷ more) (rest ∙ ap (λ m. one ++ outputs_before bytes m other) count)

  pub all-before : (n : ℕ) (outputs : List Output) → size outputs ≤ n → outputs_before bytes n outputs ≡ outputs
  all-before n outputs less = ap (outputs_before bytes n) (sym (append-nil outputs)) ∙ (before-past n outputs [] less ∙ append-nil outputs)

  -- the byte is in a first part
  pub before-within : (n : ℕ) (one other : List Output) → n < size one → outputs_before bytes n (one ++ other) ≡ outputs_before bytes n one
  before-within n [] other less = absurd (omega (arith, less))
  before-within n (output ∷ one) other less = elim (cases_lt n (length (bytes output))) [
    | inl few ↦ ends-there n output (one ++ other) few ∙ sym (ends-there n output one few)
    | inr enough ↦
        let rest = before-within (n - length (bytes output)) one other (omega (arith, size-more output one, less, enough)) in
        goes-on n output (one ++ other) enough ∙ ap (λ more. output ∷ more) rest ∙ sym (goes-on n output one enough)
  ]

  -- what comes before is a first part
  pub record Parts (n : ℕ) (outputs : List Output) : Type 0 where
    pub rest : List Output
    pub parts : outputs ≡ outputs_before bytes n outputs ++ rest

  pub parts-of : (n : ℕ) (outputs : List Output) → Parts n outputs
  parts-of n [] = record { rest = []; parts = refl }
  parts-of n (output ∷ more) = elim (cases_lt n (length (bytes output))) [
    | inl few ↦ record { rest = output ∷ more; parts = ap (λ before. before ++ output ∷ more) (sym (ends-there n output more few)) }
    | inr enough ↦
        let later = parts-of (n - length (bytes output)) more in
        let first = ap (λ before. before ++ later.rest) (sym (goes-on n output more enough)) in
        record { rest = later.rest; parts = ap (λ left. output ∷ left) later.parts ∙ first }
  ]

-- ---- what a wave that refuses has heard

-- one sample more is no picture more
pub samples-add-none : (n : ℕ) (taken : List Output) (sample : _)
    → picture_count (outputs_before sample_bytes n (taken ++ Sound sample ∷ [])) ≡ picture_count (outputs_before sample_bytes n taken)
samples-add-none n taken sample = grind (arith, all-before, before-past, before-within, nat_tests, pictures-counted)

-- The outputs that were taken are those that were heard, and some that wait, of which none is a picture.
pub record IsHeard (n : ℕ) (outputs taken : List Output) : Type 0 where
  pub waiting : List Output
  pub parts : taken ≡ outputs_before sample_bytes n outputs ++ waiting
  pub no_picture : picture_count waiting ≡ 0

module _ (n : ℕ) (taken left : List Output) (settled : picture_count (outputs_before sample_bytes n taken) ≡ picture_count taken)
    (past : size sample_bytes taken ≤ n → outputs_before sample_bytes (n - size sample_bytes taken) left ≡ []) where
  pub is-heard : IsHeard n (taken ++ left) taken
  is-heard = elim (cases_lt n (size sample_bytes taken)) [
    | inl within ↦
        let split = parts-of sample_bytes n taken in
        let same = before-within sample_bytes n taken left within in
        let count = pictures-counted (outputs_before sample_bytes n taken) split.rest in
        let all = ap picture_count split.parts in search rules
    | inr enough ↦
        let whole = before-past sample_bytes n taken left enough ∙ ap (λ more. taken ++ more) (past enough) ∙ append-nil taken in
        record { waiting = []; parts = sym (append-nil (outputs_before sample_bytes n (taken ++ left)) ∙ whole); no_picture = refl }
  ]

-- and the images are the same
pub heard-images : (n : ℕ) (outputs taken : List Output) → IsHeard n outputs taken
    → images_text taken ≡ images_text (outputs_before sample_bytes n outputs)
heard-images n outputs taken heard =
    grind (arith, nat_tests, outputs_before, sample_bytes, frames-append, no-images, append-nil, images_text)

-- ---- what was shown before an image that was refused

pub is-shown : (n : ℕ) (taken : List Output) (image : _) (more : List Output) → size image_bytes taken ≤ n
    → n < size image_bytes taken + length (image_bytes (Show image)) → outputs_before image_bytes n (taken ++ Show image ∷ more) ≡ taken
is-shown n taken image more enough few = grind (arith, nat_tests, before-past, image_bytes, ends-there, append-nil)
