-- Samples that are written one after another.
use Rattle.std.proofs.Math.Nat.{sub_self}
use Rattle.std.proofs.Common.{Bool, List, [], append_assoc, arith, drop, drop-cons, false, length, pos, refl, replicate, rules, set, suc}
use Rattle.std.proofs.Common.{zero, ℕ, ℤ, ◌++◌, ◌+◌, ◌<◌, ◌∷◌, ◌≡◌}
use Rattle.std.proofs.lemmas.List.{set-append_right, length-append, replicate_more}
use Rattle.pac_wave.specs.Batch.{accumulators_after_many, sound_samples}
use Rattle.pac_wave.specs.Wave.{Accumulators, accumulator, accumulators_after, sound_sample}

pub counted : (prom registers : List ℕ) (on : Bool) (all : Accumulators) (n : ℕ) → length (sound_samples prom registers on all n) ≡ n
counted prom registers on all zero = refl
counted prom registers on all (suc n) = search (rules, length-append, counted prom registers on all n)

-- one more of them, in its place
pub written-next : (xs ys : List ℤ) (y : ℤ) (n : ℕ) → length xs ≡ n → n < length ys
    → set (xs ++ drop n ys) n y ≡ (xs ++ y ∷ []) ++ drop (suc n) ys
written-next xs ys y n is fits =
    cc (
      set-append_right xs (drop n ys) n n y is (omega arith),
      drop-cons ys n y fits,
      sub_self n,
      append_assoc xs (y ∷ []) (drop (suc n) ys),
    )

-- the invariant's step
pub more-voices : (registers : List ℕ) (on : Bool) (all : Accumulators) (n : ℕ)
    → accumulators_after registers on (accumulators_after_many registers on all n) ≡ accumulators_after_many registers on all (n + 1)
more-voices registers on all n = search rules

pub more-samples : (prom registers : List ℕ) (on : Bool) (all : Accumulators) (ys : List ℤ) (n : ℕ) → n < length ys
    → set (sound_samples prom registers on all n ++ drop n ys) n
    (sound_sample prom registers (accumulator (accumulators_after_many registers on all n)) on)
    ≡ sound_samples prom registers on all (n + 1) ++ drop (n + 1) ys
more-samples prom registers on all ys n fits = search (rules, written-next, counted)

-- ---- while sound is off

pub stays : (registers : List ℕ) (all : Accumulators) (n : ℕ) → accumulators_after_many registers false all n ≡ all
stays registers all zero = refl
stays registers all (suc n) = stays registers all n

pub silent : (prom registers : List ℕ) (all : Accumulators) (n : ℕ) → replicate n (pos 0) ≡ sound_samples prom registers false all n
silent prom registers all zero = refl
silent prom registers all (suc n) = search (rules, replicate_more, silent prom registers all n)
