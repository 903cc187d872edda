-- A list of bytes cut at those that pass a test.
use Rattle.pac_lemmas.proofs.Common.{Bool, List, [], arith, cases_Bool, drop, false, inl, inr, length, not, one-add, prefix_len, refl}
use Rattle.pac_lemmas.proofs.Common.{slice_split, suc, take, true, ℕ, ◌<◌, ◌∷◌, ◌≡◌}

-- how long the first part is
abbrev pub part_end : (ℕ → Bool) → List ℕ → ℕ
part_end p bytes = prefix_len (λ b. not (p b)) bytes

-- the parts after the first, where these bytes follow it
abbrev pub parts_after : (ℕ → Bool) → List ℕ → List (List ℕ)
parts_after p [] = []
parts_after p (b ∷ bytes) = slice_split p bytes

pub first-part : (p : ℕ → Bool) (bytes : List ℕ)
    → slice_split p bytes ≡ take (part_end p bytes) bytes ∷ parts_after p (drop (part_end p bytes) bytes)
first-part p [] = refl
first-part p (b ∷ bytes) = elim (cases_Bool (p b)) [
  | inl e ↦ rw e refl
  | inr e ↦ rw (e, one-add, first-part p bytes) refl
]

pub last-part : (p : ℕ → Bool) (bytes rest : List ℕ) → rest ≡ drop (part_end p bytes) bytes → length rest ≡ 0
    → slice_split p bytes ≡ take (part_end p bytes) bytes ∷ []
last-part p bytes rest e h = grind (arith, first-part)

pub more-parts : (p : ℕ → Bool) (bytes rest : List ℕ) → rest ≡ drop (part_end p bytes) bytes → 0 < length rest
    → slice_split p bytes ≡ take (part_end p bytes) bytes ∷ slice_split p (drop 1 rest)
more-parts p bytes rest e h = grind (arith, first-part)

pub part-more : (p : ℕ → Bool) (b : ℕ) (bytes : List ℕ) → p b ≡ false → part_end p (b ∷ bytes) ≡ suc (part_end p bytes)
part-more p b bytes e = rw (e, one-add) refl

pub part-stops : (p : ℕ → Bool) (b : ℕ) (bytes : List ℕ) → p b ≡ true → part_end p (b ∷ bytes) ≡ 0
part-stops p b bytes e = rw e refl
