-- Lines of which two stand in one line of bytes.
use Rattle.pac_picture.proofs.Common.{IsPicture, List, [], arith, black, get_or, get_or-replicate, get_or-tabulate, length, length-replicate, nat_lt, ◌%◌}
use Rattle.pac_picture.proofs.Common.{nat_tests, replicate, sym, tabulate, tabulate-is, tabulate-same, ℕ, ◌+◌, ◌<◌, ◌∙◌, ◌≡◌}
use Rattle.std.proofs.Common.{true, false, refl, Bool}
use Rattle.pac_picture.specs.Packed.{half_of, unpacked, unpacked_number}

-- lines of bytes, so many of which have lines of a picture in their halves
pub record ArePacked (count : ℕ) (lines pairs : List (List ℕ)) : Type 0 where
  pub upper : (y x : ℕ) → y < count → x < 288 → half_of true (get_or (get_or pairs y []) x 0) ≡ get_or (get_or lines y []) x 0
  pub lower : (y x : ℕ) → y < count → x < 288 → half_of false (get_or (get_or pairs y []) x 0) ≡ get_or (get_or lines (y + 112) []) x 0

-- all of them have all lines
pub unpacked-is : (pairs lines : List (List ℕ)) → IsPicture lines → ArePacked 112 lines pairs → unpacked pairs ≡ lines
unpacked-is pairs lines picture packed =
    sym (tabulate-is lines 224 _ [] picture.high
    (λ y down. tabulate-is (get_or lines y []) 288 (unpacked_number pairs y) 0 (picture.wide y down)
    (λ x across. grind (arith, nat_tests, packed.upper, packed.lower))))

-- black lines
half-none : (low : Bool) → 0 ≡ half_of low 0
half-none true = refl
half-none false = refl

black-number : (y x : ℕ) → x < 288 → 0 ≡ unpacked_number (tabulate 112 (λ _. replicate 288 0)) y x
black-number y x across =
    rw (get_or-tabulate 112 (λ _. replicate {A = ℕ} 288 0) (y % 112) [] (omega arith), get_or-replicate {A = ℕ} 288 x 0 0 across) (half-none (nat_lt y 112))

pub black-unpacked : (pairs : List (List ℕ)) → pairs ≡ tabulate 112 (λ _. replicate 288 0) → unpacked pairs ≡ black
unfolding black
black-unpacked pairs is =
    rw is
    (sym (tabulate-same 224 (λ _. replicate 288 0) _
    (λ y down. tabulate-is (replicate 288 0) 288 (unpacked_number _ y) 0 (length-replicate {A = ℕ} 288 0)
    (λ x across. get_or-replicate {A = ℕ} 288 x 0 0 across ∙ black-number y x across))))

-- a line of what is packed
pub unpacked-line : (pairs : List (List ℕ)) (y : ℕ) (line pair : List ℕ) → pair ≡ get_or pairs (y % 112) [] → y < 224 → length line ≡ 288 →
    ((x : ℕ) → x < 288 → get_or line x 0 ≡ half_of (nat_lt y 112) (get_or pair x 0)) → line ≡ get_or (unpacked pairs) y []
unpacked-line pairs y line pair is down long each =
    tabulate-is line 288 (unpacked_number pairs y) 0 long (λ x across. grind (arith, each)) ∙ sym (get_or-tabulate 224 _ y [] down)

-- lines that are those of a picture
pub same-lines : (lines others : List (List ℕ)) → length lines ≡ 224 → length others ≡ 224 →
    ((k : ℕ) → k < 224 → get_or lines k [] ≡ get_or others k []) → lines ≡ others
same-lines lines others long high each =
    tabulate-is lines 224 (λ k. get_or others k []) [] long each
    ∙ sym (tabulate-is others 224 (λ k. get_or others k []) [] high (λ k below. refl))
