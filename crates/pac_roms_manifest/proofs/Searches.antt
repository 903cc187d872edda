-- Searches over all parts: what they say of each, and how far a loop over them has come.
use Rattle.pac_roms_manifest.proofs.Common.{Bool, Bor, List, Manifest, None, Option, PartName, Some, [], append-nil, arith, at_drop_more}
use Rattle.pac_roms_manifest.proofs.Common.{both-none, cons_option, drop, entry_of_part, false, first_answer, get_or, is_unnamed, length}
use Rattle.pac_roms_manifest.proofs.Common.{map, map-append, option_copied, parts_in_order, refl, rules, suc, unnamed_fault, zero, ℕ, ◌++◌}
use Rattle.pac_roms_manifest.proofs.Common.{◌+◌, ◌<◌, ◌∙◌, ◌∷◌, ◌≡◌}

-- a question without an answer has none at any element
nowhere : {A B : Type 0} (question : A → Option B) (xs : List A) (n : ℕ) (d : A) → n < length xs → first_answer question xs ≡ None
    → question (get_or xs n d) ≡ None
nowhere question [] n d within none = absurd (omega arith)
nowhere question (x ∷ xs) zero d within none = (both-none (question x) (first_answer question xs) none).0
nowhere question (x ∷ xs) (suc n) d within none =
    nowhere question xs n d (omega arith) (both-none (question x) (first_answer question xs) none).1

-- so it has none at any part
pub nothing_at : {A : Type 0} (question : PartName → Option A) (part : PartName)
    → first_answer question parts_in_order ≡ None → question part ≡ None
nothing_at question part none = search rules

-- a question that had no answer so far has none at the next element
pub passed : {A B : Type 0} (question : A → Option B) (xs : List A) (i : ℕ) (d : A) → i < length xs → question (get_or xs i d) ≡ None
    → first_answer question (drop i xs) ≡ first_answer question xs → first_answer question (drop (i + 1) xs) ≡ first_answer question xs
passed question xs i d within none so_far = cc (none, at_drop_more (first_answer question) xs i d within, so_far)

-- a part whose file is named has no fault of that kind
pub named_part : (manifest : Manifest) (assembled : Bool) (part : PartName) (test : Bool)
    → test ≡ is_unnamed assembled part (entry_of_part manifest part) → test ≡ false → unnamed_fault manifest assembled part ≡ None
named_part manifest assembled part test same not_so = rw (← same, not_so) refl

-- names that are lent, with the answer at one more element
pub pushed : (names : List (Bor (List ℕ))) (so_far more : List (List ℕ)) (found : Option (Bor (List ℕ))) (name : Bor (List ℕ))
    → found ≡ Some name → map (λ lent. lent.now) names ≡ so_far → more ≡ so_far ++ cons_option (option_copied found) []
    → map (λ lent. lent.now) (names ++ name ∷ []) ≡ more
pushed names so_far more found name is before after = map-append (λ lent. lent.now) names (name ∷ []) ∙ rw (after, is, before) refl

-- and with none
pub skipped : (names : List (Bor (List ℕ))) (so_far more : List (List ℕ)) (found : Option (Bor (List ℕ))) → found ≡ None
    → map (λ lent. lent.now) names ≡ so_far → more ≡ so_far ++ cons_option (option_copied found) []
    → map (λ lent. lent.now) names ≡ more
skipped names so_far more found is before after = rw (after, is, before, append-nil so_far) refl
