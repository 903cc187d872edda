-- The parts of a name.
use Rattle.pac_run_files.proofs.Common.{List, [], ap, arith, bytes_eq, climbs, codes, eqb, if◌then◌else◌, lengthen, list_any, name_parts}
use Rattle.pac_run_files.proofs.Common.{nat_tests, or-false, refl, slash, suc, ℕ, ◌++◌, ◌||◌, ◌∙◌, ◌∷◌, ◌≡◌, ◌≢◌}
use Rattle.pac_run_files.proofs.Folders.{HasNone}

-- a byte that is no slash
skip : {X : Type 0} (byte : ℕ) (one other : X) → byte ≢ slash → (if eqb byte slash then one else other) ≡ other
skip byte one other differs = grind (arith, nat_tests, differs)

pub parts-none : (name : List ℕ) → HasNone name → name_parts name ≡ name ∷ []
parts-none [] none = refl
parts-none (byte ∷ name) none =
    skip byte _ _ (none 0 (omega arith)) ∙ ap (lengthen byte) (parts-none name (λ i below. none (suc i) (omega (arith, below))))

pub parts-split : (part more : List ℕ) → HasNone part → name_parts (part ++ slash ∷ more) ≡ part ∷ name_parts more
parts-split [] more none = refl
parts-split (byte ∷ part) more none =
    skip byte _ _ (none 0 (omega arith)) ∙ ap (lengthen byte) (parts-split part more (λ i below. none (suc i) (omega (arith, below))))

-- the name climbs where its first part does, or what follows does
pub climbs-split : (part more : List ℕ) → HasNone part → climbs (part ++ slash ∷ more) ≡ (bytes_eq part (codes "..") || climbs more)
climbs-split part more none = ap (list_any (λ one. bytes_eq one (codes ".."))) (parts-split part more none)

pub climbs-none : (name : List ℕ) → HasNone name → climbs name ≡ bytes_eq name (codes "..")
climbs-none name none = ap (list_any (λ one. bytes_eq one (codes ".."))) (parts-none name none) ∙ or-false (bytes_eq name (codes ".."))
