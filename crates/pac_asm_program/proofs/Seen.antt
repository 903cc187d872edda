-- Symbols as their map holds them, under keys that have the names' bytes.
use Rattle.pac_asm_program.proofs.Common.{AllByRecursion, AreDistinct, IsDistinct, List, None, Some, Symbol, [], ap, bytes_eq, cond, false}
use Rattle.pac_asm_program.proofs.Common.{if◌then◌else◌, keys_of, lookup, map, number_of_symbol, refl, sym, true, with_symbol, ℕ, ℤ, ◌++◌}
use Rattle.pac_asm_program.proofs.Common.{◌∙◌, ◌∷◌, ◌≡◌}
use Rattle.std.specs.Prelude.{is_some}

module _ {K : Type 0} (name_of : K → List ℕ) where
  -- the names and their numbers
  abbrev pub seen : List (K × ℤ) → List Symbol
  seen entries = map (λ entry. (name_of entry.0, entry.1)) entries

  pub lookup-seen : (name : List ℕ) (entries : List (K × ℤ))
      → lookup (λ key. bytes_eq name (name_of key)) entries ≡ number_of_symbol (seen entries) name
  lookup-seen name [] = refl
  lookup-seen name (entry ∷ entries) = ap (cond (bytes_eq name (name_of entry.0)) (Some entry.1)) (lookup-seen name entries)

  none-after : (name : List ℕ) (entries : List (K × ℤ)) → AllByRecursion (λ key. bytes_eq name (name_of key) ≡ false) (keys_of entries)
      → AllByRecursion (λ other. bytes_eq name other ≡ false) (keys_of (seen entries))
  none-after name [] none = tt
  none-after name (entry ∷ entries) none = (none.0, none-after name entries none.1)

  pub distinct-seen : (entries : List (K × ℤ)) → IsDistinct (λ key other. bytes_eq (name_of key) (name_of other)) (keys_of entries)
      → AreDistinct (seen entries)
  unfolding IsDistinct
  distinct-seen [] distinct = tt
  distinct-seen (entry ∷ entries) distinct = (none-after (name_of entry.0) entries distinct.0, distinct-seen entries distinct.1)

  seen-append : (entries more : List (K × ℤ)) → seen (entries ++ more) ≡ seen entries ++ seen more
  seen-append [] more = refl
  seen-append (entry ∷ entries) more = ap (λ rest. (name_of entry.0, entry.1) ∷ rest) (seen-append entries more)

  -- a new name goes last
  pub seen-new : (entries : List (K × ℤ)) (key : K) (passed : ℤ) {name : List ℕ} {number : ℤ} → name_of key ≡ name → passed ≡ number
      → number_of_symbol (seen entries) name ≡ None → seen (entries ++ (key, passed) ∷ []) ≡ with_symbol (seen entries) name number
  seen-new entries key passed {name} {number} same equal new =
      seen-append entries ((key, passed) ∷ []) ∙ (λ i. seen entries ++ (same i, equal i) ∷ [])
      ∙ sym (ap (λ found. if is_some found then seen entries else seen entries ++ (name, number) ∷ []) new)

-- a name that stands already changes nothing
pub with-old : (symbols : List Symbol) (name : List ℕ) (number : ℤ) → is_some (number_of_symbol symbols name) ≡ true
    → symbols ≡ with_symbol symbols name number
with-old symbols name number old = sym (ap (λ b. if b then symbols else symbols ++ (name, number) ∷ []) old)
