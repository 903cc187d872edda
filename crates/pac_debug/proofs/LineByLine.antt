-- The lines of a text, one after another: what the lines that are left lead to is what the whole text leads to.
use Rattle.pac_debug.proofs.Common.{CommandFault, Commands, Err, Giving, IsLineAnswered, List, ObeysLines, Ok, Result, Scene, [], arith}
use Rattle.pac_debug.proofs.Common.{refl, rules, subst, sym, ℕ, ◌∷◌, ◌≡◌}
use mathlib.Core.Logic.{inr}

module _ {S W : Type 0} (to : Giving S) (wrote : W → List ℕ → W → Type 0) (balked : W → W → Type 0) where
  abbrev pub Leads : (whole left : List (List ℕ)) → (old now : Scene S W) → Type 0
  Leads whole left old now =
      (result : Result (Unit {0}) CommandFault) (last : Scene S W)
      → ObeysLines to wrote balked left now result last → ObeysLines to wrote balked whole old result last

  one-more : (line : List ℕ) (more : List (List ℕ)) (now next : Scene S W) → IsLineAnswered to wrote balked line now next
      → (result : Result (Unit {0}) CommandFault) (last : Scene S W)
      → ObeysLines to wrote balked more next result last → ObeysLines to wrote balked (line ∷ more) now result last
  one-more line more now next first (Ok done) last rest = record { between = next; before = first; after = rest }
  one-more line more now next first (Err fault) last rest = inr (record { between = next; before = first; after = rest })

  pub leads-on : (whole left more : List (List ℕ)) (line : List ℕ) (old now next : Scene S W) → left ≡ line ∷ more
      → Leads whole left old now → IsLineAnswered to wrote balked line now next → Leads whole more old next
  leads-on whole left more line old now next is was first result last rest = grind (arith, one-more)

  -- none is left
  pub leads-to-end : (whole left : List (List ℕ)) (old now : Scene S W) → left ≡ [] → Leads whole left old now
      → ObeysLines to wrote balked whole old (Ok tt) now
  leads-to-end whole left old now is was = was (Ok tt) now (subst (λ ls. ObeysLines to wrote balked ls now (Ok tt) now) (sym is) refl)

  -- the next one isn't answered
  pub leads-to-fault : (whole left more : List (List ℕ)) (line : List ℕ) (old now next : Scene S W) (fault : CommandFault)
      → left ≡ line ∷ more → Leads whole left old now → Commands {A = Unit {0}} to wrote balked line now (Err fault) next
      → ObeysLines to wrote balked whole old (Err fault) next
  leads-to-fault whole left more line old now next fault is was ends = search rules
