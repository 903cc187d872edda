-- What a list of pairs tells of a key.
use Rattle.pac_lemmas.proofs.Common.{Bool, List, Some, [], ap, cases_Bool, cond-false, cond-true, false≢true, filter, inl, inr, lookup}
use Rattle.pac_lemmas.proofs.Common.{refl, sym, true, ◌∙◌, ◌∷◌, ◌≡◌}

-- among the pairs that another test leaves are all that can be found
pub lookup-filter : {K V : Type 0} (p : K → Bool) (q : K × V → Bool) (es : List (K × V)) → ((e : K × V) → p e.0 ≡ true → q e ≡ true) →
    lookup p (filter q es) ≡ lookup p es
lookup-filter p q [] implied = refl
lookup-filter p q (e ∷ es) implied =
    elim (cases_Bool (q e)) [
      | inl passes ↦ cc (cond-true (q e) (e ∷ filter q es) (filter q es) passes, lookup-filter p q es implied)
      | inr fails ↦
          elim (cases_Bool (p e.0)) [
            | inl both ↦ absurd (false≢true (sym fails ∙ implied e both))
            | inr none ↦
                ap (lookup p) (cond-false (q e) (e ∷ filter q es) (filter q es) fails) ∙ lookup-filter p q es implied ∙
                sym (cond-false (p e.0) (Some e.1) (lookup p es) none)
          ]
    ]
