-- What is in an `Option` or a `Result`.
use Rattle.pac_lemmas.proofs.Common.{Bool, Err, None, Ok, Option, Result, Some, ap, cond, false, false≢true, inl, inr, is_none, is_ok}
use Rattle.pac_lemmas.proofs.Common.{is_some, option_or, refl, rules, true, ◌≡◌, ◌⊎◌}

pub none-or-some : {X : Type 0} (o : Option X) → (o ≡ None) ⊎ ((x : X) × (o ≡ Some x))
none-or-some None = inl refl
none-or-some (Some x) = inr (x, refl)

pub none-from-is_some : {X : Type 0} (o : Option X) → is_some o ≡ false → o ≡ None
none-from-is_some o e = search rules

pub is_none-where-some : {X : Type 0} (o : Option X) → is_some o ≡ true → false ≡ is_none o
is_none-where-some o e = search rules

-- a choice that is nothing: its test fails, and so is the other
pub none-parts : {X : Type 0} (b : Bool) (x : X) (o : Option X) → cond b (Some x) o ≡ None → (b ≡ false) × (o ≡ None)
none-parts b x o e = search rules

pub both-none : {X : Type 0} (a b : Option X) → option_or a b ≡ None → (a ≡ None) × (b ≡ None)
both-none a b e = search rules

ok-or : {A E : Type 0} → A → Result A E → A
ok-or other (Ok x) = x
ok-or other (Err fault) = other

pub same-Ok : {A E : Type 0} (x y : A) → ◌≡◌ {A = Result A E} (Ok x) (Ok y) → x ≡ y
unfolding ok-or
same-Ok x y e = ap (ok-or x) e

pub Err-is-no-Ok : {A E : Type 0} (fault : E) (x : A) → ◌≡◌ {A = Result A E} (Err fault) (Ok x) → ⊥
Err-is-no-Ok fault x e = false≢true (ap is_ok e)
