-- What the first byte of a token is, and what it isn't.
use Rattle.pac_lex.proofs.Common.{AlternateAf, Bool, List, Name, Number, Some, Text, TokenKind, [], and_parts, arith, begins, cond, eqb}
use Rattle.pac_lex.proofs.Common.{eqb-true, false, inl, inr, is_ascii_digit, is_blank, is_comment_start, is_end, is_name_start, list_all}
use Rattle.pac_lex.proofs.Common.{lookup, nat_tests, none-some, one_byte_kind, one_byte_kinds, refl, rules, same_Some, subst, true, ℕ, ◌∷◌}
use Rattle.pac_lex.proofs.Common.{◌≡◌, ◌⊎◌}

pub chosen : {A : Type 0} (b : Bool) (x y z : A) → cond b x y ≡ z → ((b ≡ true) × (x ≡ z)) ⊎ ((b ≡ false) × (y ≡ z))
chosen b x y z e = search rules

-- a token or a fault begins with these bytes
pub record Starts (bytes : List ℕ) : Type 0 where
  pub no_blank : begins is_blank bytes ≡ false
  pub no_end : is_end bytes ≡ false

pub digit-no-start : (b : ℕ) → is_ascii_digit b ≡ true → is_name_start b ≡ false
digit-no-start b e = grind (arith, nat_tests)

pub digit-no-blank : (b : ℕ) → is_ascii_digit b ≡ true → is_blank b ≡ false
digit-no-blank b e = grind (arith, nat_tests)

pub digit-no-comment : (b : ℕ) → is_ascii_digit b ≡ true → is_comment_start b ≡ false
digit-no-comment b e = grind (arith, nat_tests)

pub start-no-blank : (b : ℕ) → is_name_start b ≡ true → is_blank b ≡ false
start-no-blank b e = grind (arith, nat_tests)

pub start-no-comment : (b : ℕ) → is_name_start b ≡ true → is_comment_start b ≡ false
start-no-comment b e = grind (arith, nat_tests)

-- ---- tokens of one byte

-- what each row of a table passes, the row of a byte that is found there passes
row-passes : (p : ℕ × TokenKind → Bool) (rows : List (ℕ × TokenKind)) (b : ℕ) (kind : TokenKind) → list_all p rows ≡ true
    → lookup (λ c. eqb b c) rows ≡ Some kind → p (b, kind) ≡ true
row-passes p [] b kind all e = absurd (none-some kind e)
row-passes p ((c, k) ∷ rows) b kind all e =
    let both = and_parts (p (c, k)) (list_all p rows) all in
    elim (chosen (eqb b c) (Some k) (lookup (λ c. eqb b c) rows) (Some kind) e) [
      | inl (t, is) ↦ rw (eqb-true b c t) (subst (λ (x : TokenKind). p (c, x) ≡ true) (same_Some k kind is) both.0)
      | inr (t, is) ↦ row-passes p rows b kind both.1 is
    ]

-- the kinds of one byte
abbrev pub is_mark : TokenKind → Bool
is_mark Name = false
is_mark (Number n) = false
is_mark Text = false
is_mark AlternateAf = false
is_mark kind = true

pub symbol-is-mark : (b : ℕ) (kind : TokenKind) → one_byte_kind b ≡ Some kind → is_mark kind ≡ true
symbol-is-mark b kind e = row-passes (λ row. is_mark row.1) one_byte_kinds b kind refl e
