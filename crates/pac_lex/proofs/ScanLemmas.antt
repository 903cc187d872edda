-- A line read token by token.
use Rattle.pac_lex.proofs.Common.{Err, LexFault, Lexeme, List, Ok, Result, TokenKind, [], after_gap, ap, append-nil, arith, begins}
use Rattle.pac_lex.proofs.Common.{cases_Bool, common_steps, cut_token, drop, false, inl, inr, is_blank, is_comment_start, is_end, one-add}
use Rattle.pac_lex.proofs.Common.{refl, scan, suc, sym, token_at, token_before, true, zero, ℕ, ◌++◌, ◌<◌, ◌∙◌, ◌∷◌, ◌≡◌}
use Rattle.pac_lex.proofs.Prefixes.{begins-after}

pub scan-skip : (n : ℕ) (bytes : List ℕ) → scan n bytes ≡ scan 0 (drop n bytes)
unfolding scan
scan-skip zero bytes = refl
scan-skip (suc n) [] = refl
scan-skip (suc n) (b ∷ bytes) = scan-skip n bytes

pub scan-blank : (b : ℕ) (bytes : List ℕ) → is_blank b ≡ true → scan 0 (b ∷ bytes) ≡ scan 0 bytes
unfolding scan
scan-blank b bytes e = rw e refl

pub scan-comment : (b : ℕ) (bytes : List ℕ) → is_blank b ≡ false → is_comment_start b ≡ true → scan 0 (b ∷ bytes) ≡ Ok []
unfolding scan
scan-comment b bytes e f = rw (e, f) refl

scan-gap : (line : List ℕ) → scan 0 line ≡ scan 0 (after_gap line)
scan-gap [] = refl
scan-gap (b ∷ line) = elim (cases_Bool (is_blank b)) [
  | inl e ↦ scan-blank b line e ∙ scan-gap line ∙ rw (e, one-add) refl
  | inr e ↦ rw e refl
]

-- what a line is read as, by what follows its blanks
pub record AfterGap (line rest : List ℕ) : Type 0 where
  pub same : scan 0 line ≡ scan 0 rest
  pub no_blank : begins is_blank rest ≡ false

pub gap-skipped : (line rest : List ℕ) → rest ≡ after_gap line → AfterGap line rest
gap-skipped line rest e = rw e record { same = scan-gap line; no_blank = begins-after is_blank line }

pub next-none : (line rest : List ℕ) → AfterGap line rest → is_end rest ≡ true → scan 0 line ≡ Ok []
unfolding scan
next-none line rest g e = grind (arith, scan-comment)

pub next-fault : (line rest : List ℕ) (fault : LexFault) → AfterGap line rest → is_end rest ≡ false → token_at rest ≡ Err fault
    → scan 0 line ≡ Err fault
unfolding scan
next-fault line rest fault g e f = grind arith

pub next-some : (line rest : List ℕ) (kind : TokenKind) (len : ℕ) → AfterGap line rest → is_end rest ≡ false
    → token_at rest ≡ Ok (kind, len) → 0 < len → scan 0 line ≡ token_before (cut_token kind len rest) (scan 0 (drop len rest))
unfolding scan
next-some line rest kind len g e f h = grind (arith, scan-skip)

-- what was read before, and what is still read
abbrev pub with_earlier : List Lexeme → Result (List Lexeme) LexFault → Result (List Lexeme) LexFault
with_earlier earlier (Ok tokens) = Ok (earlier ++ tokens)
with_earlier earlier (Err fault) = Err fault

regroup : (earlier : List Lexeme) (token : Lexeme) (read : Result (List Lexeme) LexFault)
    → with_earlier earlier (token_before token read) ≡ with_earlier (earlier ++ token ∷ []) read
regroup earlier token read = grind (arith, common_steps)

pub goes-on : (earlier : List Lexeme) (token : Lexeme) (line after : List ℕ) (total : Result (List Lexeme) LexFault)
    → scan 0 line ≡ token_before token (scan 0 after) → with_earlier earlier (scan 0 line) ≡ total
    → with_earlier (earlier ++ token ∷ []) (scan 0 after) ≡ total
goes-on earlier token line after total e so_far = sym (regroup earlier token (scan 0 after)) ∙ ap (with_earlier earlier) (sym e) ∙ so_far

pub ends : (earlier : List Lexeme) (read total : Result (List Lexeme) LexFault) → read ≡ Ok [] → with_earlier earlier read ≡ total
    → total ≡ Ok earlier
ends earlier read total e so_far = sym so_far ∙ rw e (ap (λ (ts : List Lexeme). Ok ts) (append-nil earlier))

pub breaks : (earlier : List Lexeme) (read total : Result (List Lexeme) LexFault) (fault : LexFault) → read ≡ Err fault
    → with_earlier earlier read ≡ total → total ≡ Err fault
breaks earlier read total fault e so_far = sym so_far ∙ rw e refl
