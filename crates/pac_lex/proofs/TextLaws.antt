-- Texts in quotes: where one ends, and the characters that are taken out of its quotes.
use Rattle.pac_lex.proofs.Common.{List, Option, Some, arith, at_drop_more, begins, closing_length, common_steps, drop, drop_more, eq-eqb}
use Rattle.pac_lex.proofs.Common.{false, get_or, is_quote, length, ne_eqb, option_map, refl, rules, true, ℕ, ◌+◌, ◌<◌, ◌∷◌, ◌≡◌, ◌≢◌, []}
use Rattle.pac_lex.proofs.Common.{cases_Bool, cond, eqb-true, flat_map, inl, inr, is_printable, list_all, none-some, quoted_character}
use Rattle.pac_lex.proofs.Common.{same_Some, subst, suc, take, ◌++◌, after_character, ap, append_assoc, characters_of, length-append}
use Rattle.pac_lex.proofs.Common.{quoted_text, sym, take_all, take_at, unquoted_characters, ◌-◌, ◌∙◌, ◌≤◌}
use Rattle.pac_lex.proofs.ByteLemmas.{chosen}
use Rattle.std.proofs.lemmas.List.{append-nil}

-- ---- where a text ends

abbrev pub more : ℕ → Option ℕ → Option ℕ
more n o = option_map (λ k. k + n) o

more-more : (m n : ℕ) (o : Option ℕ) → more m (more n o) ≡ more (m + n) o
more-more m n o = search rules

pub closing-other : (b : ℕ) (bytes : List ℕ) → is_quote b ≡ false → closing_length (b ∷ bytes) ≡ more 1 (closing_length bytes)
closing-other b bytes e = grind (arith, common_steps)

pub closing-doubled : (b c : ℕ) (bytes : List ℕ) → is_quote b ≡ true → is_quote c ≡ true →
    closing_length (b ∷ c ∷ bytes) ≡ more 2 (closing_length bytes)
closing-doubled b c bytes e f = rw (e, f) refl

pub closing-single : (b : ℕ) (bytes : List ℕ) → is_quote b ≡ true → begins is_quote bytes ≡ false → closing_length (b ∷ bytes) ≡ Some 1
closing-single b bytes e f = search rules

-- the byte at a place, with what follows it
here : (bytes : List ℕ) (at : ℕ) → at < length bytes →
    closing_length (drop at bytes) ≡ closing_length (get_or bytes at 0 ∷ drop (at + 1) bytes)
here bytes at lt = at_drop_more closing_length bytes at 0 lt

pub other-at : (bytes : List ℕ) (at : ℕ) → at < length bytes → get_or bytes at 0 ≢ 39 →
    closing_length bytes ≡ more at (closing_length (drop at bytes))
    → closing_length bytes ≡ more (at + 1) (closing_length (drop (at + 1) bytes))
other-at bytes at lt ne so_far = grind (arith, closing-other, here, more-more, ne_eqb)

pub doubled-at : (bytes : List ℕ) (at : ℕ) → at + 1 < length bytes → get_or bytes at 0 ≡ 39 → get_or bytes (at + 1) 0 ≡ 39
    → closing_length bytes ≡ more at (closing_length (drop at bytes))
    → closing_length bytes ≡ more (at + 2) (closing_length (drop (at + 2) bytes))
doubled-at bytes at lt e f so_far = grind (arith, closing-doubled, drop_more, eq-eqb, here, more-more)

-- ---- a text ends where its characters, each quote doubled, end in one quote

more-some : (k : ℕ) (o : Option ℕ) (n : ℕ) → more k o ≡ Some n → (m : ℕ) × (o ≡ Some m) × (m + k ≡ n)
more-some k o n e = search rules

-- the characters of a text that ends after these bytes
pub record Closes (bytes : List ℕ) (n : ℕ) : Type 0 where
  pub characters : List ℕ
  pub text : take n bytes ≡ flat_map quoted_character characters ++ 39 ∷ []
  pub stops : begins is_quote (drop n bytes) ≡ false

quote-is : (b : ℕ) → is_quote b ≡ true → b ≡ 39
quote-is b e = eqb-true b 39 e

closes-here : (b : ℕ) (bytes : List ℕ) → b ≡ 39 → begins is_quote bytes ≡ false → Closes (b ∷ bytes) 1
closes-here b bytes e stop = record { characters = []; text = rw e refl; stops = stop }

closes-other : (b : ℕ) (bytes : List ℕ) (m : ℕ) → is_quote b ≡ false → Closes bytes m → Closes (b ∷ bytes) (suc m)
closes-other b bytes m e h = record { characters = b ∷ h.characters; text = rw (e, h.text) refl; stops = h.stops }

closes-doubled : (b c : ℕ) (bytes : List ℕ) (m : ℕ) → b ≡ 39 → c ≡ 39 → Closes bytes m → Closes (b ∷ c ∷ bytes) (suc (suc m))
closes-doubled b c bytes m e f h = record { characters = 39 ∷ h.characters; text = rw (e, f, h.text) refl; stops = h.stops }

pub closing-is : (bytes : List ℕ) (n : ℕ) → closing_length bytes ≡ Some n → Closes bytes n
closing-is [] n e = absurd (none-some n e)
closing-is (b ∷ []) n e = search rules
closing-is (b ∷ c ∷ bytes) n e =
    elim (chosen (is_quote b) (cond (is_quote c) (more 2 (closing_length bytes)) (Some 1)) (more 1 (closing_length (c ∷ bytes))) (Some n)
    e) [
      | inl (q, s) ↦ elim (chosen (is_quote c) (more 2 (closing_length bytes)) (Some 1) (Some n) s) [
        | inl (r, t) ↦
            let (m, is, sum) = more-some 2 (closing_length bytes) n t in
            let two : suc (suc m) ≡ n = omega arith in
            subst (λ (k : ℕ). Closes (b ∷ c ∷ bytes) k) two
            (closes-doubled b c bytes m (quote-is b q) (quote-is c r) (closing-is bytes m is))
        | inr (r, t) ↦ subst (λ (k : ℕ). Closes (b ∷ c ∷ bytes) k) (same_Some 1 n t) (closes-here b (c ∷ bytes) (quote-is b q) r)
      ]
      | inr (q, s) ↦
          let (m, is, sum) = more-some 1 (closing_length (c ∷ bytes)) n s in
          let one : suc m ≡ n = omega arith in
          subst (λ (k : ℕ). Closes (b ∷ c ∷ bytes) k) one (closes-other b (c ∷ bytes) m q (closing-is (c ∷ bytes) m is))
    ]

plus-one : (n : ℕ) → n + 1 + 1 ≡ suc n + 1
plus-one n = omega arith

pub closing-again : (characters rest : List ℕ) → begins is_quote rest ≡ false
    → closing_length (flat_map quoted_character characters ++ (39 ∷ rest)) ≡ Some (length (flat_map quoted_character characters) + 1)
closing-again [] rest stop = closing-single 39 rest refl stop
closing-again (c ∷ characters) rest stop =
    let h = closing-again characters rest stop in grind (arith, cases_Bool, closing-doubled, closing-other, more, plus-one)

pub printable-quoted : (characters : List ℕ)
    → list_all is_printable (flat_map quoted_character characters ++ 39 ∷ []) ≡ list_all is_printable characters
printable-quoted [] = refl
printable-quoted (c ∷ characters) = elim (cases_Bool (is_quote c)) [
  | inl q ↦ rw (q, printable-quoted characters, quote-is c q) refl
  | inr q ↦ rw (q, printable-quoted characters) refl
]

-- ---- the characters of a text, taken out of its quotes

pub unquoted-cons : (b : ℕ) (bytes : List ℕ) → unquoted_characters (b ∷ bytes) ≡ b ∷ unquoted_characters (after_character b bytes)
unfolding unquoted_characters
unquoted-cons b bytes = search rules

pub unquoted-nil : unquoted_characters [] ≡ []
unfolding unquoted_characters
unquoted-nil = refl

no-quote-after : (c : ℕ) (bytes : List ℕ) → is_quote c ≡ false → after_character c bytes ≡ bytes
no-quote-after c bytes e = search rules

unquoted-quoted : (characters : List ℕ) → unquoted_characters (flat_map quoted_character characters) ≡ characters
unquoted-quoted [] = unquoted-nil
unquoted-quoted (c ∷ characters) = elim (cases_Bool (is_quote c)) [
  | inl e ↦ rw e (unquoted-cons 39 (39 ∷ flat_map quoted_character characters) ∙ rw (unquoted-quoted characters, eqb-true c 39 e) refl)
  | inr e ↦
      rw e (unquoted-cons c (flat_map quoted_character characters)
      ∙ rw (no-quote-after c (flat_map quoted_character characters) e, unquoted-quoted characters) refl)
]

pub characters-again : (text characters : List ℕ) → text ≡ quoted_text characters → characters_of text ≡ characters
characters-again text characters e = grind (arith, length-append, take_at, unquoted-quoted)

one-more : (found : List ℕ) (b : ℕ) (bytes rest total : List ℕ) → bytes ≡ rest → found ++ unquoted_characters (b ∷ rest) ≡ total
    → (found ++ b ∷ []) ++ unquoted_characters (after_character b bytes) ≡ total
one-more found b bytes rest total e so_far =
    rw e (cc (append_assoc found (b ∷ []) (unquoted_characters (after_character b rest)), unquoted-cons b rest, so_far))

pub goes-on-unquoted : (found rest total : List ℕ) → 1 ≤ length rest → found ++ unquoted_characters rest ≡ total
    → (found ++ get_or rest 0 0 ∷ []) ++ unquoted_characters (after_character (get_or rest 0 0) (take (length rest - 1) (drop 1 rest)))
    ≡ total
goes-on-unquoted found rest total some so_far = grind (arith, one-more, take_all)

pub ends-unquoted : (found rest total : List ℕ) → length rest < 1 → found ++ unquoted_characters rest ≡ total → found ≡ total
ends-unquoted found [] total none so_far = sym (append-nil found) ∙ ap (λ (xs : List ℕ). found ++ xs) (sym unquoted-nil) ∙ so_far
ends-unquoted found (b ∷ rest) total none so_far = absurd (omega arith)

-- counting a text's characters: one more goes on, and at the end the count is all of them
pub counts-on : (count total : ℕ) (rest : List ℕ) → 1 ≤ length rest → count + length (unquoted_characters rest) ≡ total
    → count + 1 + length (unquoted_characters (after_character (get_or rest 0 0) (take (length rest - 1) (drop 1 rest)))) ≡ total
counts-on count total rest some so_far = grind (arith, take_all, unquoted-cons)

pub ends-counted : (count total : ℕ) (rest : List ℕ) → length rest < 1 → count + length (unquoted_characters rest) ≡ total → count ≡ total
ends-counted count total [] none so_far = grind (arith, unquoted-nil)
ends-counted count total (b ∷ rest) none so_far = absurd (omega arith)
