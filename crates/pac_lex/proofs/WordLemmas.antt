-- The first word of a line, and the words after it.
use Rattle.pac_lex.proofs.Common.{List, [], after_gap, ap, arith, begins, cases_Bool, drop, false, filter, first-part, inl, inr, is_blank}
use Rattle.pac_lex.proofs.Common.{length, one-add, part-more, part-stops, part_end, parts_after, refl, rules, subst, sym}
use Rattle.pac_lex.proofs.Common.{take, true, words_of_line, ℕ, ◌<◌, ◌∙◌, ◌∷◌, ◌≡◌}

-- what follows the blanks of a line, by its first byte
gap-more : (b : ℕ) (line : List ℕ) → is_blank b ≡ true → after_gap (b ∷ line) ≡ after_gap line
gap-more b line e = rw (e, one-add) refl

gap-stops : (b : ℕ) (line : List ℕ) → is_blank b ≡ false → after_gap (b ∷ line) ≡ b ∷ line
gap-stops b line e = rw e refl

blank-first : (b : ℕ) (bytes : List ℕ) → is_blank b ≡ true → words_of_line (b ∷ bytes) ≡ words_of_line bytes
blank-first b bytes e = rw e refl

abbrev AfterWord : ℕ → List ℕ → Type 0
AfterWord n bytes = filter (begins (λ b. true)) (parts_after is_blank (drop n bytes)) ≡ words_of_line (drop n bytes)

after-word : (bytes : List ℕ) → AfterWord (part_end is_blank bytes) bytes
after-word [] = refl
after-word (b ∷ bytes) = elim (cases_Bool (is_blank b)) [
  | inl e ↦ subst (λ n. AfterWord n (b ∷ bytes)) (sym (part-stops is_blank b bytes e)) (sym (blank-first b bytes e))
  | inr e ↦ subst (λ n. AfterWord n (b ∷ bytes)) (sym (part-more is_blank b bytes e)) (after-word bytes)
]

filled-first : (word : List ℕ) (parts : List (List ℕ)) → 0 < length word →
    filter (begins (λ b. true)) (word ∷ parts) ≡ word ∷ filter (begins (λ b. true)) parts
filled-first word parts h = search rules

-- the first word of a line is where these bytes begin
abbrev pub BeginsWord : List ℕ → List ℕ → Type 0
BeginsWord line rest = words_of_line line ≡ take (part_end is_blank rest) rest ∷ words_of_line (drop (part_end is_blank rest) rest)

word-here : (b : ℕ) (bytes : List ℕ) → is_blank b ≡ false → BeginsWord (b ∷ bytes) (b ∷ bytes)
word-here b bytes e =
    let n = part_end is_blank (b ∷ bytes) in
    let some : 0 < length (take n (b ∷ bytes)) =
    subst (λ k. 0 < length (take k (b ∷ bytes))) (sym (part-more is_blank b bytes e)) (omega arith) in
    ap (filter (begins (λ b. true))) (first-part is_blank (b ∷ bytes))
    ∙ filled-first (take n (b ∷ bytes)) (parts_after is_blank (drop n (b ∷ bytes))) some
    ∙ ap (λ more. take n (b ∷ bytes) ∷ more) (after-word (b ∷ bytes))

pub no-word : (line rest : List ℕ) → rest ≡ after_gap line → length rest ≡ 0 → words_of_line line ≡ []
no-word [] rest e h = refl
no-word (b ∷ line) rest e h = elim (cases_Bool (is_blank b)) [
  | inl t ↦ blank-first b line t ∙ no-word line rest (e ∙ gap-more b line t) h
  | inr t ↦ absurd (omega (arith, ap length (e ∙ gap-stops b line t)))
]

pub next-word-is : (line rest : List ℕ) → rest ≡ after_gap line → 0 < length rest → BeginsWord line rest
next-word-is [] rest e h = absurd (omega (arith, ap length e))
next-word-is (b ∷ line) rest e h = elim (cases_Bool (is_blank b)) [
  | inl t ↦ blank-first b line t ∙ next-word-is line rest (e ∙ gap-more b line t) h
  | inr t ↦ subst (λ xs. BeginsWord (b ∷ line) xs) (sym (e ∙ gap-stops b line t)) (word-here b line t)
]

-- a word has a byte at least, so less is left after it
pub shorter-after : (line rest : List ℕ) → rest ≡ after_gap line → 0 < length rest → 0 < part_end is_blank rest
shorter-after [] rest e h = absurd (omega (arith, ap length e))
shorter-after (b ∷ line) rest e h = elim (cases_Bool (is_blank b)) [
  | inl t ↦ shorter-after line rest (e ∙ gap-more b line t) h
  | inr t ↦ rw (e ∙ gap-stops b line t, part-more is_blank b line t) (omega arith)
]

pub ruleset next_words = (no-word)
