-- A line is read as the tokens that it is made of, and refused at the fault that it has: token by token, and as a whole.
use Rattle.pac_lex.proofs.Common.{Err, FoundToken, IsToken, IsTokenFault, List, None, Ok, Option, Some, TokenKind, [], add-one, and_parts}
use Rattle.pac_lex.proofs.Common.{ap, arith, begins, cases_Bool, closing_length, common_steps, drop, eqb-true, false, flat_map, inl, inr}
use Rattle.pac_lex.proofs.Common.{is_af, is_ascii_alphanumeric, is_ascii_digit, is_name_byte, is_name_start, is_printable, is_quote}
use Rattle.pac_lex.proofs.Common.{list_all, list_all-prefix, name_token_at, none-some, number_token_at, numeral, numeral_token}
use Rattle.pac_lex.proofs.Common.{one_byte_kind, one_byte_token, prefix_len, quoted_character, quoted_text, quoted_token, refl, rules, suc}
use Rattle.pac_lex.proofs.Common.{sym, take, take-append-drop, text_token_at, token_at, true, true≢false, zero, ℕ, ◌&&◌, ◌++◌, ◌<◌, ◌∙◌}
use Rattle.pac_lex.proofs.Common.{◌∷◌, ◌≡◌, AlternateAf, Bool, LexFault, LongLine, Name, NoToken, Number, OpenText, Text, WrongNumber}
use Rattle.pac_lex.proofs.Common.{append_assoc, begins_nothing, cond, cond-false, cond-true, drop_at, eqb, length, length-append}
use Rattle.pac_lex.proofs.Common.{none-or-some, take_at, ◌+◌, ◌||◌, Breaks, HasLexFault, IsRead, Lexeme, ReadsTokens, TokenFirst, after_gap}
use Rattle.pac_lex.proofs.Common.{cases_lt, cut_token, is_blank, is_comment_start, is_end, le-ltb, length-drop, lt-ltb, not, scan, subst}
use Rattle.pac_lex.proofs.Common.{token_before, tokens_of, ◌≤◌, ◌⊎◌, IfErr, IfOk, LexError, LexingGives, OnLexFault, Result, Token, Vec}
use Rattle.pac_lex.proofs.Common.{views, EachLineHasOneReading, TextsHaveTheirCharacters, one_character}
use Rattle.pac_lex.proofs.Prefixes.{begins-after, begins-take, prefix-of-all}
use Rattle.pac_lex.proofs.ByteLemmas.{Starts, is_mark, symbol-is-mark, digit-no-start, digit-no-blank, digit-no-comment, start-no-blank}
use Rattle.pac_lex.proofs.ByteLemmas.{start-no-comment}
use Rattle.pac_lex.proofs.NameLemmas.{name-has-bytes, number-has-bytes}
use Rattle.pac_lex.proofs.TextLaws.{Closes, closing-is, closing-again, printable-quoted, characters-again}
use Rattle.pac_lex.proofs.ScanLemmas.{AfterGap, gap-skipped, next-none, next-fault, next-some}

-- ---- what is found where the bytes begin is a token or a fault there

-- a token found, as one that the bytes begin with
pub record IsFound (bytes : List ℕ) (kind : TokenKind) (len : ℕ) : Type 0 where
  pub some : 0 < len
  pub is_token : IsToken kind (take len bytes) (drop len bytes)

abbrev pub Tells : List ℕ → FoundToken → Type 0
Tells bytes (Ok found) = IsFound bytes found.0 found.1
Tells bytes (Err fault) = IsTokenFault fault bytes

take-quote : (n : ℕ) (bytes : List ℕ) → begins is_quote (drop n bytes) ≡ true → take (suc n) bytes ≡ take n bytes ++ 39 ∷ []
take-quote zero [] e = absurd cc
take-quote zero (b ∷ bytes) e = ap (λ (x : ℕ). x ∷ []) (eqb-true b 39 e)
take-quote (suc n) [] e = absurd cc
take-quote (suc n) (b ∷ bytes) e = ap (λ (xs : List ℕ). b ∷ xs) (take-quote n bytes e)

name-tells : (bytes : List ℕ) → begins is_name_start bytes ≡ true → Tells bytes (Ok (name_token_at bytes))
unfolding name_token_at
name-tells bytes start =
    let n = prefix_len is_name_byte bytes in
    let some : 0 < n = name-has-bytes bytes start in
    elim (cases_Bool (is_af (take n bytes) && begins is_quote (drop n bytes))) [
      | inl t ↦
          let both = and_parts (is_af (take n bytes)) (begins is_quote (drop n bytes)) t in
          rw t (record { some = omega arith; is_token = (take n bytes, both.0, rw add-one (take-quote n bytes both.1)) })
      | inr t ↦
          let first = begins-take is_name_start n bytes some ∙ start in
          rw t (record { some = some; is_token = (first, list_all-prefix is_name_byte bytes, begins-after is_name_byte bytes, t) })
    ]

number-tells : (bytes : List ℕ) → begins is_ascii_digit bytes ≡ true → Tells bytes (number_token_at bytes)
unfolding number_token_at
number-tells bytes start =
    let n = prefix_len is_ascii_alphanumeric bytes in
    let some : 0 < n = number-has-bytes bytes start in
    let first = begins-take is_ascii_digit n bytes some ∙ start in
    let all = list_all-prefix is_ascii_alphanumeric bytes in
    let stop = begins-after is_ascii_alphanumeric bytes in
    elim (numeral (take n bytes)) as (λ o. numeral (take n bytes) ≡ o → Tells bytes (numeral_token o n)) [
      | None ↦ λ none. (take n bytes, drop n bytes, sym (take-append-drop n bytes), first, all, stop, none)
      | Some v ↦ λ is. record { some = some; is_token = (first, all, stop, is) }
    ] refl

unclosed : (b : ℕ) (bytes : List ℕ) → closing_length bytes ≡ None → (characters rest : List ℕ) → b ∷ bytes ≡ quoted_text characters ++ rest
    → begins is_quote rest ≡ false → ⊥
unclosed b bytes e characters rest is stop =
    let tail : bytes ≡ flat_map quoted_character characters ++ (39 ∷ rest) = grind (arith, common_steps) in
    none-some _ (sym e ∙ ap closing_length tail ∙ closing-again characters rest stop)

-- a text that ends, with what follows it
pub closed-text : (b : ℕ) (bytes : List ℕ) (n : ℕ) → is_quote b ≡ true → (h : Closes bytes n) →
    b ∷ bytes ≡ quoted_text h.characters ++ drop n bytes
closed-text b bytes n q h =
    rw (← h.text, eqb-true b 39 q) (ap (λ (xs : List ℕ). 39 ∷ xs) (sym (take-append-drop n bytes)))

text-tells : (b : ℕ) (bytes : List ℕ) → is_quote b ≡ true → (o : Option ℕ) → closing_length bytes ≡ o
    → Tells (b ∷ bytes) (quoted_token o bytes)
text-tells b bytes q None is = (q, unclosed b bytes is)
text-tells b bytes q (Some n) is =
    let h = closing-is bytes n is in
    let same : list_all is_printable (take n bytes) ≡ list_all is_printable h.characters =
    ap (list_all is_printable) h.text ∙ printable-quoted h.characters in
    elim (cases_Bool (list_all is_printable (take n bytes))) [
      | inl p ↦ rw (p, add-one) (record {
        some = omega arith;
        is_token = (h.characters, rw (eqb-true b 39 q, h.text) refl, sym same ∙ p, h.stops);
      })
      | inr p ↦ rw p (inr (h.characters, drop n bytes, closed-text b bytes n q h, h.stops, sym same ∙ p))
    ]

symbol-is : (kind : TokenKind) (b : ℕ) (rest : List ℕ) → is_mark kind ≡ true → one_byte_kind b ≡ Some kind → IsToken kind (b ∷ []) rest
symbol-is kind b rest m e = search rules

one-tells : (b : ℕ) (bytes : List ℕ) → Starts (b ∷ bytes) → is_name_start b ≡ false → is_ascii_digit b ≡ false → is_quote b ≡ false
    → (o : Option TokenKind) → one_byte_kind b ≡ o → Tells (b ∷ bytes) (one_byte_token o)
one-tells b bytes s name digit quote None is = inl (search rules)
one-tells b bytes s name digit quote (Some kind) is =
    record { some = omega arith; is_token = symbol-is kind b bytes (symbol-is-mark b kind is) is }

pub tells : (bytes : List ℕ) → Starts bytes → Tells bytes (token_at bytes)
unfolding token_at text_token_at
tells [] s = absurd (true≢false s.no_end)
tells (b ∷ bytes) s = elim (cases_Bool (is_name_start b)) [
  | inl e ↦ rw e (name-tells (b ∷ bytes) e)
  | inr e ↦ elim (cases_Bool (is_ascii_digit b)) [
    | inl d ↦ rw (e, d) (number-tells (b ∷ bytes) d)
    | inr d ↦ elim (cases_Bool (is_quote b)) [
      | inl q ↦ rw (e, d, q) (text-tells b bytes q _ refl)
      | inr q ↦ rw (e, d, q) (one-tells b bytes s e d q _ refl)
    ]
  ]
]

-- ---- what is a token or a fault where the bytes begin is found there

-- a token, as one that is found with whatever follows
pub record IsFoundAgain (kind : TokenKind) (text rest : List ℕ) : Type 0 where
  pub starts : Starts (text ++ rest)
  pub found : token_at (text ++ rest) ≡ Ok (kind, length text)
  pub some : 0 < length text

name-again : (text rest : List ℕ) → IsToken Name text rest → IsFoundAgain Name text rest
unfolding token_at name_token_at
name-again text rest h = grind (arith, start-no-blank, start-no-comment, drop_at, prefix-of-all, take_at, common_steps)

number-at : (text rest : List ℕ) → list_all is_ascii_alphanumeric text ≡ true → begins is_ascii_alphanumeric rest ≡ false
    → number_token_at (text ++ rest) ≡ numeral_token (numeral text) (length text)
unfolding number_token_at
number-at text rest all stop = rw (prefix-of-all is_ascii_alphanumeric text rest all stop, take_at text rest (length text) refl) refl

number-again : (n : ℕ) (text rest : List ℕ) → IsToken (Number n) text rest → IsFoundAgain (Number n) text rest
unfolding token_at
number-again n [] rest h = absurd cc
number-again n (b ∷ text) rest (start, all, stop, is) = record {
  starts = record { no_blank = digit-no-blank b start; no_end = digit-no-comment b start };
  found = rw (digit-no-start b start, start) (number-at (b ∷ text) rest all stop ∙ ap (λ o. numeral_token o (length (b ∷ text))) is);
  some = omega arith;
}

text-at-closed : (characters rest : List ℕ) → begins is_quote rest ≡ false
    → text_token_at ((flat_map quoted_character characters ++ 39 ∷ []) ++ rest)
    ≡ cond (list_all is_printable characters) (Ok (Text, length (quoted_text characters))) (Err NoToken)
unfolding text_token_at
text-at-closed characters rest stop =
    let inside = flat_map quoted_character characters ++ 39 ∷ [] in
    let len : length inside ≡ length (flat_map quoted_character characters) + 1 =
    length-append (flat_map quoted_character characters) (39 ∷ []) in
    let ends : closing_length (inside ++ rest) ≡ Some (length inside) =
    rw (append_assoc (flat_map quoted_character characters) (39 ∷ []) rest, len) (closing-again characters rest stop) in
    rw (ends, take_at inside rest (length inside) refl, printable-quoted characters, add-one) refl

text-again : (text rest : List ℕ) → IsToken Text text rest → IsFoundAgain Text text rest
unfolding token_at
text-again text rest (characters, is, all, stop) = grind (arith, cond-true, text-at-closed)

-- a byte in either case
either-case : (b c d : ℕ) (p : ℕ → Bool) → (eqb b c || eqb b d) ≡ true → p c ≡ true → p d ≡ true → p b ≡ true
either-case b c d p e f g = search rules

af-again : (name rest : List ℕ) → is_af name ≡ true → IsFoundAgain AlternateAf (name ++ 39 ∷ []) rest
unfolding token_at name_token_at
af-again name rest e = search (rules, and_parts, either-case, start-no-blank, start-no-comment)

mark-again : (kind : TokenKind) (b : ℕ) (rest : List ℕ) → one_byte_kind b ≡ Some kind → IsFoundAgain kind (b ∷ []) rest
unfolding token_at
mark-again kind b rest e = search rules

marks-again : (kind : TokenKind) (text rest : List ℕ) → (b : ℕ) × (one_byte_kind b ≡ Some kind) × (text ≡ b ∷ []) →
    IsFoundAgain kind text rest
marks-again kind text rest (b, e, is) = rw is (mark-again kind b rest e)

pub token-again : (kind : TokenKind) (text rest : List ℕ) → IsToken kind text rest → IsFoundAgain kind text rest
token-again Name text rest h = name-again text rest h
token-again (Number n) text rest h = number-again n text rest h
token-again Text text rest h = text-again text rest h
token-again AlternateAf text rest (name, e, is) = rw is (af-again name rest e)
token-again kind text rest h = marks-again kind text rest h

-- a fault, as one that is told
pub record IsTold (fault : LexFault) (bytes : List ℕ) : Type 0 where
  pub starts : Starts bytes
  pub told : token_at bytes ≡ Err fault

nothing-told : (b : ℕ) (bytes : List ℕ) → begins_nothing b ≡ true → IsTold NoToken (b ∷ bytes)
unfolding token_at
nothing-told b bytes e = search rules

text-told : (characters rest : List ℕ) → list_all is_printable characters ≡ false → begins is_quote rest ≡ false
    → IsTold NoToken (quoted_text characters ++ rest)
unfolding token_at
text-told characters rest all stop = grind (arith, cond-false, text-at-closed)

number-told : (run rest : List ℕ) → begins is_ascii_digit run ≡ true → list_all is_ascii_alphanumeric run ≡ true
    → begins is_ascii_alphanumeric rest ≡ false → numeral run ≡ None → IsTold WrongNumber (run ++ rest)
unfolding token_at
number-told run rest start all stop is = grind (arith, digit-no-blank, digit-no-comment, digit-no-start, number-at)

open-told : (b : ℕ) (bytes : List ℕ) → is_quote b ≡ true
    → ((characters rest : List ℕ) → b ∷ bytes ≡ quoted_text characters ++ rest → begins is_quote rest ≡ false → ⊥) →
    IsTold OpenText (b ∷ bytes)
unfolding token_at text_token_at
open-told b bytes q never =
    let none : closing_length bytes ≡ None = elim (none-or-some (closing_length bytes)) [
      | inl is ↦ is
      | inr (n, is) ↦
          let h = closing-is bytes n is in
          absurd (never h.characters (drop n bytes) (closed-text b bytes n q h) h.stops)
    ] in
    rw (eqb-true b 39 q) record { starts = record { no_blank = refl; no_end = refl }; told = rw none refl }

pub fault-again : (bytes : List ℕ) (fault : LexFault) → IsTokenFault fault bytes → IsTold fault bytes
fault-again [] NoToken (inl e) = absurd cc
fault-again (b ∷ bytes) NoToken (inl e) = nothing-told b bytes e
fault-again bytes NoToken (inr (characters, rest, is, stop, all)) = rw is (text-told characters rest all stop)
fault-again bytes WrongNumber (run, rest, parts, start, all, stop, is) = rw parts (number-told run rest start all stop is)
fault-again [] OpenText h = absurd cc
fault-again (b ∷ bytes) OpenText (q, never) = open-told b bytes q never
fault-again bytes LongLine h = absurd h

-- ---- a line is read as the tokens that it is made of, and refused at the fault that it has

-- what a line is read as, by what stands after its blanks
reads : (line : List ℕ) → AfterGap line (after_gap line)
reads line = gap-skipped line (after_gap line) refl

-- ---- what is so is read

comment-stops : (comment : List ℕ) → begins (λ b. not (is_comment_start b)) comment ≡ false → is_end comment ≡ true
comment-stops comment e = search rules

nothing-again : (line : List ℕ) → ReadsTokens line [] → scan 0 line ≡ Ok []
nothing-again line h = next-none line (after_gap line) (reads line) (comment-stops (after_gap line) h)

first-again : (line : List ℕ) (token : Lexeme) (rest : List ℕ) → TokenFirst line token rest → scan 0 line ≡ token_before token (scan 0 rest)
first-again line token rest h =
    let found = token-again token.kind token.text rest h.is_token in
    let text = token.text in
    next-some line (text ++ rest) token.kind (length text) (gap-skipped line (text ++ rest) (sym h.parts)) found.starts.no_end found.found
    found.some
    ∙ rw (take_at text rest (length text) refl, drop_at text rest (length text) refl) refl

scan-again : (line : List ℕ) (tokens : List Lexeme) → ReadsTokens line tokens → scan 0 line ≡ Ok tokens
scan-again line [] h = nothing-again line h
scan-again line (token ∷ tokens) (rest, first, more) = cc (first-again line token rest first, scan-again rest tokens more)

break-again : (line : List ℕ) (tokens : List Lexeme) (fault : LexFault) → Breaks line tokens fault → scan 0 line ≡ Err fault
break-again line [] fault h = search (rules, fault-again, next-fault, reads)
break-again line (token ∷ tokens) fault (rest, first, more) = cc (first-again line token rest first, break-again rest tokens fault more)

-- ---- each line is read or breaks

end-is-comment : (rest : List ℕ) → is_end rest ≡ true → begins (λ b. not (is_comment_start b)) rest ≡ false
end-is-comment rest e = search rules

some-left : (rest : List ℕ) → is_end rest ≡ false → 0 < length rest
some-left rest e = search rules

abbrev IsEither : List ℕ → Type 0
IsEither line =
    ((tokens : List Lexeme) × ReadsTokens line tokens) ⊎ ((tokens : List Lexeme) × (fault : LexFault) × Breaks line tokens fault)

by-first : (line : List ℕ) → ((rest : List ℕ) → length rest < length line → IsEither rest) → is_end (after_gap line) ≡ false
    → (found : FoundToken) → Tells (after_gap line) found → IsEither line
by-first line below more (Err fault) h = inr ([], fault, h)
by-first line below more (Ok (kind, len)) h =
    let text = after_gap line in
    let rest = drop len text in
    let first : TokenFirst line (cut_token kind len text) rest =
    record { parts = sym (take-append-drop len text); is_token = h.is_token } in
    elim (below rest (omega (arith, some-left text more, length-drop len text, length-drop (prefix_len is_blank line) line, h.some))) [
      | inl (tokens, made) ↦ inl (cut_token kind len text ∷ tokens, (rest, first, made))
      | inr (tokens, fault, breaks) ↦ inr (cut_token kind len text ∷ tokens, fault, (rest, first, breaks))
    ]

is-either : (n : ℕ) (line : List ℕ) → length line < n → IsEither line
is-either zero line small = absurd (omega arith)
is-either (suc n) line small = let rest = after_gap line in elim (cases_Bool (is_end rest)) [
  | inl e ↦ inl ([], end-is-comment rest e)
  | inr e ↦
      by-first line (λ rest shorter. is-either n rest (omega (arith, shorter))) e (token_at rest)
      (tells rest (record { no_blank = begins-after is_blank line; no_end = e }))
]

-- ---- the whole line

pub read-again : (line : List ℕ) (tokens : List Lexeme) → IsRead line tokens → tokens_of line ≡ Ok tokens
unfolding tokens_of
read-again line tokens h = rw (le-ltb 255 (length line) h.0) (scan-again line tokens h.1)

found-in : (line : List ℕ) (tokens : List Lexeme) (f : LexFault) → length line ≤ 255 → Breaks line tokens f → tokens_of line ≡ Err f
unfolding tokens_of
found-in line tokens f short h = rw (le-ltb 255 (length line) short) (break-again line tokens f h)

pub fault-found : (line : List ℕ) (f : LexFault) → HasLexFault line f → tokens_of line ≡ Err f
unfolding tokens_of
fault-found line f h = grind (arith, found-in, lt-ltb)

has-fault : (line : List ℕ) (tokens : List Lexeme) (f : LexFault) → length line ≤ 255 → Breaks line tokens f → HasLexFault line f
has-fault line tokens LongLine short h = absurd (never line tokens h)
  where
    never : (xs : List ℕ) (ts : List Lexeme) → Breaks xs ts LongLine → ⊥
    never xs [] g = g
    never xs (t ∷ ts) (rest, first, more) = never rest ts more
has-fault line tokens fault short h = (short, tokens, h)

whole : (line : List ℕ) → ((tokens : List Lexeme) × IsRead line tokens) ⊎ ((fault : LexFault) × HasLexFault line fault)
whole line = elim (cases_lt 255 (length line)) [
  | inl long ↦ inr (LongLine, long)
  | inr short ↦ elim (is-either (suc (length line)) line (omega arith)) [
    | inl (tokens, made) ↦ inl (tokens, (short, made))
    | inr (tokens, fault, breaks) ↦ inr (fault, has-fault line tokens fault short breaks)
  ]
]

pub tokens-read : (line : List ℕ) (tokens : List Lexeme) → tokens_of line ≡ Ok tokens → IsRead line tokens
tokens-read line tokens e = elim (whole line) [
  | inl (others, is) ↦ subst (IsRead line) (cc (read-again line others is, e)) is
  | inr (fault, has) ↦ absurd (cc (fault-found line fault has, e))
]

pub fault-told : (line : List ℕ) (fault : LexFault) → tokens_of line ≡ Err fault → HasLexFault line fault
fault-told line fault e = elim (whole line) [
  | inl (tokens, is) ↦ absurd (cc (read-again line tokens is, e))
  | inr (other, has) ↦ subst (HasLexFault line) (cc (fault-found line other has, e)) has
]

-- ---- what the answer of a call says of its line

pub is-read : {A : Type 0} (line : List ℕ) (answer : Result (Vec Token A) LexError)
    → LexingGives (λ v. views v.items) answer (tokens_of line) → IfOk answer (λ v. IsRead line (views v.items))
is-read line answer e = grind (arith, tokens-read)

pub is-fault : {A : Type 0} (line : List ℕ) (answer : Result (Vec Token A) LexError)
    → LexingGives (λ v. views v.items) answer (tokens_of line) → IfErr answer (λ e. OnLexFault e (HasLexFault line))
is-fault line answer e = grind (arith, fault-told)

-- ---- one answer is right for each line, and a text has the characters with which it is written

pub one-reading : EachLineHasOneReading
one-reading line answer = grind (arith, fault-found, fault-told, read-again, tokens-read)

one-is : (text : List ℕ) (d : ℕ) → one_character text ≡ Some d → text ≡ quoted_text (d ∷ [])
one-is text d e = search rules

one-again : (text : List ℕ) (c : ℕ) → text ≡ quoted_text (c ∷ []) → one_character text ≡ Some c
one-again text c e = search rules

pub texts-again : TextsHaveTheirCharacters
texts-again = search (rules, characters-again, one-again, one-is)
