-- An expression in parentheses as a whole is a group, and its tokens between them are an expression; another one isn't.
use Rattle.pac_asm_operation.proofs.Common.{Bool, Indexed, IsTree, Lexeme, List, Mark, Memory, Name, None, Option, Some, Token, TokenKind}
use Rattle.pac_asm_operation.proofs.Common.{Tree, Value, [], and_parts, ap, arith, atom, closes, closing, common_steps, ends_closed}
use Rattle.pac_asm_operation.proofs.Common.{expression_in, expression_operand, false, false≢true, group, here, if◌then◌else◌}
use Rattle.pac_asm_operation.proofs.Common.{indirect_operand, inside_parentheses, is_reserved_token, is_sign, is_some, kind_mark, length}
use Rattle.pac_asm_operation.proofs.Common.{list_any, marks_of, opening, opens, option_map, or_parts, refl, reserves, rules, slice_get}
use Rattle.pac_asm_operation.proofs.Common.{spelling, sym, take, tree-of-spelling, tree_in, tree_of, tree_of_tokens, tree_within, true}
use Rattle.pac_asm_operation.proofs.Common.{unwrap_or, views, ℕ, ◌&&◌, ◌++◌, ◌-◌, ◌||◌, ◌∙◌, ◌∷◌, ◌≡◌}
use Rattle.pac_lex.specs.declared.token.TokenKind.TheVariants as kinds

-- ---- the last token

abbrev pub front : List Lexeme → List Lexeme
front tokens = take (length tokens - 1) tokens

pub ends-last : (inner : List Lexeme) (last : Lexeme) → ends_closed (inner ++ last ∷ []) ≡ closes last.kind
ends-last (x ∷ y ∷ inner) last = ends-last (y ∷ inner) last
ends-last inner last = refl

front-more : (x y : Lexeme) (rest : List Lexeme) → front (x ∷ y ∷ rest) ≡ x ∷ front (y ∷ rest)
front-more x y rest = search rules

pub closed-front : (inner : List Lexeme) (last : Lexeme) →
    (if ends_closed (inner ++ last ∷ []) then Some (front (inner ++ last ∷ [])) else None) ≡ (if closes last.kind then Some inner else None)
closed-front inner last = grind (arith, ends-last, common_steps)

-- ---- parentheses as marks

opens-mark : (kind : TokenKind) (text : List ℕ) → opens kind ≡ true → kind_mark kind text ≡ opening
opens-mark kinds.Open text is = refl
opens-mark _ text is = absurd (false≢true is)

closes-mark : (kind : TokenKind) (text : List ℕ) → closes kind ≡ true → kind_mark kind text ≡ closing
closes-mark kind text is = search rules

mark-opens : (kind : TokenKind) (text : List ℕ) → kind_mark kind text ≡ opening → opens kind ≡ true
mark-opens kind text is = search rules

open-free : (kind : TokenKind) (text : List ℕ) → opens kind ≡ true → reserves kind text ≡ false
open-free kinds.Open text is = refl
open-free _ text is = absurd (false≢true is)

close-free : (kind : TokenKind) (text : List ℕ) → closes kind ≡ true → reserves kind text ≡ false
close-free kind text is = search rules

closed-marks : (rest : List Lexeme) → ends_closed rest ≡ true → marks_of rest ≡ marks_of (front rest) ++ closing ∷ []
closed-marks [] is = absurd (false≢true is)
closed-marks (x ∷ []) is = ap (λ (m : Mark). m ∷ []) (closes-mark x.kind x.text is)
closed-marks (x ∷ y ∷ rest) is = cc (closed-marks (y ∷ rest) is, front-more x y rest)

closed-free : (rest : List Lexeme) → ends_closed rest ≡ true → list_any is_reserved_token rest ≡ list_any is_reserved_token (front rest)
closed-free [] is = absurd (false≢true is)
closed-free (x ∷ []) is = ap (λ b. b || false) (close-free x.kind x.text is)
closed-free (x ∷ y ∷ rest) is = cc (closed-free (y ∷ rest) is, front-more x y rest)

pub record ClosedBy (rest : List Lexeme) (inner : List Mark) : Type 0 where
  pub ends : ends_closed rest ≡ true
  pub marks : marks_of (front rest) ≡ inner

closed-by : (rest : List Lexeme) (inner : List Mark) → marks_of rest ≡ inner ++ closing ∷ [] → ClosedBy rest inner
closed-by [] (m ∷ inner) is = absurd (cc)
closed-by (x ∷ []) [] is = search rules
closed-by (x ∷ []) (m ∷ n ∷ inner) is = absurd (cc)
closed-by (x ∷ y ∷ rest) (m ∷ inner) is =
    let first : kind_mark x.kind x.text ≡ m = cc in
    let others : marks_of (y ∷ rest) ≡ inner ++ closing ∷ [] = cc in
    let more = closed-by (y ∷ rest) inner others in grind (arith, front-more)
closed-by rest inner is = absurd (cc)

-- ---- groups

group-tree : (ms : List Mark) (t : Tree) → tree_of ms ≡ Some t → tree_of (opening ∷ (ms ++ closing ∷ [])) ≡ Some (group t)
group-tree ms t is =
    let spelled = (tree-of-spelling ms t).0 is in
    (tree-of-spelling (opening ∷ (ms ++ closing ∷ [])) (group t)).1
    (spelled.0, ap (λ (xs : List Mark). opening ∷ (xs ++ closing ∷ [])) spelled.1)

inner-tree : (t : Tree) (ms : List Mark) → tree_of ms ≡ Some (group t) →
    (ms ≡ opening ∷ (spelling t ++ closing ∷ [])) × (tree_of (spelling t) ≡ Some t)
inner-tree t ms is =
    let spelled = (tree-of-spelling ms (group t)).0 is in
    (spelled.1, (tree-of-spelling (spelling t) t).1 (spelled.0, refl))

-- an expression has no reserved name, and is the tree of its tokens
free-parts : (b : Bool) (o : Option Tree) (t : Tree) → (if b then None else o) ≡ Some t → (b ≡ false) × (o ≡ Some t)
free-parts b o t is = search rules

pub expression-parts : (tokens : List Lexeme) (t : Tree) → expression_in tokens ≡ Some t →
    (list_any is_reserved_token tokens ≡ false) × (tree_of (marks_of tokens) ≡ Some t)
unfolding expression_in tree_in
expression-parts tokens t is = free-parts (list_any is_reserved_token tokens) (tree_of (marks_of tokens)) t is

expression-from : (tokens : List Lexeme) (t : Tree) → list_any is_reserved_token tokens ≡ false → tree_of (marks_of tokens) ≡ Some t →
    expression_in tokens ≡ Some t
unfolding expression_in tree_in
expression-from tokens t free is = ap (λ (b : Bool). if b then None else tree_of (marks_of tokens)) free ∙ is

group-expression : (first : Lexeme) (rest : List Lexeme) (t : Tree) → opens first.kind ≡ true → ends_closed rest ≡ true →
    expression_in (front rest) ≡ Some t → expression_in (first ∷ rest) ≡ Some (group t)
group-expression first rest t opened closed is =
    let parts = expression-parts (front rest) t is in
    expression-from (first ∷ rest) (group t)
    (ap (λ b. b || list_any is_reserved_token rest) (open-free first.kind first.text opened) ∙ closed-free rest closed ∙ parts.0)
    (grind (arith, closed-marks, group-tree))

-- ---- operands by their expression

pub memory-found : (tokens inner : List Lexeme) (t : Tree) → inside_parentheses tokens ≡ Some inner → expression_in inner ≡ Some t →
    expression_operand tokens ≡ Some (Memory t)
memory-found tokens inner t stands is = grind (arith, and_parts, group-expression)

no-group : (tokens : List Lexeme) (t : Tree) → expression_in tokens ≡ Some (group t) →
    ((inner : List Lexeme) → inside_parentheses tokens ≡ Some inner → is_some (expression_in inner) ≡ false) → ⊥
no-group [] t is none =
    let wrong : [] ≡ opening ∷ (spelling t ++ closing ∷ []) = (inner-tree t [] (expression-parts [] (group t) is).1).0 in
    absurd (cc)
no-group (first ∷ rest) t is none =
    let parts = expression-parts (first ∷ rest) (group t) is in
    let inside = inner-tree t (marks_of (first ∷ rest)) parts.1 in
    let one : kind_mark first.kind first.text ≡ opening = cc in
    let others : marks_of rest ≡ spelling t ++ closing ∷ [] = cc in
    let closed = closed-by rest (spelling t) others in
    let opened = mark-opens first.kind first.text one in
    let stands : inside_parentheses (first ∷ rest) ≡ Some (front rest) =
    ap (λ (b : Bool). if b then Some (front rest) else None) (ap (λ b. b && ends_closed rest) opened ∙ closed.ends) in
    let inner =
    expression-from (front rest) t
    (sym (closed-free rest closed.ends) ∙ (or_parts (is_reserved_token first) (list_any is_reserved_token rest) parts.0).1)
    (ap tree_of closed.marks ∙ inside.1) in
    let wrong : true ≡ false = sym (ap is_some inner) ∙ none (front rest) stands in absurd (cc)

pub value-found : (tokens : List Lexeme) (t : Tree) → expression_in tokens ≡ Some t →
    ((inner : List Lexeme) → inside_parentheses tokens ≡ Some inner → is_some (expression_in inner) ≡ false) →
    expression_operand tokens ≡ Some (Value t)
value-found tokens t is none = grind (arith, no-group)

-- ---- trees of tokens

some-within : (o : Option Tree) (d : Tree) → is_some o ≡ true → o ≡ Some (unwrap_or o d)
some-within o d is = search rules

pub is-tree : (tokens : List Token) → is_some (expression_in (views tokens)) ≡ true → IsTree tokens
unfolding tree_of_tokens
is-tree tokens is = some-within (expression_in (views tokens)) (atom here) is

pub none-inside : (tokens inner : List Lexeme) → Some inner ≡ inside_parentheses tokens → false ≡ is_some (expression_in inner) →
    (other : List Lexeme) → inside_parentheses tokens ≡ Some other → is_some (expression_in other) ≡ false
none-inside tokens inner stands none other also = search rules

pub none-between : (tokens : List Lexeme) → None ≡ inside_parentheses tokens →
    (other : List Lexeme) → inside_parentheses tokens ≡ Some other → is_some (expression_in other) ≡ false
none-between tokens none other also = let both : None ≡ Some other = none ∙ also in absurd (cc)

pub displaced-found : (name : Name) (tokens : List Token) (first : Token) → Some first ≡ slice_get tokens 0 → is_sign first.kind ≡ true →
    IsTree tokens → indirect_operand name (views tokens) ≡ Some (Indexed name (tree_within tokens))
displaced-found name [] first is sign known = absurd (cc)
displaced-found name (x ∷ rest) first is sign known = search rules

-- the value of an expression of the source is that of its tree
pub known-tree : (tokens : List Token) → IsTree tokens → tree_in (views tokens) ≡ Some (tree_within tokens)
unfolding tree_in
known-tree tokens known = (expression-parts (views tokens) (tree_within tokens) known).1

pub answer-is : {A : Type 0} (f : Tree → A) (found : Option Tree) (t : Tree) (answer : A) → Some answer ≡ option_map f found
    → found ≡ Some t → answer ≡ f t
answer-is f found t answer is stands = search rules

pub answer-stands : {A : Type 0} (f : Tree → A) (found : Option Tree) (t : Tree) → None ≡ option_map f found → found ≡ Some t → ⊥
answer-stands f found t is stands = search rules

pub ruleset displacements = (displaced-found, is-tree)
