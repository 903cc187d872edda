-- A tree is found exactly where its tokens spell one: what is found is ranked and spelled so, and each ranked tree is found again.
use Rattle.pac_expr.proofs.Common.{Bool, List, Mark, None, Option, ParseState, Some, Tree, Waiting, [], arith, closed_group, closing}
use Rattle.pac_expr.proofs.Common.{completed_tree, cond, ends_expression, false, finished_tree, is_some, nat_le, needs}
use Rattle.pac_expr.proofs.Common.{next_shape, open_parentheses, option_map, parenthesis, refl, rules, settled_operand, shape_of}
use Rattle.pac_expr.proofs.Common.{state_after_mark, sum_rank, tree_of, tree_onward, waiting_rank, whole_tree, ℕ, ◌==◌, ◌∷◌, ◌≡◌, ◌≤◌, Add}
use Rattle.pac_expr.proofs.Common.{Divide, IfSome, IsRanked, Multiply, Operator, Subtract, ap, append-nil, append_assoc, arithmetic}
use Rattle.pac_expr.proofs.Common.{common_steps, highest_rank, left, opening, rank_of_operator, sign, sign_mark, spelling, stands}
use Rattle.pac_expr.proofs.Common.{state_after_operator, sym, ◌++◌, ◌<◌, ◌∙◌, HasValue, IsExpression, Sign, Token, ValueResult, atom, group}
use Rattle.pac_expr.proofs.Common.{joined, le-leb, signed, token_marks, tree_value, ℤ, ◌-◌, ◌↔◌, Atom, BeginsNoTree, BeginsWithTree}
use Rattle.pac_expr.proofs.Common.{EndsTree, MatchOption, ap₂, atom_in, atom_value, eqb-true, joined_value, length, sign_value, single}
use Rattle.pac_expr.proofs.Common.{true}
use Rattle.pac_expr.specs.declared.expr.Sign.TheVariants as signs

-- ---- whether there is a tree, by what is left of a state without its trees

-- settling leaves the open parentheses
keeps-if : (b : Bool) (n : ℕ) (t : Tree) (w : Waiting) (waiting : List Waiting) (s : Tree × List Waiting) → nat_le (waiting_rank w) n ≡ b
    → n ≤ sum_rank → open_parentheses s.1 ≡ open_parentheses waiting →
    open_parentheses (cond b s (t, w ∷ waiting)).1 ≡ open_parentheses (w ∷ waiting)
keeps-if b n t w waiting s is low e = search rules

settled-keeps : (n : ℕ) (t : Tree) (waiting : List Waiting) → n ≤ sum_rank →
    open_parentheses (settled_operand n t waiting).1 ≡ open_parentheses waiting
settled-keeps n t [] low = refl
settled-keeps n t (w ∷ waiting) low =
    keeps-if (nat_le (waiting_rank w) n) n t w waiting (settled_operand n (completed_tree w t) waiting) refl low
    (settled-keeps n (completed_tree w t) waiting low)

-- what a whole sum leaves: nothing, or an open parenthesis first
abbrev Stops : List Waiting → Type 0
Stops [] = Unit {0}
Stops (parenthesis ∷ waiting) = Unit {0}
Stops (w ∷ waiting) = ⊥

stops-if : (b : Bool) (t : Tree) (w : Waiting) (waiting : List Waiting) (s : Tree × List Waiting) → nat_le (waiting_rank w) sum_rank ≡ b
    → Stops s.1 → Stops (cond b s (t, w ∷ waiting)).1
stops-if b t w waiting s is h = search rules

settled-stops : (t : Tree) (waiting : List Waiting) → Stops (settled_operand sum_rank t waiting).1
settled-stops t [] = tt
settled-stops t (w ∷ waiting) =
    stops-if (nat_le (waiting_rank w) sum_rank) t w waiting (settled_operand sum_rank (completed_tree w t) waiting) refl
    (settled-stops (completed_tree w t) waiting)

next-shape : (s : ParseState) (m : Mark) → option_map shape_of (state_after_mark s m) ≡ next_shape (shape_of s) m
next-shape s m = grind (arith, settled-keeps, settled-stops)

finished-shape : (s : ParseState) → is_some (finished_tree s) ≡ ends_expression (Some (shape_of s)) []
finished-shape s = grind (arith, settled-keeps, settled-stops)

onward-shape : (o : Option ParseState) (ms : List Mark) → is_some (tree_onward o ms) ≡ ends_expression (option_map shape_of o) ms
onward-shape None ms = refl
onward-shape (Some s) [] = finished-shape s
onward-shape (Some s) (m ∷ ms) = cc (onward-shape (state_after_mark s m) ms, next-shape s m)

pub tree-shape : (ms : List Mark) → is_some (tree_of ms) ≡ ends_expression (Some (false, 0)) ms
unfolding tree_of
tree-shape ms = onward-shape (Some (needs [])) ms

-- ---- what the tokens taken so far spell: a tree that is found is ranked, and the tokens are its

-- the tokens that it was read from
abbrev own_marks : Waiting → List Mark
own_marks (sign s) = sign_mark s ∷ []
own_marks (left operator l) = spelling l ++ arithmetic operator ∷ []
own_marks parenthesis = opening ∷ []

abbrev waiting_marks : List Waiting → List Mark
waiting_marks [] = []
waiting_marks (w ∷ waiting) = waiting_marks waiting ++ own_marks w

abbrev Fits : List Waiting → Type 0
Fits [] = Unit {0}
Fits (sign s ∷ waiting) = Fits waiting
Fits (left operator l ∷ waiting) = IsRanked (rank_of_operator operator) l × (rank_of_operator operator ≤ highest_rank waiting)
    × Fits waiting
Fits (parenthesis ∷ waiting) = Fits waiting

-- ---- an operand that completes what waits

record Settles (n : ℕ) (t : Tree) (waiting : List Waiting) (s : Tree × List Waiting) : Type 0 where
  spells : waiting_marks s.1 ++ spelling s.0 ≡ waiting_marks waiting ++ spelling t
  fits : Fits s.1
  ranked : IsRanked n s.0
  low : n ≤ highest_rank s.1

-- what an operand completes is ranked as its operator, and fits where that did
record Completes (n : ℕ) (t : Tree) (w : Waiting) (waiting : List Waiting) : Type 0 where
  fits : Fits waiting
  ranked : IsRanked n (completed_tree w t)
  roomy : IsRanked (highest_rank waiting) (completed_tree w t)
  spells : own_marks w ++ spelling t ≡ spelling (completed_tree w t)

completes : (n : ℕ) (t : Tree) (w : Waiting) (waiting : List Waiting) → n ≤ sum_rank → Fits (w ∷ waiting)
    → IsRanked (highest_rank (w ∷ waiting)) t → waiting_rank w ≤ n → Completes n t w waiting
completes n t w waiting most fits r low = grind (arith, common_steps)

above : (n : ℕ) (w : Waiting) (waiting : List Waiting) → n ≤ sum_rank → n < waiting_rank w → n ≤ highest_rank (w ∷ waiting)
above n w waiting most high = search rules

more-settled : (n : ℕ) (t : Tree) (w : Waiting) (waiting : List Waiting) (s : Tree × List Waiting) → Completes n t w waiting
    → Settles n (completed_tree w t) waiting s → Settles n t (w ∷ waiting) s
more-settled n t w waiting s h more = grind (arith, common_steps)

by-test : (b : Bool) (n : ℕ) (t : Tree) (w : Waiting) (waiting : List Waiting) (s : Tree × List Waiting) → nat_le (waiting_rank w) n ≡ b
    → (waiting_rank w ≤ n → Settles n t (w ∷ waiting) s) → (n < waiting_rank w → Settles n t (w ∷ waiting) (t, w ∷ waiting))
    → Settles n t (w ∷ waiting) (cond b s (t, w ∷ waiting))
by-test b n t w waiting s e more here = search rules

settles : (n : ℕ) (t : Tree) (waiting : List Waiting) → n ≤ sum_rank → Fits waiting → IsRanked n t → IsRanked (highest_rank waiting) t
    → Settles n t waiting (settled_operand n t waiting)
settles n t [] most fits r s = record { spells = refl; fits = tt; ranked = r; low = most }
settles n t (w ∷ waiting) most fits r s =
    by-test (nat_le (waiting_rank w) n) n t w waiting (settled_operand n (completed_tree w t) waiting) refl
    (λ low. let h = completes n t w waiting most fits s low in
    more-settled n t w waiting (settled_operand n (completed_tree w t) waiting) h
    (settles n (completed_tree w t) waiting most h.fits h.ranked h.roomy))
    (λ high. record { spells = refl; fits = fits; ranked = r; low = above n w waiting most high })

-- ---- the tokens taken so far

abbrev Reads : ParseState → List Mark → Type 0
Reads (needs waiting) taken = Fits waiting × (waiting_marks waiting ≡ taken)
Reads (stands t waiting) taken = Fits waiting × ((n : ℕ) → IsRanked n t) × (waiting_marks waiting ++ spelling t ≡ taken)

one-more : (xs taken : List Mark) (m : Mark) → xs ≡ taken → xs ++ m ∷ [] ≡ taken ++ m ∷ []
one-more xs taken m e = ap (λ (ms : List Mark). ms ++ m ∷ []) e

operates : (operator : Operator) (t : Tree) (waiting : List Waiting) (taken : List Mark) → Reads (stands t waiting) taken
    → Reads (state_after_operator operator t waiting) (taken ++ arithmetic operator ∷ [])
operates operator t waiting taken (fits, ranked, e) =
    let s = settled_operand (rank_of_operator operator) t waiting in
    let h : Settles (rank_of_operator operator) t waiting s =
    settles (rank_of_operator operator) t waiting (low operator) fits (ranked (rank_of_operator operator))
    (ranked (highest_rank waiting)) in (
      (h.ranked, h.low, h.fits),
      sym (append_assoc (waiting_marks s.1) (spelling s.0) (arithmetic operator ∷ []))
          ∙ one-more (waiting_marks s.1 ++ spelling s.0) taken (arithmetic operator) (h.spells ∙ e),
    )
  where
    low : (o : Operator) → rank_of_operator o ≤ sum_rank
    low Add = omega arith
    low o = omega arith

closes : (t : Tree) (waiting : List Waiting) (taken : List Mark) → Fits waiting → IsRanked sum_rank t → sum_rank ≤ highest_rank waiting
    → waiting_marks waiting ++ spelling t ≡ taken → IfSome (closed_group (t, waiting)) (λ state. Reads state (taken ++ closing ∷ []))
closes t [] taken fits r low e = tt
closes t (sign s ∷ waiting) taken fits r low e = absurd (omega arith)
closes t (left Add l ∷ waiting) taken fits r low e = absurd (omega arith)
closes t (left Subtract l ∷ waiting) taken fits r low e = absurd (omega arith)
closes t (left Multiply l ∷ waiting) taken fits r low e = absurd (omega arith)
closes t (left Divide l ∷ waiting) taken fits r low e = absurd (omega arith)
closes t (parenthesis ∷ waiting) taken fits r low e = (
  fits,
  (λ n. r),
  sym (append_assoc (waiting_marks waiting) (opening ∷ spelling t) (closing ∷ []))
      ∙ one-more (waiting_marks waiting ++ (opening ∷ spelling t)) taken closing
      (sym (append_assoc (waiting_marks waiting) (opening ∷ []) (spelling t)) ∙ e),
)

reads-next : (state : ParseState) (m : Mark) (taken : List Mark) → Reads state taken
    → IfSome (state_after_mark state m) (λ after. Reads after (taken ++ m ∷ []))
reads-next state m taken h = grind (arith, closes, one-more, operates, settles)

-- ---- the whole expression

reads-whole : (t : Tree) (waiting : List Waiting) (u : Tree) (taken : List Mark) → IsRanked sum_rank t
    → waiting_marks waiting ++ spelling t ≡ taken → whole_tree (t, waiting) ≡ Some u → IsRanked sum_rank u × (taken ≡ spelling u)
reads-whole t waiting u taken r e is = search rules

reads-end : (state : ParseState) (u : Tree) (taken : List Mark) → Reads state taken → finished_tree state ≡ Some u
    → IsRanked sum_rank u × (taken ≡ spelling u)
reads-end (needs waiting) u taken h is = absurd (cc)
reads-end (stands t waiting) u taken (fits, ranked, e) is =
    let s = settled_operand sum_rank t waiting in
    let h : Settles sum_rank t waiting s =
    settles sum_rank t waiting (omega arith) fits (ranked sum_rank) (ranked (highest_rank waiting)) in
    reads-whole s.0 s.1 u taken h.ranked (h.spells ∙ e) is

reads-on : (o : Option ParseState) (ms : List Mark) (u : Tree) (taken : List Mark) → IfSome o (λ state. Reads state taken)
    → tree_onward o ms ≡ Some u → IsRanked sum_rank u × (taken ++ ms ≡ spelling u)
reads-on None ms u taken h is = absurd (cc)
reads-on (Some state) [] u taken h is = rw append-nil (reads-end state u taken h is)
reads-on (Some state) (m ∷ ms) u taken h is =
    let on = reads-on (state_after_mark state m) ms u (taken ++ m ∷ []) (reads-next state m taken h) is in
    (on.0, sym (append_assoc taken (m ∷ []) ms) ∙ on.1)

-- a tree that is found is ranked and spells the tokens
pub found : (ms : List Mark) (t : Tree) → tree_of ms ≡ Some t → IsRanked sum_rank t × (ms ≡ spelling t)
unfolding tree_of
found ms t is = reads-on (Some (needs [])) ms t [] (tt, refl) is

-- ---- the tokens of each ranked tree give that tree back: so no two of them have one spelling

-- what waits first is completed where it binds as tight, and else left
pub settled-more : (n : ℕ) (t : Tree) (w : Waiting) (waiting : List Waiting) → waiting_rank w ≤ n
    → settled_operand n t (w ∷ waiting) ≡ settled_operand n (completed_tree w t) waiting
settled-more n t w waiting low = rw (le-leb (waiting_rank w) n low)

-- what the tokens of a tree come to, where it has this rank at most: something that completes as the tree does
record Comes (t : Tree) (n : ℕ) (waiting : List Waiting) (rest : List Mark) : Type 0 where
  tree : Tree
  before : List Waiting
  runs : tree_onward (Some (needs waiting)) (spelling t ++ rest) ≡ tree_onward (Some (stands tree before)) rest
  settles : (k : ℕ) → n ≤ k → settled_operand k tree before ≡ settled_operand k t waiting

pub sign-runs : (s : Sign) (waiting : List Waiting) (ms : List Mark)
    → tree_onward (Some (needs waiting)) (sign_mark s ∷ ms) ≡ tree_onward (Some (needs (sign s ∷ waiting))) ms
sign-runs s waiting ms = search rules

pub operator-runs : (operator : Operator) (t : Tree) (waiting : List Waiting) (ms : List Mark)
    → tree_onward (Some (stands t waiting)) (arithmetic operator ∷ ms) ≡ tree_onward (Some (state_after_operator operator t waiting)) ms
operator-runs operator t waiting ms = search rules

pub some-rank : (operator : Operator) → 0 < rank_of_operator operator
some-rank operator = search rules

group-comes : (t : Tree) (n : ℕ) (waiting : List Waiting) (rest : List Mark) → Comes t sum_rank (parenthesis ∷ waiting) (closing ∷ rest)
    → Comes (group t) n waiting rest
group-comes t n waiting rest h = grind (arith, common_steps)

sign-comes : (s : Sign) (t : Tree) (n : ℕ) (waiting : List Waiting) (rest : List Mark) → Comes t 0 (sign s ∷ waiting) rest
    → Comes (signed s t) n waiting rest
sign-comes s t n waiting rest h = search rules

joined-comes : (operator : Operator) (l r : Tree) (n : ℕ) (waiting : List Waiting) (rest : List Mark) → rank_of_operator operator ≤ n
    → n ≤ highest_rank waiting → Comes l (rank_of_operator operator) waiting (arithmetic operator ∷ (spelling r ++ rest))
    → Comes r (rank_of_operator operator - 1) (left operator l ∷ waiting) rest → Comes (joined operator l r) n waiting rest
joined-comes operator l r n waiting rest low most hl hr = record {
  tree = hr.tree;
  before = hr.before;
  runs = ap (tree_onward (Some (needs waiting))) (append_assoc (spelling l) (arithmetic operator ∷ spelling r) rest) ∙ hl.runs
      ∙ operator-runs operator hl.tree hl.before (spelling r ++ rest)
      ∙ ap (λ (s : Tree × List Waiting). tree_onward (Some (needs (left operator s.0 ∷ s.1))) (spelling r ++ rest))
      (grind (arith, some-rank))
      ∙ hr.runs;
  settles = λ k high. hr.settles k (omega arith) ∙ settled-more k r (left operator l) waiting (omega arith);
}

comes : (t : Tree) (n : ℕ) (waiting : List Waiting) (rest : List Mark) → IsRanked n t → n ≤ highest_rank waiting → Comes t n waiting rest
comes (atom a) n waiting rest r most = record { tree = atom a; before = waiting; runs = refl; settles = λ k low. refl }
comes (group t) n waiting rest r most =
    group-comes t n waiting rest (comes t sum_rank (parenthesis ∷ waiting) (closing ∷ rest) r (omega arith))
comes (signed s t) n waiting rest r most = sign-comes s t n waiting rest (comes t 0 (sign s ∷ waiting) rest r (omega arith))
comes (joined operator l r) n waiting rest (low, p, q) most =
    joined-comes operator l r n waiting rest low most
    (comes l (rank_of_operator operator) waiting (arithmetic operator ∷ (spelling r ++ rest)) p (omega arith))
    (comes r (rank_of_operator operator - 1) (left operator l ∷ waiting) rest q (omega arith))

given-back : (t : Tree) → IsRanked sum_rank t → tree_of (spelling t) ≡ Some t
unfolding tree_of
given-back t r =
    let h = comes t sum_rank [] [] r (omega arith) in
    ap tree_of (sym (append-nil (spelling t))) ∙ h.runs ∙ ap whole_tree (h.settles sum_rank (omega arith))

-- The function of the tokens gives the ranked tree that they spell, and nothing where there is none.
pub tree-of-spelling : (ms : List Mark) (t : Tree) → (tree_of ms ≡ Some t) ↔ (IsRanked sum_rank t × (ms ≡ spelling t))
tree-of-spelling ms t = (found ms t, λ (ranked, is). ap tree_of is ∙ given-back t ranked)

-- ---- what `value` says

pub value-found : (names : List ℕ → Option ℤ) (line : ℕ) (tokens : List Token) (result : Option ValueResult)
    → result ≡ option_map (tree_value names line) (tree_of (token_marks tokens)) → IfSome result (HasValue names line tokens)
value-found names line tokens result e = rw e (by-tree (tree_of (token_marks tokens)) refl)
  where
    by-tree : (o : Option Tree) → tree_of (token_marks tokens) ≡ o →
        IfSome (option_map (tree_value names line) o) (HasValue names line tokens)
    by-tree None is = tt
    by-tree (Some t) is = record { tree = t; is_spelled = found (token_marks tokens) t is; is_value = refl }

pub value-only : (names : List ℕ → Option ℤ) (line : ℕ) (tokens : List Token) (result : Option ValueResult)
    → result ≡ option_map (tree_value names line) (tree_of (token_marks tokens))
    → (t : Tree) → IsExpression tokens t → result ≡ Some (tree_value names line t)
value-only names line tokens result e t is =
    e ∙ ap (option_map (tree_value names line)) ((tree-of-spelling (token_marks tokens) t).1 is)

-- ---- an operand

pub single-begins : (names : List ℕ → Option ℤ) (line : ℕ) (a : Atom) (rest : List Mark)
    → BeginsWithTree names line 0 (single a ∷ rest) (atom_value names line a) rest
single-begins names line a rest = record { tree = atom a; value = refl; goes = λ w low. refl }

sign-stands : (s : Sign) (t : Tree) (waiting : List Waiting) (rest : List Mark)
    → tree_onward (Some (stands t (sign s ∷ waiting))) rest ≡ tree_onward (Some (stands (signed s t) waiting)) rest
sign-stands s t waiting rest = search rules

pub sign-begins : (names : List ℕ → Option ℤ) (line : ℕ) (s : Sign) (ms : List Mark) (answer : ValueResult) (rest : List Mark)
    → BeginsWithTree names line 0 ms answer rest → BeginsWithTree names line 0 (sign_mark s ∷ ms) (sign_value s answer) rest
sign-begins names line s ms answer rest h = record {
  tree = signed s h.tree;
  value = ap (sign_value s) h.value;
  goes = λ w low. sign-runs s w ms ∙ h.goes (sign s ∷ w) (omega arith) ∙ sign-stands s h.tree w rest;
}

sign-refused : (s : Sign) (ms : List Mark) → BeginsNoTree 0 ms → BeginsNoTree 0 (sign_mark s ∷ ms)
sign-refused s ms h = λ w low. sign-runs s w ms ∙ h (sign s ∷ w) (omega arith)

pub group-begins : (names : List ℕ → Option ℤ) (line : ℕ) (ms : List Mark) (answer : ValueResult) (rest : List Mark)
    → BeginsWithTree names line sum_rank ms answer (closing ∷ rest) → BeginsWithTree names line 0 (opening ∷ ms) answer rest
group-begins names line ms answer rest h =
    record { tree = group h.tree; value = h.value; goes = λ w low. h.goes (parenthesis ∷ w) (omega arith) }

-- ---- an operator between two operands

left-runs : (names : List ℕ → Option ℤ) (line n : ℕ) (operator : Operator) (ms : List Mark) (answer : ValueResult) (after : List Mark)
    → (h : BeginsWithTree names line n ms answer (arithmetic operator ∷ after)) → rank_of_operator operator ≤ n → (w : List Waiting)
    → n ≤ highest_rank w → tree_onward (Some (needs w)) ms ≡ tree_onward (Some (needs (left operator h.tree ∷ w))) after
left-runs names line n operator ms answer after h low w roomy = search rules

pub joined-begins : (names : List ℕ → Option ℤ) (line n : ℕ) (operator : Operator) (ms : List Mark) (l r : ValueResult)
    (after rest : List Mark) → BeginsWithTree names line n ms l (arithmetic operator ∷ after) → rank_of_operator operator ≤ n
    → BeginsWithTree names line (rank_of_operator operator - 1) after r rest → EndsTree (rank_of_operator operator - 1) rest
    → BeginsWithTree names line n ms (joined_value operator l r) rest
joined-begins names line n operator ms l r after rest hl low hr ends = record {
  tree = joined operator hl.tree hr.tree;
  value = ap₂ (joined_value operator) hl.value hr.value;
  goes = grind (arith, left-runs);
}

-- ---- the whole expression

pub whole-value : (names : List ℕ → Option ℤ) (line : ℕ) (ms : List Mark) (answer : ValueResult)
    → BeginsWithTree names line sum_rank ms answer [] → option_map (tree_value names line) (tree_of ms) ≡ Some answer
unfolding tree_of
whole-value names line ms answer h = ap (option_map (tree_value names line)) (h.goes [] (omega arith)) ∙ ap Some h.value

pub more-none : (names : List ℕ → Option ℤ) (line : ℕ) (ms : List Mark) (answer : ValueResult) (rest : List Mark)
    → BeginsWithTree names line sum_rank ms answer rest → EndsTree sum_rank rest → (rest ≡ [] → ⊥)
    → option_map (tree_value names line) (tree_of ms) ≡ None
unfolding tree_of
more-none names line ms answer rest h ends some = search rules

pub refused-none : (names : List ℕ → Option ℤ) (line : ℕ) (ms : List Mark) → BeginsNoTree sum_rank ms
    → option_map (tree_value names line) (tree_of ms) ≡ None
unfolding tree_of
refused-none names line ms h = ap (option_map (tree_value names line)) (h [] (omega arith))

-- ---- as the code tells them

pub plus-comes : {R : Type 0} (names : List ℕ → Option ℤ) (line : ℕ) (ms after : List Mark) (result : Option R) (answer : R → ValueResult)
    → (rest : R → List Mark) → ms ≡ arithmetic Add ∷ after
    → MatchOption result (BeginsNoTree 0 after) (λ r. BeginsWithTree names line 0 after (answer r) (rest r))
    → MatchOption result (BeginsNoTree 0 ms) (λ r. BeginsWithTree names line 0 ms (answer r) (rest r))
plus-comes names line ms after None answer rest is h = rw is (sign-refused signs.Plus after h)
plus-comes names line ms after (Some r) answer rest is h = rw is (sign-begins names line signs.Plus after (answer r) (rest r) h)

pub atom-found : (m : Mark) (a : Atom) → Some a ≡ atom_in m → m ≡ single a
atom-found m a e = search rules

pub none-left : (tokens : List Token) → length tokens == 0 ≡ true → token_marks tokens ≡ []
none-left [] e = refl
none-left (token ∷ tokens) e = absurd (omega (arith, eqb-true (length (token ∷ tokens)) 0 e))

pub some-left : (tokens : List Token) → length tokens == 0 ≡ false → token_marks tokens ≡ [] → ⊥
some-left tokens e h = grind (arith, common_steps)
