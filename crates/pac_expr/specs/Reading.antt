-- For proofs: an expression read from the left of its tokens, part by part: a part that was read stands for its tree, whatever
-- waits before it.
use Rattle.std.specs.Prelude.{◌≡◌, ◌≤◌, ◌<◌, ◌-◌, ℕ, ℤ, Bool, true, false, List, [], ◌∷◌, Option, Some, None, IfSome}
use Rattle.pac_expr.specs.declared.expr.Operator.{Operator}
use Rattle.pac_expr.specs.Trees.{Atom, Tree, Mark, single, closing, arithmetic, rank_of_operator, sum_rank}
use Rattle.pac_expr.specs.ParsingProofs.{Waiting, sign, left, parenthesis, needs, stands, tree_onward}
use Rattle.pac_expr.specs.Values.{ValueResult, tree_value}

-- the highest rank that the operand which is waited for may have
abbrev pub highest_rank : List Waiting → ℕ
highest_rank [] = sum_rank
highest_rank (sign s ∷ waiting) = 0
highest_rank (left operator l ∷ waiting) = rank_of_operator operator - 1
highest_rank (parenthesis ∷ waiting) = sum_rank

-- The tokens begin with a tree of this value, and rest follows it: where something of rank n may stand,
-- they come to what that tree and rest come to.
pub record BeginsWithTree (names : List ℕ → Option ℤ) (line n : ℕ) (ms : List Mark) (answer : ValueResult) (rest : List Mark) : Type 0 where
  pub tree : Tree
  pub value : tree_value names line tree ≡ answer
  pub goes : (waiting : List Waiting) → n ≤ highest_rank waiting
      → tree_onward (Some (needs waiting)) ms ≡ tree_onward (Some (stands tree waiting)) rest

-- no expression goes on with the tokens where something of rank n may stand
abbrev pub BeginsNoTree : ℕ → List Mark → Type 0
BeginsNoTree n ms = (waiting : List Waiting) → n ≤ highest_rank waiting → tree_onward (Some (needs waiting)) ms ≡ None

-- whether a token is a closing parenthesis
abbrev pub is_closing : Mark → Bool
is_closing closing = true
is_closing mark = false

-- the operator that a token is, if it is one
abbrev pub operator_in : Mark → Option Operator
operator_in (arithmetic operator) = Some operator
operator_in m = None

-- no operator of this rank at most comes first
abbrev pub EndsTree : ℕ → List Mark → Type 0
EndsTree n [] = Unit {0}
EndsTree n (m ∷ ms) = IfSome (operator_in m) (λ operator. n < rank_of_operator operator)

-- the operand that a token is by itself
abbrev pub atom_in : Mark → Option Atom
atom_in (single a) = Some a
atom_in m = None
