-- For proofs: what proofs say of the definitions of Parsing.antt.
use Rattle.pac_expr.specs.declared.expr.Sign.TheVariants as signs
use Rattle.pac_expr.specs.declared.expr.Sign.{Sign}
use Rattle.pac_expr.specs.declared.expr.Operator.{Operator}
use Rattle.pac_expr.specs.Trees.{Tree, signed, joined, group, rank_of_operator, Mark, single, atom, opening, arithmetic}
use Rattle.pac_expr.specs.Trees.{closing, sum_rank}
use Rattle.std.specs.Prelude.{ℕ, List, [], nat_le, ◌∷◌, if◌then◌else◌, Option, None, Some}
use Rattle.pac_expr.specs.declared.expr.Operator.TheVariants.{Add, Subtract}

-- what waits for an operand: a sign, an operator with its left operand, an open parenthesis
pub data Waiting : Type 0 where
  sign : Sign → Waiting
  left : Operator → Tree → Waiting
  parenthesis : Waiting

-- the tree that an operand makes of what waits for it
abbrev pub completed_tree : Waiting → Tree → Tree
completed_tree (sign s) t = signed s t
completed_tree (left operator l) t = joined operator l t
completed_tree parenthesis t = group t

-- A sign binds tighter than each operator. No operator's rank reaches an open parenthesis, which waits for its closing one.
abbrev pub waiting_rank : Waiting → ℕ
waiting_rank (sign s) = 0
waiting_rank (left operator l) = rank_of_operator operator
waiting_rank parenthesis = 3

-- an operand that has completed, from the last on, all that has this rank at most; and what still waits
abbrev pub settled_operand : ℕ → Tree → List Waiting → Tree × List Waiting
settled_operand n t [] = (t, [])
settled_operand n t (w ∷ waiting) = if nat_le (waiting_rank w) n then settled_operand n (completed_tree w t) waiting else (t, w ∷ waiting)

-- what tokens come to: an operand must follow, or one stands
pub data ParseState : Type 0 where
  needs : List Waiting → ParseState
  stands : Tree → List Waiting → ParseState

-- after an operator, whose left operand is all that binds as tight
abbrev pub state_after_operator : Operator → Tree → List Waiting → ParseState
state_after_operator operator t waiting = let s = settled_operand (rank_of_operator operator) t waiting in needs (left operator s.0 ∷ s.1)

-- after a closing parenthesis: what is left before a whole sum is an open one, if anything
abbrev pub closed_group : Tree × List Waiting → Option ParseState
closed_group (t, []) = None
closed_group (t, w ∷ waiting) = Some (stands (completed_tree w t) waiting)

-- after one token more, if an expression can go on with it
abbrev pub state_after_mark : ParseState → Mark → Option ParseState
state_after_mark (needs waiting) (single a) = Some (stands (atom a) waiting)
state_after_mark (needs waiting) opening = Some (needs (parenthesis ∷ waiting))
state_after_mark (needs waiting) (arithmetic Add) = Some (needs (sign signs.Plus ∷ waiting))
state_after_mark (needs waiting) (arithmetic Subtract) = Some (needs (sign signs.Minus ∷ waiting))
state_after_mark (stands t waiting) (arithmetic operator) = Some (state_after_operator operator t waiting)
state_after_mark (stands t waiting) closing = closed_group (settled_operand sum_rank t waiting)
state_after_mark state m = None

-- the tree, if nothing is left before it
abbrev pub whole_tree : Tree × List Waiting → Option Tree
whole_tree (t, []) = Some t
whole_tree (t, w ∷ waiting) = None

abbrev pub finished_tree : ParseState → Option Tree
finished_tree (needs waiting) = None
finished_tree (stands t waiting) = whole_tree (settled_operand sum_rank t waiting)

-- the tree, from here to the end of the tokens
abbrev pub tree_onward : Option ParseState → List Mark → Option Tree
tree_onward None ms = None
tree_onward (Some state) [] = finished_tree state
tree_onward (Some state) (m ∷ ms) = tree_onward (state_after_mark state m) ms

-- The tree that the tokens spell, if they spell one. Determined by pac_expr::trees_are_spelled.
unfoldable pub tree_of : List Mark → Option Tree
tree_of ms = tree_onward (Some (needs [])) ms
