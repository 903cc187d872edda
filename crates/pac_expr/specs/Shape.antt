-- For proofs: what is enough of a state to tell whether an expression can end there: whether an operand stands, and how many
-- parentheses are open.
use Rattle.std.specs.Prelude.{ℕ, ◌+◌, ◌-◌, ◌==◌, ◌&&◌, Bool, true, false, List, [], ◌∷◌, Option, Some, None, if◌then◌else◌}
use Rattle.pac_expr.specs.declared.expr.Operator.TheVariants.{Add, Subtract}
use Rattle.pac_expr.specs.Trees.{Mark, single, opening, closing, arithmetic}
use Rattle.pac_expr.specs.ParsingProofs.{Waiting, parenthesis, ParseState, needs, stands}

abbrev pub open_parentheses : List Waiting → ℕ
open_parentheses [] = 0
open_parentheses (parenthesis ∷ waiting) = open_parentheses waiting + 1
open_parentheses (w ∷ waiting) = open_parentheses waiting

abbrev pub ParseShape : Type 0
ParseShape = Bool × ℕ

abbrev pub shape_of : ParseState → ParseShape
shape_of (needs waiting) = (false, open_parentheses waiting)
shape_of (stands t waiting) = (true, open_parentheses waiting)

-- after one token more, if an expression can go on with it: first where an operand must come, then after one
abbrev pub begun_shape : ℕ → Mark → Option ParseShape
begun_shape k (single a) = Some (true, k)
begun_shape k opening = Some (false, k + 1)
begun_shape k (arithmetic Add) = Some (false, k)
begun_shape k (arithmetic Subtract) = Some (false, k)
begun_shape k m = None

abbrev pub continued_shape : ℕ → Mark → Option ParseShape
continued_shape k (arithmetic operator) = Some (false, k)
continued_shape k closing = if k == 0 then None else Some (true, k - 1)
continued_shape k m = None

abbrev pub next_shape : ParseShape → Mark → Option ParseShape
next_shape (false, k) m = begun_shape k m
next_shape (true, k) m = continued_shape k m

-- whether an expression ends with the tokens from here on
abbrev pub ends_expression : Option ParseShape → List Mark → Bool
ends_expression None ms = false
ends_expression (Some shape) [] = shape.0 && shape.1 == 0
ends_expression (Some shape) (m ∷ ms) = ends_expression (next_shape shape m) ms
