-- Believed: the value of an expression, in whole numbers of 32 bits, and why there is none: E1, E2 or E3 (this profile).
use Rattle.std.specs.Prelude.{ℕ, ℤ, pos, negsuc, ◌+ℤ◌, ◌-ℤ◌, ◌*ℤ◌, neg_ℤ, int_le, int_div, ◌&&◌, List, Option, ok_or, Result}
use Rattle.std.specs.Prelude.{Ok, Err, if◌then◌else◌}
use Rattle.std.specs.Ordering.{int_eq}
use Rattle.pac_lex.specs.Results.{◌>>=◌}
use Rattle.pac_expr.specs.declared.expr.Sign.{Sign}
use Rattle.pac_expr.specs.declared.expr.Sign.TheVariants as signs
use Rattle.pac_expr.specs.declared.expr.Operator.{Operator}
use Rattle.pac_expr.specs.declared.expr.Operator.TheVariants.{Add, Subtract, Multiply, Divide}
use Rattle.pac_expr.specs.declared.evaluation.ValueError.{ValueError}
use Rattle.pac_expr.specs.declared.evaluation.ValueError.TheVariants.{Undefined, OutOfRange, DivisionByZero}
use Rattle.pac_expr.specs.Trees.{Atom, number, character, name, here, Tree, atom, group, signed, joined}

-- a number, or why there is none
abbrev pub ValueResult : Type 0
ValueResult = Result ℤ ValueError

-- a result has 32 bits with its sign
abbrev pub value_in_range : ℤ → ValueResult
value_in_range z = if int_le (negsuc 2147483647) z && int_le z (pos 2147483647) then Ok z else Err OutOfRange

-- the first of two faults, in the order of their codes
abbrev pub first_value_error : ValueError → ValueError → ValueError
first_value_error Undefined fault = Undefined
first_value_error OutOfRange Undefined = Undefined
first_value_error OutOfRange fault = OutOfRange
first_value_error DivisionByZero fault = fault

-- what an operator makes of two numbers; a quotient is cut toward zero
abbrev pub operator_value : Operator → ℤ → ℤ → ValueResult
operator_value Add x y = value_in_range (x +ℤ y)
operator_value Subtract x y = value_in_range (x -ℤ y)
operator_value Multiply x y = value_in_range (x *ℤ y)
operator_value Divide x y = if int_eq y (pos 0) then Err DivisionByZero else value_in_range (int_div x y)

-- what a sign makes of its operand's value, and an operator of its operands'
abbrev pub sign_value : Sign → ValueResult → ValueResult
sign_value signs.Plus answer = answer
sign_value signs.Minus answer = answer >>= λ z. value_in_range (neg_ℤ z)

abbrev pub joined_value : Operator → ValueResult → ValueResult → ValueResult
joined_value operator (Ok x) (Ok y) = operator_value operator x y
joined_value operator (Ok x) (Err fault) = Err fault
joined_value operator (Err fault) (Ok y) = Err fault
joined_value operator (Err fault) (Err other) = Err (first_value_error fault other)

abbrev pub atom_value : (List ℕ → Option ℤ) → ℕ → Atom → ValueResult
atom_value names line (number n) = Ok (pos n)
atom_value names line (character c) = Ok (pos c)
atom_value names line (name text) = ok_or (names text) Undefined
atom_value names line here = Ok (pos line)

-- the value of a tree, where names tells what names stand for and line is the address of the line
abbrev pub tree_value : (List ℕ → Option ℤ) → ℕ → Tree → ValueResult
tree_value names line (atom a) = atom_value names line a
tree_value names line (group t) = tree_value names line t
tree_value names line (signed sign t) = sign_value sign (tree_value names line t)
tree_value names line (joined operator left right) = joined_value operator (tree_value names line left) (tree_value names line right)
