-- Believed: expressions as trees, and the tokens that spell them: the assembler's notation of this profile, whose
-- operators bind as in arithmetic.
use Rattle.std.specs.Prelude.{ℕ, ◌-◌, ◌≤◌, List, [], ◌∷◌, ◌++◌, map}
use Rattle.std.specs.Option.{option_map_or}
use Rattle.pac_lex.specs.declared.token.TokenKind.{TokenKind}
use Rattle.pac_lex.specs.declared.token.TokenKind.TheVariants as kinds
use Rattle.pac_lex.specs.TextsProofs.{one_character}
use Rattle.pac_lex.specs.Tokens.{Lexeme}
use Rattle.pac_expr.specs.declared.expr.Sign.{Sign}
use Rattle.pac_expr.specs.declared.expr.Sign.TheVariants as signs
use Rattle.pac_expr.specs.declared.expr.Operator.{Operator}
use Rattle.pac_expr.specs.declared.expr.Operator.TheVariants.{Add, Subtract, Multiply, Divide}

-- the last parts of an expression: a number, a character, a name, and `$`
pub data Atom : Type 0 where
  number : ℕ → Atom
  character : ℕ → Atom
  name : List ℕ → Atom
  here : Atom

-- the tree of an expression
pub data Tree : Type 0 where
  atom : Atom → Tree
  group : Tree → Tree
  signed : Sign → Tree → Tree
  joined : Operator → Tree → Tree → Tree

-- what the tokens of an expression are to its grammar
pub data Mark : Type 0 where
  single : Atom → Mark
  opening : Mark
  closing : Mark
  -- `+`, `-`, `*` and `/`
  arithmetic : Operator → Mark
  other : Mark

-- a text of one character is an operand, and another text is nothing in an expression
abbrev pub kind_mark : TokenKind → List ℕ → Mark
kind_mark (kinds.Number n) text = single (number n)
kind_mark kinds.Text text = option_map_or (λ c. single (character c)) (one_character text) other
kind_mark kinds.Name text = single (name text)
kind_mark kinds.Dollar text = single here
kind_mark kinds.Open text = opening
kind_mark kinds.Close text = closing
kind_mark kinds.Plus text = arithmetic Add
kind_mark kinds.Minus text = arithmetic Subtract
kind_mark kinds.Star text = arithmetic Multiply
kind_mark kinds.Slash text = arithmetic Divide
kind_mark kind text = other

abbrev pub marks_of : List Lexeme → List Mark
marks_of lexemes = map (λ lexeme. kind_mark lexeme.kind lexeme.text) lexemes

abbrev pub sign_mark : Sign → Mark
sign_mark signs.Plus = arithmetic Add
sign_mark signs.Minus = arithmetic Subtract

-- the tokens that spell a tree
abbrev pub spelling : Tree → List Mark
spelling (atom a) = single a ∷ []
spelling (group t) = opening ∷ (spelling t ++ closing ∷ [])
spelling (signed sign t) = sign_mark sign ∷ spelling t
spelling (joined operator left right) = spelling left ++ (arithmetic operator ∷ spelling right)

-- the rank of sums; products bind tighter
abbrev pub sum_rank : ℕ
sum_rank = 2

abbrev pub rank_of_operator : Operator → ℕ
rank_of_operator Add = sum_rank
rank_of_operator Subtract = sum_rank
rank_of_operator Multiply = 1
rank_of_operator Divide = 1

-- The tree is one whose operators outside its groups have this rank at most. The left operand of an
-- operator may have its rank, the right one only a lower rank, so operators of one rank join from left
-- to right. A sign stands before an operand without operators, and a group may hold any tree.
abbrev pub IsRanked : ℕ → Tree → Type 0
IsRanked n (atom a) = Unit {0}
IsRanked n (group t) = IsRanked sum_rank t
IsRanked n (signed sign t) = IsRanked 0 t
IsRanked n (joined operator left right) = (rank_of_operator operator ≤ n) × IsRanked (rank_of_operator operator) left
    × IsRanked (rank_of_operator operator - 1) right
