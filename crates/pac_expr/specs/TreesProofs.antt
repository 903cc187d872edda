-- For proofs: what proofs say of the definitions of Trees.antt.
use Rattle.pac_expr.specs.declared.expr.Primary.TheVariants as operands
use Rattle.pac_expr.specs.declared.expr.Primary.{Primary}
use Rattle.pac_expr.specs.Trees.{Atom, number, character, name, here, Mark, kind_mark, marks_of, Tree, IsRanked, sum_rank, spelling}
use Rattle.pac_lex.specs.declared.token.Token.{Token}
use Rattle.std.specs.Prelude.{List, ◌≡◌}
use Rattle.pac_lex.specs.TokensProofs.{views}

abbrev pub atom_of : Primary → Atom
atom_of (operands.Number n) = number n
atom_of (operands.Character c) = character c
atom_of (operands.Name text) = name text.now
atom_of operands.Here = here

abbrev pub token_mark : Token → Mark
token_mark token = kind_mark token.kind token.text.now

abbrev pub token_marks : List Token → List Mark
token_marks tokens = marks_of (views tokens)

-- an expression of the source: a tree with its parentheses where they are needed, and its tokens
abbrev pub IsExpression : List Token → Tree → Type 0
IsExpression tokens t = IsRanked sum_rank t × (token_marks tokens ≡ spelling t)
