-- For proofs: what proofs say of the definitions of Values.antt.
use Rattle.std.specs.Prelude.{List, ℕ, Option, ℤ, ◌≡◌}
use Rattle.pac_lex.specs.declared.token.Token.{Token}
use Rattle.pac_expr.specs.Values.{ValueResult, tree_value}
use Rattle.pac_expr.specs.Trees.{Tree}
use Rattle.pac_expr.specs.TreesProofs.{IsExpression}

-- the tokens of an expression have this value: they spell a tree of it
pub record HasValue (names : List ℕ → Option ℤ) (line : ℕ) (tokens : List Token) (answer : ValueResult) : Type 0 where
  pub tree : Tree
  pub is_spelled : IsExpression tokens tree
  pub is_value : tree_value names line tree ≡ answer
