-- Believed: the tree of an expression as a function of its tokens: they are taken from left to right, and what still
-- waits for an operand to its right is kept, the last first.
use Rattle.std.specs.Prelude.{◌≡◌, ◌↔◌, List, Option, Some}
use Rattle.pac_lex.specs.Tokens.{Lexeme}
use Rattle.pac_expr.specs.Trees.{Tree, Mark}
use Rattle.pac_expr.specs.Trees.{sum_rank, spelling, IsRanked, marks_of}
use Rattle.pac_expr.specs.ParsingProofs.{tree_of}

-- the tree that a list of tokens spells, if it spells one
unfoldable pub tree_in : List Lexeme → Option Tree
tree_in lexemes = tree_of (marks_of lexemes)

-- the law: a tree is that of some tokens exactly where it is ranked and they are its spelling
abbrev pub TreesAreSpelled : Type 0
TreesAreSpelled = (ms : List Mark) (t : Tree) → (tree_of ms ≡ Some t) ↔ (IsRanked sum_rank t × (ms ≡ spelling t))
