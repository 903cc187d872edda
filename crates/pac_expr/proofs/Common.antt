-- The words that proofs here, and those of crates above, import of definitions, of std and of the crates below.

pub use Rattle.pac_lex.proofs.Common.{Bool, Err, List, None, Option, Some, [], ap, append-nil, append_assoc, arith, common_steps, cond}
pub use Rattle.pac_lex.proofs.Common.{drop, eqb-true, false, inl, inr, length, none-some, option_map, refl, rules, same_Some, sym, true, ℕ}
pub use Rattle.pac_lex.proofs.Common.{◌*◌, ◌++◌, ◌+◌, ◌-◌, ◌<◌, ◌∙◌, ◌∷◌, ◌≡◌, ◌≤◌, ◌⊎◌}
unfoldable pub use Rattle.pac_expr.specs.Parsing.{tree_in}
pub use Rattle.pac_expr.specs.ParsingProofs.{ParseState, Waiting, closed_group, completed_tree, finished_tree, left, needs, parenthesis}
pub use Rattle.pac_expr.specs.ParsingProofs.{settled_operand, sign, stands, state_after_mark, state_after_operator, tree_onward}
pub use Rattle.pac_expr.specs.ParsingProofs.{waiting_rank, whole_tree}
unfoldable pub use Rattle.pac_expr.specs.ParsingProofs.{tree_of}
pub use Rattle.pac_expr.specs.Reading.{BeginsNoTree, BeginsWithTree, EndsTree, atom_in, highest_rank}
pub use Rattle.pac_expr.specs.Shape.{continued_shape, ends_expression, next_shape, open_parentheses, shape_of}
pub use Rattle.pac_expr.specs.Trees.{Atom, IsRanked, Mark, Tree, arithmetic, atom, closing, group, here, joined, kind_mark, marks_of, name}
pub use Rattle.pac_expr.specs.Trees.{opening, rank_of_operator, sign_mark, signed, single, spelling, sum_rank}
pub use Rattle.pac_expr.specs.TreesProofs.{IsExpression, token_marks}
pub use Rattle.pac_expr.specs.Values.{ValueResult, atom_value, joined_value, sign_value, tree_value}
pub use Rattle.pac_expr.specs.ValuesLaws.{HasUndefined}
pub use Rattle.pac_expr.specs.ValuesProofs.{HasValue}
pub use Rattle.pac_expr.specs.declared.evaluation.ValueError.TheVariants.{Undefined}
pub use Rattle.pac_expr.specs.declared.expr.Operator.{Operator}
pub use Rattle.pac_expr.specs.declared.expr.Operator.TheVariants.{Add, Divide, Multiply, Subtract}
pub use Rattle.pac_expr.specs.declared.expr.Sign.{Sign}
pub use Rattle.pac_lex.specs.declared.token.Token.{Token}
pub use Rattle.std.proofs.Common.{IfSome, MatchOption, ap₂, is_some, nat_le, ok_or, ℤ, ◌==◌, ◌↔◌}
pub use Rattle.std.proofs.lemmas.Bool.{le-leb}
