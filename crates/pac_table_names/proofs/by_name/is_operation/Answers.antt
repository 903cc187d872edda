use Rattle.std.proofs.Common.{ℕ, List, length, not, ◌==◌, sym, ◌∙◌, ap}
use Rattle.pac_table_names.proofs.Index.{operation-has-rows}

pub returns : Rattle.pac_table_names.proofs.by_name.is_operation.Goals.returns
returns c =
    ap not c.is_empty.ensures ∙ ap (λ (xs : List ℕ). not (length xs == 0)) c.rows_named.ensures.rows ∙
    sym (operation-has-rows c.args.word.now)
