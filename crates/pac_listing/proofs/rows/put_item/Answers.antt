use Rattle.pac_listing.proofs.Common.{arith, drop, eqb-false, err_from_is_err_and}
use Rattle.pac_listing.proofs.Common.{gathers-both, gathers-within, length, refl, row_bytes, sym, ◌<◌}
use Rattle.pac_listing.proofs.Common.{◌∙◌}
use Rattle.pac_listing.proofs.RowLemmas.{item-more}
use Rattle.pac_listing.proofs.rows.put_item.Goals as goal

pub returns-in_err-put_first_row : goal.returns-in_err-put_first_row
returns-in_err-put_first_row g c =
    let bytes = c.args.bytes.now in
    let some : 0 < length bytes = omega (arith, eqb-false (length bytes) 0 (sym c.is_empty.ensures ∙ c.if-is_empty.false)) in
    let rows = item-more c.args.number c.args.at bytes c.args.text.now c.hex_word.result c.byte_columns.result (drop row_bytes bytes) some
    c.hex_word.ensures c.byte_columns.ensures refl in
    let p = err_from_is_err_and c.from_residual.result c.from_residual.ensures.1 in
    rw (p.1, p.2, ← rows) (gathers-within g.W.Out.refused c.args.pending.now _ _ c.in_err-put_first_row.ensures)

pub returns : goal.returns
returns g c =
    let bytes = c.args.bytes.now in
    let some : 0 < length bytes = omega (arith, eqb-false (length bytes) 0 (sym c.is_empty.ensures ∙ c.if-is_empty.false)) in
    let rows = item-more c.args.number c.args.at bytes c.args.text.now c.hex_word.result c.byte_columns.result c.after_row.result.now some
    c.hex_word.ensures c.byte_columns.ensures c.after_row.ensures.bytes in
    rw (← rows) (gathers-both g.W.Out.refused c.args.pending.now _ _ c.put_further_rows.result c.put_further_rows.new.pending
    c.put_further_rows.new.file c.in_ok-put_first_row.ensures c.put_further_rows.ensures)
