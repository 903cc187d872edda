use Rattle.pac_debug_text.proofs.Common.{[], codes, err_from_is_err_and, gathers-within, leaves-all, leaves-less, leaves-refused, row_head}
use Rattle.pac_debug_text.proofs.Common.{row_text, ◌++◌}
use Rattle.pac_debug_text.proofs.Parts.{gathers-last}
use Rattle.pac_debug_text.proofs.PeekLemmas.{bytes_text}
use Rattle.pac_debug_text.proofs.peek.gather_row.Goals as goal

pub returns-in_err-gather_row_head : goal.returns-in_err-gather_row_head
unfolding row_text
returns-in_err-gather_row_head g c =
    let second = bytes_text (g.P.Peek.byte_at c.args.memory.now) c.args.at c.args.count ++ (codes "\n" ++ []) in
    let p = err_from_is_err_and c.from_residual.result c.from_residual.ensures.1 in
    rw (p.1, p.2) (gathers-within g.W.Out.refused c.args.pending.now (row_head c.args.at) second c.in_err-gather_row_head.ensures)

pub returns-in_err-gather_bytes : goal.returns-in_err-gather_bytes
unfolding row_text
returns-in_err-gather_bytes g c =
    let byte = g.P.Peek.byte_at c.args.memory.now in
    let bytes = bytes_text byte c.args.at c.args.count in
    let third = codes "\n" ++ [] in
    let one = leaves-less (row_head c.args.at) (bytes ++ third) (leaves-all (row_text byte c.args.at c.args.count))
    c.in_ok-gather_row_head.ensures in
    let p = err_from_is_err_and c.from_residual-in_err-gather_bytes.result c.from_residual-in_err-gather_bytes.ensures.1 in
    rw (p.1, p.2) (leaves-refused bytes third one c.in_err-gather_bytes.ensures)

pub returns : goal.returns
unfolding row_text
returns g c =
    let byte = g.P.Peek.byte_at c.args.memory.now in
    let bytes = bytes_text byte c.args.at c.args.count in
    let third = codes "\n" ++ [] in
    let one = leaves-less (row_head c.args.at) (bytes ++ third) (leaves-all (row_text byte c.args.at c.args.count))
    c.in_ok-gather_row_head.ensures in
    let two = leaves-less bytes third one c.in_ok-gather_bytes.ensures in
    gathers-last g.W.Out.refused (codes "\n") c.put.result c.put.new.self c.put.new.file two c.put.ensures
