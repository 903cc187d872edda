use Rattle.pac_debug_text.proofs.Common.{[], alternate_text, err_from_is_err_and, gathers-within, interrupts_text, latches_text, leaves-all}
use Rattle.pac_debug_text.proofs.Common.{leaves-less, leaves-refused, pairs_text, registers_text, ◌++◌}
use Rattle.pac_debug_text.proofs.Parts.{gathers-last}
use Rattle.pac_debug_text.proofs.registers.gather_registers.Goals as goal

pub returns-in_err-gather_pairs : goal.returns-in_err-gather_pairs
returns-in_err-gather_pairs g c =
    let regs = c.args.regs.now in
    let third = interrupts_text regs ++ (latches_text c.args.latches ++ []) in
    let second = alternate_text regs.alternate ++ third in
    let p = err_from_is_err_and c.from_residual.result c.from_residual.ensures.1 in
    rw (p.1, p.2) (gathers-within g.W.Out.refused c.args.pending.now (pairs_text regs) second c.in_err-gather_pairs.ensures)

pub returns-in_err-gather_alternate : goal.returns-in_err-gather_alternate
returns-in_err-gather_alternate g c =
    let regs = c.args.regs.now in
    let third = interrupts_text regs ++ (latches_text c.args.latches ++ []) in
    let second = alternate_text regs.alternate ++ third in
    let one = leaves-less (pairs_text regs) second (leaves-all (registers_text regs c.args.latches)) c.in_ok-gather_pairs.ensures in
    let p = err_from_is_err_and c.from_residual-in_err-gather_alternate.result c.from_residual-in_err-gather_alternate.ensures.1 in
    rw (p.1, p.2) (leaves-refused (alternate_text regs.alternate) third one c.in_err-gather_alternate.ensures)

pub returns-in_err-gather_interrupts : goal.returns-in_err-gather_interrupts
returns-in_err-gather_interrupts g c =
    let regs = c.args.regs.now in
    let fourth = latches_text c.args.latches ++ [] in
    let third = interrupts_text regs ++ fourth in
    let second = alternate_text regs.alternate ++ third in
    let one = leaves-less (pairs_text regs) second (leaves-all (registers_text regs c.args.latches)) c.in_ok-gather_pairs.ensures in
    let two = leaves-less (alternate_text regs.alternate) third one c.in_ok-gather_alternate.ensures in
    let p = err_from_is_err_and c.from_residual-in_err-gather_interrupts.result c.from_residual-in_err-gather_interrupts.ensures.1 in
    rw (p.1, p.2) (leaves-refused (interrupts_text regs) fourth two c.in_err-gather_interrupts.ensures)

pub returns : goal.returns
returns g c =
    let regs = c.args.regs.now in
    let fourth = latches_text c.args.latches ++ [] in
    let third = interrupts_text regs ++ fourth in
    let second = alternate_text regs.alternate ++ third in
    let one = leaves-less (pairs_text regs) second (leaves-all (registers_text regs c.args.latches)) c.in_ok-gather_pairs.ensures in
    let two = leaves-less (alternate_text regs.alternate) third one c.in_ok-gather_alternate.ensures in
    let three = leaves-less (interrupts_text regs) fourth two c.in_ok-gather_interrupts.ensures in
    gathers-last g.W.Out.refused (latches_text c.args.latches) c.gather_latches.result c.gather_latches.new.pending
    c.gather_latches.new.output three c.gather_latches.ensures
