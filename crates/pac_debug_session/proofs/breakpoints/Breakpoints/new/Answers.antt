-- Zeros mark none.
use Rattle.pac_debug_session.proofs.Common.{List, ap, list_any, not, slice_index, sym, ℕ, ◌==◌, ◌∙◌}
use Rattle.pac_debug_session.proofs.Marked.{none-marked}

pub invariant_of-result : Rattle.pac_debug_session.proofs.breakpoints.Breakpoints.new.Goals.invariant_of-result
invariant_of-result c = λ at.
    ap (λ (marks : List ℕ). not (slice_index marks at == 0)) c.in_ok-marks.ensures.ok
    ∙ none-marked 65536 at ∙ sym (ap (list_any (λ address. address == at)) c.new-2.ensures)
