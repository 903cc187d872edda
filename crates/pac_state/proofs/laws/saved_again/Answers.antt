use Rattle.pac_state.proofs.Common.{BoardValue, List, Saves, ap, get_or, save_text, state_in, subst, sym, upgraded_board, version_in, ℕ}
use Rattle.pac_state.proofs.Common.{◌<◌, ◌∙◌, ◌≡◌}
use Rattle.pac_state.proofs.Whole.{text-of}

pub returns-in-Ok : Rattle.pac_state.proofs.laws.saved_again.Goals.returns-in-Ok
returns-in-Ok g c =
    let fits : (i : ℕ) → get_or c.args.bytes.now i 0 < 256 = λ i. (c.type_inv.bytes i).fits in
    let version : version_in c.args.bytes.now ≡ 2 = c.requires in
    let board : BoardValue = record { set = c.args.set; state = state_in c.args.bytes.now; made = 0 } in
    let same : c.deref.result.now ≡ board =
    c.deref.ensures ∙ c.in-Ok.ensures.answer.board ∙ ap (λ (version : ℕ). upgraded_board version board) version in
    subst (λ (text : List ℕ). Saves g.W.Out.took g.W.Out.refused c.args.out.now text c.save.result c.save.new.out)
    (ap (λ (board : BoardValue). save_text 2 board.set board.state) same
    ∙ (ap (λ (version : ℕ). save_text version c.args.set (state_in c.args.bytes.now)) (sym version)
    ∙ text-of c.args.set c.args.bytes.now fits c.in-Ok.ensures.answer.sound c.in-Ok.ensures.answer.text.written))
    c.save.ensures
