use Rattle.pac_machine.proofs.Common.{BoardStanding, ap, arith, length, passed_lines, recomposed_view, standing_composed, sym, ℕ, ◌-◌, ◌∙◌}
use Rattle.pac_machine.proofs.Common.{◌≡◌, ◌≤◌}
use Rattle.pac_machine.proofs.Recomposed.{recomposed}

pub returns : Rattle.pac_machine.proofs.machine.Machine.recompose.Goals.returns
returns c =
    let old = c.args.self.now in
    let count = c.passed_lines.result in
    let none : count - 0 ≡ count = omega arith in
    let high : length old.now.board.lines ≡ 224 = ap (λ (s : BoardStanding). length s.now.board.lines) (sym c.self.view_is)
    ∙ c.row-top.ensures.picture.high in
    let fits : count ≤ length old.now.board.lines = omega (arith, high, c.passed_lines.ensures.below) in
    let passed : count ≡ passed_lines old.now.time = c.passed_lines.ensures.passed
    ∙ ap (λ (s : BoardStanding). passed_lines s.now.time) c.compose_lines.view_is in
    c.compose_lines-2.ensures ∙ ap (standing_composed old 0) none ∙ recomposed old count fits
    ∙ ap (λ (n : ℕ). record { set = old.set; now = record old.now { board = recomposed_view old.set old.now.board n } }) passed
