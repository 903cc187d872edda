-- A run told by the source's items and the history is the run told by the bytes and the view, from power-on and from any moment on.
use Rattle.pac_board_model.proofs.Common.{IsBoard, ResumedRunsAgree, RunsAgree, black-picture, decodes-prefix, length-code}
use Rattle.pac_board_model.proofs.Common.{power-on-well-formed, power_on_board_view, rules, ℕ}
use Rattle.pac_board_model.proofs.Carried.{resumed-carried, run-carried, view-carries}

pub power-on-board : (switches : ℕ) → IsBoard (power_on_board_view switches)
power-on-board switches = search (rules, black-picture, power-on-well-formed)

pub runs-agree : RunsAgree
runs-agree set items switches index play whole lie = search (rules, decodes-prefix, length-code, power-on-board, run-carried, view-carries)

pub resumed-runs-agree : ResumedRunsAgree
resumed-runs-agree set items start play from whole lie fit = search (rules, decodes-prefix, length-code, resumed-carried, view-carries)
