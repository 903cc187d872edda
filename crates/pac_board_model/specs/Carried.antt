-- Believed: a moment, a next step and a walk of one account of the board as another one has them. When one account
-- carries to another is for proofs: each question has the same answer on both sides.
use Rattle.pac_board_model.specs.Step.{Moment, Next, Goes, Ends}
use Rattle.pac_board_model.specs.Walk.{Walk}

abbrev pub moment_view : {From To : Type 0} → (From → To) → Moment From → Moment To
moment_view view now = record { regs = now.regs; board = view now.board; time = now.time; steps = now.steps }

abbrev pub next_view : {From To : Type 0} → (From → To) → Next From → Next To
next_view view (Goes now outputs kind) = Goes (moment_view view now) outputs kind
next_view view (Ends stop) = Ends stop

abbrev pub walk_view : {From To : Type 0} → (From → To) → Walk From → Walk To
walk_view view walk = record { now = moment_view view walk.now; outputs = walk.outputs; stop = walk.stop }
