-- After a frame nothing is left of the picture that a board began with.
use Rattle.pac_board_model.proofs.Common.{BoardView, Entry, IsBoard, Line, List, Moment, Parts, Sample, Walk, [], ap, arith, board_after}
use Rattle.pac_board_model.proofs.Common.{board_after_entries, by_history, by_view, common_steps, decodes-prefix, height, length-code}
use Rattle.pac_board_model.proofs.Common.{line_at, moment_view, refl, rules, step, sym, walk, ℕ, ◌+◌, ◌/◌, ◌<◌, ◌∙◌, ◌∷◌, ◌≡◌, ◌≤◌}
use Rattle.pac_board_model.proofs.Carried.{step-carried, view-carries, walk-carried}
use Rattle.pac_board_model.proofs.MemoryAlone.{memory-decides}
use Rattle.pac_board_model.proofs.RunsKeep.{plain-walk-told}
use Rattle.pac_board_model.proofs.Told.{view-tells}
use Rattle.pac_picture.proofs.Tabulated.{tabulate-same}
use Rattle.pac_map.specs.RomParts.{IsWhole}
use Rattle.pac_picture.specs.State.{IsPicture}
use Rattle.pac_board_model.proofs.HostKeeps.{IsTold, composed_frame, compositions, moment-kept, nothing-told, quiet-kept}
use Rattle.pac_board_model.specs.PictureLaws.{PictureIsForgotten, with_lines}

abbrev redrawn : BoardView → List (List ℕ) → BoardView
redrawn board lines = record board { lines = lines }

-- a line that was composed is what it is, whatever it was at first
line-forgotten : (set : Parts) (start : BoardView) (lines : List (List ℕ)) (y : ℕ) (entries : List Entry) → 1 ≤ composed_frame y entries
    → line_at set (redrawn start lines) entries y ≡ line_at set start entries y
line-forgotten set start lines y [] some = absurd (omega (arith, some))
line-forgotten set start lines y (Line frame line ∷ older) some = grind (arith, common_steps, line-forgotten set start lines y older)
line-forgotten set start lines y (entry ∷ older) some = line-forgotten set start lines y older some

-- all else is what it is in any case
rest-forgotten : (set : Parts) (start : BoardView) (lines other : List (List ℕ)) (entries : List Entry)
    → redrawn (board_after_entries set (redrawn start lines) entries) other ≡ redrawn (board_after_entries set start entries) other
rest-forgotten set start lines other [] = refl
rest-forgotten set start lines other (Sample number ∷ older) =
    ap (λ board. redrawn (board_after set board (Sample number)) other) (rest-forgotten set start lines other older)
rest-forgotten set start lines other (Line frame line ∷ older) = rest-forgotten set start lines other older
rest-forgotten set start lines other (entry ∷ older) =
    ap (λ board. redrawn (board_after set board entry) other) (rest-forgotten set start lines other older)

-- each line's moment has come again in 264 lines of the scan
grown-line : (from time y : ℕ) → y < height → from / 192 + 264 ≤ time / 192 → compositions y from < compositions y time
grown-line from time y below grown = omega arith

module _ (set : Parts) (limit tries : ℕ) (from : Moment BoardView) (lines : List (List ℕ)) (whole : IsWhole set)
    (fit : IsBoard from.board) (picture : IsPicture lines) where
  abbrev start : Moment (List Entry)
  start = record { regs = from.regs; board = []; time = from.time; steps = from.steps }

  abbrev told_by : BoardView → Walk (List Entry)
  told_by board = walk (step (by_history set [] board)) limit start tries

  seen : (board : BoardView) → IsBoard board
      → (walk (step (by_view set)) limit (record from { board = board }) tries).now
      ≡ moment_view (board_after_entries set board) (told_by board).now
  seen board is =
      ap (λ w. w.now) (sym (walk-carried (board_after_entries set board) (step (by_history set [] board)) (step (by_view set))
      (step-carried (board_after_entries set board) (by_history set [] board) (by_view set)
      (view-carries decodes-prefix length-code set [] board whole (search rules) is)) limit start tries))

  pub forgotten : from.time / 192 + 264 ≤ (walk (step (by_view set)) limit from tries).now.time / 192
      → (walk (step (by_view set)) limit (with_lines from lines) tries).now ≡ (walk (step (by_view set)) limit from tries).now
  forgotten grown =
      let other = redrawn from.board lines in
      let fit_other : IsBoard other = record { memory = fit.memory; accumulators = fit.accumulators; lines = picture } in
      let one = told_by from.board in
      let two = told_by other in
      let entries = one.now.board in
      let same = (memory-decides.history set [] other from.board limit tries start refl).now in
      let ask = by_history set [] from.board in
      let told = plain-walk-told ask (λ time given entries. IsTold from.time time entries)
      (λ time given entries entry. quiet-kept from.time time entry entries)
      (λ time moment given. moment-kept set [] from.board from.time time moment) limit start tries (nothing-told from.time) in
      let time = ap (λ (m : Moment BoardView). m.time) (seen from.board fit) in
      let later : from.time / 192 + 264 ≤ one.now.time / 192 = omega (arith, grown, time) in
      let lines_are = tabulate-same height (line_at set other entries) (line_at set from.board entries)
      (λ y below.
      let more = grown-line from.time one.now.time y below later in
      let composed = told.composed y below more in
      line-forgotten set from.board lines y entries (omega (arith, more, composed))) in
      let all_lines = (view-tells set other entries fit_other).lines ∙ lines_are ∙ sym (view-tells set from.board entries fit).lines in
      let boards_are : board_after_entries set other entries ≡ board_after_entries set from.board entries
      = ap (redrawn (board_after_entries set other entries)) all_lines
      ∙ rest-forgotten set from.board lines (board_after_entries set from.board entries).lines entries in
      seen other fit_other ∙ ap (moment_view (board_after_entries set other)) same
      ∙ ap (λ (board : BoardView). moment_view (λ (entries : List Entry). board) one.now) boards_are ∙ sym (seen from.board fit)

pub picture-is-forgotten : PictureIsForgotten
picture-is-forgotten set limit tries from lines whole fit picture grown = forgotten set limit tries from lines whole fit picture grown
