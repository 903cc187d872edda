-- Lines of the picture that are composed again, from the top.
use Rattle.std.proofs.Common.{add-one, drop-cons}
use Rattle.std.proofs.Math.Nat.{sub_self}
use Rattle.pac_machine.proofs.Common.{BoardStanding, List, [], ap, append_assoc, arith, drop, length, length-tabulate, lines_composed}
use Rattle.pac_machine.proofs.Common.{picture_line, recomposed_view, refl, rules, set, set-append_right, standing_composed, suc, tabulate}
use Rattle.pac_machine.proofs.Common.{video_memory, video_roms, zero, ℕ, ◌++◌, ◌+◌, ◌<◌, ◌∷◌, ◌≡◌, ◌≤◌}

-- none yet, and one more
none-yet : {A : Type 0} (value : ℕ → A) (lines : List A) → lines ≡ tabulate 0 value ++ drop 0 lines
unfolding tabulate
none-yet value lines = refl

one-more : {A : Type 0} (value : ℕ → A) (lines : List A) (y : ℕ) → y < length lines →
    set (tabulate y value ++ drop y lines) y (value y) ≡ tabulate (y + 1) value ++ drop (y + 1) lines
unfolding tabulate
one-more value lines y inside =
    cc (
      set-append_right (tabulate y value) (drop y lines) y y (value y) (length-tabulate y value) (omega arith),
      drop-cons lines y (value y) inside,
      sub_self y,
      add-one y,
      append_assoc (tabulate y value) (value y ∷ []) (drop (suc y) lines),
    )

abbrev with_lines : BoardStanding → List (List ℕ) → BoardStanding
with_lines old lines = record { set = old.set; now = record old.now { board = record old.now.board { lines = lines } } }

abbrev line_in : BoardStanding → ℕ → List ℕ
line_in old = picture_line (video_roms old.set) (video_memory old.now.board.memory)

-- the first ones
from-the-top : (old : BoardStanding) (count : ℕ) → count ≤ length old.now.board.lines
    → lines_composed (video_roms old.set) (video_memory old.now.board.memory) old.now.board.lines zero count
    ≡ tabulate count (line_in old) ++ drop count old.now.board.lines
from-the-top old zero fits = none-yet (line_in old) old.now.board.lines
from-the-top old (suc count) fits = search (rules, one-more, from-the-top old count (omega (arith, fits)))

pub recomposed : (old : BoardStanding) (count : ℕ) → count ≤ length old.now.board.lines
    → standing_composed old zero count
    ≡ record { set = old.set; now = record old.now { board = recomposed_view old.set old.now.board count } }
recomposed old count fits = ap (with_lines old) (from-the-top old count fits)
