-- What a call for some time leaves.
use Rattle.pac_block.proofs.Common.{BoardState, List, ap, err_from_is_err_and, refl, restored_board, set_of_roms, state_of, subst, sym, ℕ}
use Rattle.pac_block.proofs.Common.{◌∙◌, ◌≡◌}
use Rattle.pac_board.specs.State.{IsStateInRange}
use Rattle.pac_block.proofs.Executed.{executed, may-not-run}
use Rattle.pac_block.proofs.Stops.{stopped-early}
use Rattle.pac_block.proofs.calls.exec.Goals as goal

abbrev with_lines : BoardState → List (List ℕ) → BoardState
with_lines state lines = record state { now = record state.now { board = record state.now.board { lines = lines } } }

-- the lines of the state that stands in a block are those that were found in it
same-lines : (found state : BoardState) (lines : List (List ℕ)) → found ≡ state → lines ≡ state.now.board.lines
    → with_lines found lines ≡ found
same-lines found state lines is there =
    ap (with_lines found) (there ∙ sym (ap (λ (state : BoardState). state.now.board.lines) is))

pub returns-in_err-fields : goal.returns-in_err-fields
returns-in_err-fields c =
    let none = c.in_err-fields.ensures in
    let told = err_from_is_err_and c.from_residual-in_err-fields.result c.from_residual-in_err-fields.ensures.1 in
    rw (told.1, told.2, none.1) ((c.in_ok-check_roms.ensures, none.0), refl, refl, refl)

pub check-requires : goal.check-requires
check-requires c = record { in_range = c.in_ok-fields.ensures.in_range }

pub put_all-requires-clause-in_range : goal.put_all-requires-clause-in_range
put_all-requires-clause-in_range c =
    let opened = c.in_ok-fields.ensures in
    subst IsStateInRange (sym (same-lines (state_of c.in_ok-fields.fields) _ _ opened.state c.block_lines-lines.ensures)) opened.in_range

pub returns-in_err-check : goal.returns-in_err-check
returns-in_err-check c =
    let opened = c.in_ok-fields.ensures in
    let not =
    may-not-run c.in_err-check.field-0.0 c.args.roms.now c.args.block.now.bytes c.args.microseconds c.args.samples.now _
    c.in_ok-check_roms.ensures opened.holds opened.state c.in_err-check.ensures in
    let told = err_from_is_err_and c.from_residual-in_err-check.result c.from_residual-in_err-check.ensures.1 in
    rw (told.1, told.2) (not, refl, refl, refl)

pub keep_run-requires : goal.keep_run-requires
keep_run-requires c =
    rw (c.run-stop.ensures.stop, c.run-stop.ensures.board) (stopped-early c.put_all.new.machine c.args.microseconds)

pub returns : goal.returns
returns c =
    let opened = c.in_ok-fields.ensures in
    let board =
    c.put_all.ensures
    ∙ (λ i. restored_board (record (c.without_roms-machine.ensures i) { set = set_of_roms c.args.roms.now })
    (same-lines (state_of c.in_ok-fields.fields) _ _ opened.state c.block_lines-lines.ensures i)) in
    let ran = c.run-stop in
    record {
      ran = ran.result.0;
      executed =
          executed c.args.roms.now c.args.block.now.bytes c.args.microseconds c.args.samples.now _ _ _
          ran.new.samples ran.result.0 c.in_ok-check_roms.ensures opened.holds opened.state c.in_ok-check.ensures board
          (rw (ran.ensures.stop, ran.ensures.board) at c.keep_run.ensures) ran.ensures.samples ran.ensures.ran;
      told_is = c.bytes_of-ran.ensures;
    }
