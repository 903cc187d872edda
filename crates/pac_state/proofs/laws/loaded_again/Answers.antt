use Rattle.pac_state.proofs.Common.{Accepts, BoardValue, Err, IsFile, List, LoadRefused, LoadsAgain, LoadsBoard, Ok, Parts, Result, arith}
use Rattle.pac_state.proofs.Common.{common_steps, refl, unboxed, written_version, ℕ, ◌∙◌, ◌≡◌}

loads : (set : Parts) (bytes : List ℕ) (old : BoardValue) (file : IsFile set bytes) → file.version ≡ written_version
    → file.state ≡ old.state → (result : Result BoardValue LoadRefused)
    → LoadsBoard set bytes result → Accepts set bytes result → LoadsAgain set old result
loads set bytes old file version state (Ok board) answers accepts = accepts.board file ∙ rw (version, state) refl
loads set bytes old file version state (Err refused) answers accepts = record { same_set = answers.same_set; fault = accepts file }

pub returns : Rattle.pac_state.proofs.laws.loaded_again.Goals.returns
returns c =
    let board = c.args.board.now in
    let file : IsFile c.args.set c.args.bytes.now = record {
      version = written_version;
      known = refl;
      state = board.state;
      is_state = c.boards_have_states.ensures;
      text = grind (arith, common_steps);
    } in
    loads c.args.set c.args.bytes.now board file refl refl (unboxed c.load.result) c.load.ensures.answer c.load.ensures.files
