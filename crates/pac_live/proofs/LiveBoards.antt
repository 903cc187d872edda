-- The calls of a live board are those of the one board.
use Rattle.pac_live.proofs.Common.{BoardCall, BoardValue, HoldInputs, IsMadeOn, LetTimePass, LiveCallsAreOfOneBoard, Lives, Ok, PacLive}
use Rattle.pac_live.proofs.Common.{PowerOn, ResetNow, TakeFile, ap, arith, board_of_file, inl, inr, power_on_board, refl, rules, sym, ◌∙◌}

-- a call that was done was made on an open handle's board
made-of : (stays : Type 0) (call : BoardCall) (old new : PacLive) → Lives stays call (Ok tt) old new → IsMadeOn call (Ok tt) old new
made-of stays call old new (inl made) = made
made-of stays call old new (inr closed) = let no = closed.answer_is in absurd (cc)

pub live-calls-are-of-one-board : LiveCallsAreOfOneBoard
live-calls-are-of-one-board (PowerOn switches) old new done = record {
  board = new.board;
  made = ap (λ (live : PacLive). live.board) done.1.handle ∙ ap (λ set. power_on_board set switches) done.2;
  same = refl;
}
live-calls-are-of-one-board ResetNow old new done = search (rules, arith, made-of)
live-calls-are-of-one-board (HoldInputs set clear) old new done = search (rules, arith, made-of)
live-calls-are-of-one-board (LetTimePass microseconds) old new done = search (rules, arith, made-of)
live-calls-are-of-one-board (TakeFile text) old new done =
    let one = made-of _ _ old new done in
    let board = board_of_file old.board.set one.made.file in
    record {
      board = board;
      made = (one.made.file, refl);
      same = one.made.board ∙ ap (λ made. record board { made = made }) (sym (ap (λ (b : BoardValue). b.made) one.made.board));
    }
