-- The calls on a host's blocks are the calls of one board, whose count of steps is all that its blocks don't keep.
use Rattle.pac_block.proofs.Common.{AreCallsOfBoard, AreDone, BlocksAreOneBoard, BoardState, BoardValue, Bool, HostCall, IsCallDone}
use Rattle.pac_block.proofs.Common.{IsCallOfBoard, IsFile, LetTimePass, List, PowerOn, TakeFile, [], ap, board_after_exec, board_of_file}
use Rattle.pac_block.proofs.Common.{if◌then◌else◌, refl, rules, set_of_roms, state_in, ℕ, ◌==◌, ◌∷◌, ◌≡◌}

-- the board of these ROMs in this state, which counted so many steps
abbrev kept : List ℕ → BoardState → ℕ → BoardValue
kept roms state made = record { set = set_of_roms roms; state = state; made = made }

-- ---- one call

-- the board that was kept has the state of the block, before the call and after it
record IsOneCall (roms : List ℕ) (call : HostCall) (old new : List ℕ) (made : ℕ) : Type 0 where
  after : ℕ
  call_is : IsCallOfBoard call (kept roms (state_in old) made) (kept roms (state_in new) after)

-- a file's board has its set, and no step is counted yet
upgraded-is : (b : Bool) (board view : BoardValue) → board.set ≡ view.set → board.made ≡ view.made
    → ◌≡◌ {A = BoardValue}
    (record { set = board.set; state = (if b then view else board).state; made = board.made })
    (if b then view else board)
upgraded-is b board view set made = search rules

file-board-is : (roms text : List ℕ) (file : IsFile (set_of_roms roms) text)
    → kept roms (board_of_file (set_of_roms roms) file).state 0 ≡ board_of_file (set_of_roms roms) file
file-board-is roms text file = upgraded-is (file.version == 1) (kept roms file.state 0) _ refl refl

one-call : (roms : List ℕ) (call : HostCall) (old new : List ℕ) (made : ℕ) → IsCallDone roms call old new → IsOneCall roms call old new made
one-call roms (PowerOn switches) old new made done = record { after = 0; call_is = rw done.board.state_is }
one-call roms (LetTimePass microseconds) old new made done = record {
  after = (board_after_exec (kept roms (state_in old) made) microseconds).made;
  call_is = rw done.3.board.state_is;
}
one-call roms (TakeFile text) old new made done = record {
  after = 0;
  call_is = (done.file, rw (done.board done.file).state_is (file-board-is roms text done.file));
}
one-call roms call old new made done = record { after = made; call_is = rw (done.board roms).state_is }

-- ---- calls, one after another

record AreMade (roms : List ℕ) (calls : List HostCall) (old new : List ℕ) (made : ℕ) : Type 0 where
  board : BoardValue
  calls_are : AreCallsOfBoard calls (kept roms (state_in old) made) board
  state : state_in new ≡ board.state

are-made : (roms : List ℕ) (calls : List HostCall) (old new : List ℕ) (made : ℕ) → AreDone roms calls old new
    → AreMade roms calls old new made
are-made roms [] old new made done = record { board = kept roms (state_in old) made; calls_are = refl; state = ap state_in done }
are-made roms (call ∷ calls) old new made done =
    let one = one-call roms call old done.0 made done.1 in
    let more = are-made roms calls done.0 new one.after done.2 in search rules

pub blocks-are-one-board : BlocksAreOneBoard
blocks-are-one-board roms calls old new done = let all = are-made _ _ _ _ _ done in
    record { board = all.board; made = all.calls_are; state = all.state }
