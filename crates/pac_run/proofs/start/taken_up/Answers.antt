use Rattle.pac_run.proofs.Begins.{no-start, taken-up, unloaded}
use Rattle.pac_run.proofs.start.taken_up.Goals as goal

pub returns-in-Err : goal.returns-in-Err
returns-in-Err c =
    rw (c.refusal.ensures) (unloaded c.args.set.now c.args.script.now c.args.bytes.now c.in-Err.fault c.in-Err.ensures.answer.fault)

pub returns-in-None : goal.returns-in-None
returns-in-None c =
    taken-up c.args.set.now c.args.script.now c.args.bytes.now c.in-Ok.board.value (record {
      file = c.in-Ok.ensures.files.file;
      board_is = c.in-Ok.ensures.files.board;
      begins = cc (c.deref-2.ensures, c.frames.ensures.count, c.start_fault.ensures, c.in-None.is);
    }) (rw c.deref.ensures at c.boards_have_states.ensures)

pub returns-in-Some : goal.returns-in-Some
returns-in-Some c =
    no-start c.args.set.now c.args.script.now c.args.bytes.now c.in-Ok.board.value c.in-Some.fault c.in-Ok.ensures.files.file
    c.in-Ok.ensures.files.board (cc (c.deref-2.ensures, c.frames.ensures.count, c.start_fault.ensures, c.in-Some.is))
