-- From frame to frame, to the end of the run.
use Rattle.pac_board_course.proofs.Common.{by, end_of, err_from_is_err_and, is_some, rules, true, ◌<◌, ◌≡◌, ◌≤◌}
use Rattle.pac_board_course.proofs.Whole.{underway-held-up, underway-stopped, underway-on, underway-ends}
use Rattle.pac_board_course.proofs.course.Course.run_to_end.Goals as goal

pub returns-in_err-stop : goal.returns-in_err-stop
returns-in_err-stop g c =
    let told = err_from_is_err_and c.from_residual.result c.from_residual.ensures.1 in
    rw told.1
    (underway-held-up (by g.S.Sink.took g.S.Sink.refused) c.args.self.now c.args.sink.now c.frames.self c.play_frame.new.self c.frames.sink
    c.play_frame.new.sink c.frames.invariant c.in_err-stop.ensures)

pub returns-then-is_some : goal.returns-then-is_some
returns-then-is_some g c =
    let met : is_some c.in_ok-stop.stop ≡ true = search rules in
    let early : c.frames.self.board.state.now.time < end_of c.frames.self = search rules in
    underway-stopped (by g.S.Sink.took g.S.Sink.refused) c.args.self.now c.args.sink.now c.frames.self c.play_frame.new.self
    c.in_ok-stop.stop c.frames.sink c.play_frame.new.sink c.frames.invariant early met c.in_ok-stop.ensures

pub frames-preserved : goal.frames-preserved
frames-preserved g c =
    underway-on (by g.S.Sink.took g.S.Sink.refused) c.args.self.now c.args.sink.now c.frames.self c.play_frame.new.self c.frames.sink
    c.play_frame.new.sink c.frames.invariant c.in_ok-stop.ensures.played

pub returns : goal.returns
returns g c =
    let late : end_of c.frames.self ≤ c.frames.self.board.state.now.time = search rules in
    underway-ends (by g.S.Sink.took g.S.Sink.refused) c.args.self.now c.args.sink.now c.frames.self c.frames.sink c.frames.invariant late
