-- The answer is the board's, and the next frame's inputs are held where it has ended.
use Rattle.pac_board_course.proofs.Common.{CourseValue, board_with_inputs, by, frame_end, inl, inr, min, refl, rules, ◌<◌, ◌≡◌, ◌≤◌}
use Rattle.pac_board_course.proofs.Framed.{next_mask, gone-told}
use Rattle.pac_board_course.proofs.road.go.Goals as goal

pub returns-then-time-blank : goal.returns-then-time-blank
returns-then-time-blank g c =
    let old : CourseValue = record { board = c.args.board.now; script = c.args.script.now; gone = c.args.gone } in
    let until : c.min.result ≡ min c.args.limit (frame_end old) = search rules in
    let ended : frame_end old ≤ c.go-played.new.self.state.now.time = search rules in
    let held : c.hold.new.board ≡ board_with_inputs c.go-played.new.self (next_mask old) = search rules in
    gone-told (by g.S.Sink.took g.S.Sink.refused) old c.go-played.new.self c.hold.new.board c.args.sink.now c.go-played.new.sink
    c.args.limit c.min.result until c.args.stops.now c.args.told.now c.go-played.new.told c.go-played.result c.requires.early
    c.requires.begun (inl (ended, held)) c.go-played.ensures.made c.go-played.ensures.told c.go-played.ensures.passes

pub returns-else-time-blank : goal.returns-else-time-blank
returns-else-time-blank g c =
    let old : CourseValue = record { board = c.args.board.now; script = c.args.script.now; gone = c.args.gone } in
    let until : c.min.result ≡ min c.args.limit (frame_end old) = search rules in
    let before : c.go-played.new.self.state.now.time < frame_end old = search rules in
    gone-told (by g.S.Sink.took g.S.Sink.refused) old c.go-played.new.self c.go-played.new.self c.args.sink.now c.go-played.new.sink
    c.args.limit c.min.result until c.args.stops.now c.args.told.now c.go-played.new.told c.go-played.result c.requires.early
    c.requires.begun (inr (before, refl)) c.go-played.ensures.made c.go-played.ensures.told c.go-played.ensures.passes
