-- The buffer has all samples, since there is room for them.
use Rattle.pac_block.proofs.Common.{arith, outputs_given, picture_count, rules, sound_count, time_of, ◌+◌, ◌≡◌}
use Rattle.pac_block.proofs.Sounding.{are-written, runs-to-its-end, sounds-bounded, pictures-bounded}
use Rattle.pac_block.proofs.time.run.Goals as goal

pub overflow_cast-sounds : goal.overflow_cast-sounds
overflow_cast-sounds c =
    let old = c.args.machine.now in
    let outputs = outputs_given old c.args.microseconds in
    let written = are-written outputs _ c.exec.new.sink (omega arith) (omega arith) c.in-Ok.ensures.sink_is in
    let count = written.taken in
    let bound = sounds-bounded old c.args.microseconds (time_of (old.state.asked + c.args.microseconds)) in
    let room = c.requires.room in
    omega (arith, count, bound, room)

pub returns-in-Ok-clause-samples : goal.returns-in-Ok-clause-samples
returns-in-Ok-clause-samples c =
    let outputs = outputs_given c.args.machine.now c.args.microseconds in
    let written = are-written outputs _ c.exec.new.sink (omega arith) (omega arith) c.in-Ok.ensures.sink_is in
    let same = written.same in
    let count : c.exec.new.sink.taken ≡ sound_count outputs = let t = written.taken in omega (arith, t) in
    let whole = rw count at written.samples in
    search rules

pub returns-in-Ok-clause-ran : goal.returns-in-Ok-clause-ran
returns-in-Ok-clause-ran c =
    let old = c.args.machine.now in
    let outputs = outputs_given old c.args.microseconds in
    let ran = c.in-Ok.ensures in
    let written = are-written outputs _ c.exec.new.sink (omega arith) (omega arith) ran.sink_is in
    let room = c.requires.room in
    let few = pictures-bounded old c.args.microseconds (omega (arith, room)) in
    let samples : c.exec.new.sink.taken ≡ sound_count outputs = let t = written.taken in omega (arith, t) in
    let pictures : c.exec.new.sink.pictures ≡ picture_count outputs = let p = written.pictures in omega (arith, few, p) in
    cc (c.told.ensures, ran.ticks, ran.board, ran.stop)

pub returns-in-Err : goal.returns-in-Err
returns-in-Err c =
    let room = c.requires.room in
    runs-to-its-end c.in-Err.field-0 c.args.machine.now c.args.microseconds _ c.exec.new.self c.exec.new.sink (omega arith) (omega arith)
    c.requires.within (omega (arith, room)) c.in-Err.ensures
