use Rattle.pac_run.proofs.Common.{Wave, lent_refused, lent_took, played, reel, refl, writing, ◌∙◌}
use Rattle.pac_run.proofs.Played.{begun, header-broke}
use Rattle.pac_run.proofs.Lent.{breaks, carries-back, itself, records}
use Rattle.pac_run.proofs.film.record_run.Goals as goal

pub returns-in-Err : goal.returns-in-Err
returns-in-Err g c =
    let play = played g.P.Plays.playing c.args.player.now c.args.player.now in
    let frames = writing g.F.Out.took g.F.Out.refused c.args.frames.now c.args.frames.now in
    let broke = header-broke play frames refl refl (lent_took g.W.Out.took) (lent_refused g.W.Out.refused) _ c.total.result
    c.begin-wave.result c.flush.new.self c.in-Err.fault c.total.ensures.count c.begin-wave.ensures.text c.in-Err.ensures.written in
    rw c.of_wave.ensures (breaks (itself frames)
    (carries-back g.W.Out.took g.W.Out.refused _ c.flush.new.self.file.writer _ _ c.into_writer.ensures (assumption)) play Wave
    c.in-Err.fault.count broke)

pub returns : goal.returns
returns g c =
    let play = played g.P.Plays.playing c.args.player.now c.perform-recorded.new.player in
    let at = reel (lent_took g.F.Out.took) (lent_refused g.F.Out.refused) (lent_took g.W.Out.took) (lent_refused g.W.Out.refused) _ _ in
    let ready = begun at c.total.result play.frames c.new.result c.begin-wave.result c.flush.new.self c.total.ensures.count c.new.ensures
    c.begin-wave.ensures.text c.in_default.ensures.written (c.flush.ensures.owed ∙ c.begin-wave.ensures.owed) in
    records (carries-back g.F.Out.took g.F.Out.refused _ c.perform-recorded.new.self.frames.writer _ _ c.into_writer-2.ensures (assumption))
    (carries-back g.W.Out.took g.W.Out.refused _ c.perform-recorded.new.self.wave.file.writer _ _ c.into_writer-3.ensures (assumption))
    play c.perform-recorded.result (c.perform-recorded.ensures _ _ ready)
