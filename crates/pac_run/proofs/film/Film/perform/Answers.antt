use Rattle.pac_run.proofs.Common.{arith, played, reel, refl}
use Rattle.pac_run.proofs.Played.{at-refusal, at-text, broke-off, ended, held-up}
use Rattle.pac_run.proofs.film.Film.perform.Goals as goal

pub returns-in-Ok : goal.returns-in-Ok
returns-in-Ok g c = λ frames wave begun.
    ended (reel g.F.Out.took g.F.Out.refused g.W.Out.took g.W.Out.refused frames wave) _ c.args.self.now begun c.in-Ok.outcome
    c.play.new.sink c.finish.new.self c.in-Ok.ensures c.finish.ensures.frames c.finish.result c.finish.ensures.outcome
    c.finish.ensures.sound

pub returns-in-Err-Refused : goal.returns-in-Err-Refused
returns-in-Err-Refused g c = λ frames wave begun.
    let play = played g.P.Plays.playing c.args.player.now c.play.new.self in
    held-up (reel g.F.Out.took g.F.Out.refused g.W.Out.took g.W.Out.refused frames wave) play c.args.self.now begun g.met.F.Out.joined
    c.play.new.sink c.refusal.result (grind (arith, at-refusal)) c.refusal.ensures

pub returns-in-Err-Text : goal.returns-in-Err-Text
returns-in-Err-Text g c = λ frames wave begun.
    let play = played g.P.Plays.playing c.args.player.now c.play.new.self in
    broke-off (reel g.F.Out.took g.F.Out.refused g.W.Out.took g.W.Out.refused frames wave) play c.args.self.now begun
    c.play.new.sink (record c.play.new.sink { wave = c.flush.new.self }) c.in-Err-Text.fault.count
    (grind (arith, at-text)) refl c.flush.result c.flush.ensures.written
