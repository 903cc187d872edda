use Rattle.pac_run.proofs.Common.{by, lent_refused, lent_took, lines}
use Rattle.pac_run.proofs.Lent.{carries-back}
use Rattle.pac_run.proofs.Watching.{plays}

pub returns : Rattle.pac_run.proofs.watch.watch_new.Goals.returns
returns g c =
    plays (by g.S.Sink.took g.S.Sink.refused) (lent_took g.T.Out.took) (lent_refused g.T.Out.refused) (lines c.args.commands.now)
    (record { session = c.args.session; sink = c.args.sink.now; text = c.new-words.result })
    (record { session = c.watch-watched.ensures.left; sink = c.watch-watched.new.sink; text = c.watch-watched.new.text })
    c.requires _ c.new-words.ensures _
    (carries-back g.T.Out.took g.T.Out.refused _ c.watch-watched.new.text.writer _ _ c.into_writer.ensures (assumption)) _
    c.watch-watched.result c.watch-watched.ensures.watched
