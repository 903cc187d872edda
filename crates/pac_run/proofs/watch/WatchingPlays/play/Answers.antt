use Rattle.pac_run.proofs.Common.{by, lines, rules, sym, writing, ◌∙◌}
use Rattle.pac_run.proofs.Watching.{of-session}
use Rattle.pac_run.proofs.watch.WatchingPlays.play.Goals as goal

pub watch_new-requires : goal.watch_new-requires
watch_new-requires g c = search rules

pub returns : goal.returns
returns g c =
    of-session (by g.S.Sink.took g.S.Sink.refused) (writing g.T.Out.took g.T.Out.refused c.args.self.now.text c.watch_new.new.text)
    (lines c.args.self.now.commands.now) _ _ c.args.self.now.session c.unwrap-session.result
    (sym c.take.ensures.value ∙ c.unwrap-session.ensures) c.args.sink.now c.watch_new.new.sink c.watch_new.result c.watch_new.ensures
