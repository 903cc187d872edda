-- Before the furthest index what the steps give was taken before; from there on it is fresh.
use Rattle.pac_debug_session.proofs.Common.{ap, arith, by, longest_stride, ◌-◌, ◌∙◌}
use Rattle.pac_debug_session.proofs.Travelled.{strode-stale}

pub returns : Rattle.pac_debug_session.proofs.session.Session.stride.Goals.returns
returns g c =
    let old = c.args.self.now in
    let index = c.index-index.ensures in
    strode-stale (by g.S.Sink.took g.S.Sink.refused) old c.leap_again.new.self c.args.motion c.args.from c.heeds-2.result
    c.longest_stride-most.result c.heeds-2.ensures
    (c.longest_stride-most.ensures ∙ ap (λ n. longest_stride c.args.motion (n - c.args.from)) index) c.args.sink.now c.args.sink.now
    c.min.result c.leap_again.result (omega arith) c.facts.ensures.within c.leap_again.ensures
