-- The call, by the set, the map and the time.
use Rattle.pac_live.proofs.Common.{ap, arith, refl, ℕ, ◌+◌, ◌∙◌}
use Rattle.pac_live.proofs.UntilEnds.{gone-same}

pub returns : Rattle.pac_live.proofs.live_until.until_board.Goals.returns
returns c =
    let set = c.in_ok-stops.ensures in
    let limit = c.in_ok-limit.ensures in
    let last = limit.0 ∙ ap (λ (time : ℕ). time + c.args.ticks) c.time.ensures.time in
    let within = limit.1 in
    record {
      set = set.0;
      map = c.in_ok-check_map.ensures;
      within = omega (arith, last, within);
      gone = gone-same set.1 refl last c.go_by.ensures;
    }
