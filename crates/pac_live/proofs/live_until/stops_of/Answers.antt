-- The addresses of the set.
use Rattle.pac_live.proofs.Common.{List, ap, arith, inr, length, take_all, ℕ, ◌∙◌, ◌≡◌}
use Rattle.std.proofs.Common.{◌==◌, not, slice_index}

pub returns : Rattle.pac_live.proofs.live_until.stops_of.Goals.returns
returns c =
    let long : length c.args.places.now ≡ 65536 = omega arith in
    let whole = c.chunk.ensures ∙ take_all 65536 c.args.places.now (omega (arith, long)) in
    (inr long, λ address. rw c.at.ensures (ap (λ (places : List ℕ). not (slice_index places address == 0)) whole))
