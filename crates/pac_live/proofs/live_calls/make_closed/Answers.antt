-- A handle that isn't open stays.
use Rattle.pac_live.proofs.Common.{PacLive, ap, arith, refl}

pub returns-else-seal-eq-SEAL : Rattle.pac_live.proofs.live_calls.make_closed.Goals.returns-else-seal-eq-SEAL
returns-else-seal-eq-SEAL c =
    let kept = ap (λ (live : PacLive). live.seal) c.seal.ensures.1 in
    record { closed = λ equal. omega (arith, kept, equal); handle = rw c.seal.ensures.1 refl }
