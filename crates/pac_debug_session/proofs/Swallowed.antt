-- A sink that keeps nothing takes any outputs and stays as it is.
use Rattle.pac_debug_session.proofs.Common.{List, Output, Swallows, TookAll, [], refl, ◌∷◌}

pub swallowed : {S : Type 0} (outputs : List Output) (sink : S) → TookAll (Swallows {S = S}) sink outputs sink
swallowed [] sink = refl
swallowed (output ∷ more) sink = record { between = sink; before = refl; after = swallowed more sink }
