use Rattle.pac_run_files.proofs.Common.{climbs, length, ◌≡◌}
use denote.Text.{Utf8}
use denote.Shadow.{shadow}
use Rattle.pac_run_files.proofs.names.climbs.Given as goal

abbrev pub invariant-parts : goal.invariant-parts
invariant-parts l = shadow (Utf8 l.rest) × (climbs l.rest ≡ climbs l.fn.name)

abbrev pub decreases-parts : goal.decreases-parts
decreases-parts l = length l.rest
