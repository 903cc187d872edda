use Rattle.pac_run_files.proofs.Common.{IsReached, name_parts, string_bytes, way_from, way_of_place}
use Rattle.pac_run_files.proofs.links.lead.Given as goal

abbrev pub invariant-links : goal.invariant-links
invariant-links g l = IsReached (g.D.FileSystem.finds l.disk).link (way_from l.folder l.name) (way_of_place l.place (name_parts
    (string_bytes l.text)) l.links)

abbrev pub decreases-links : goal.decreases-links
decreases-links g l = l.links
