use Rattle.pac_run_files.proofs.Common.{IsReached, length, name_parts, way_of_place, ℕ}
use denote.Text.{Utf8}
use denote.Shadow.{shadow}
use Rattle.pac_run_files.proofs.links.follow.Given as goal

abbrev pub invariant-parts : goal.invariant-parts
invariant-parts g l = shadow (Utf8 l.left) × ((links : ℕ)
    → IsReached (g.D.FileSystem.finds l.disk).link (way_of_place l.fn.place (name_parts l.fn.text) links) (way_of_place l.place
    (name_parts l.left) links))

abbrev pub decreases-parts : goal.decreases-parts
decreases-parts g l = length l.left
