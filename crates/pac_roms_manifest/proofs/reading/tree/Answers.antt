use Rattle.std.proofs.Common.{rules}
use Rattle.pac_roms_manifest.proofs.Trees.{tree_found, no_tree}
use Rattle.pac_roms_manifest.proofs.reading.tree.Goals as goal

pub returns-in-Ok : goal.returns-in-Ok
returns-in-Ok c = tree_found _ _ c.in-Ok.ensures.ok.0 c.in-Ok.ensures.ok.1

pub returns-in-Err-2 : goal.returns-in-Err-2
returns-in-Err-2 c = no_tree _ (c.in-Err.ensures.refused (search rules))
