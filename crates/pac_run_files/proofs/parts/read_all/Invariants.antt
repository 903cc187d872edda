use Rattle.pac_run_files.proofs.Common.{HasParts, map, take}

abbrev pub invariant-loop-name : Rattle.pac_run_files.proofs.parts.read_all.Given.invariant-loop-name
invariant-loop-name g l = HasParts (g.D.FileSystem.finds l.disk) l.set (map (λ name. name.now) (take l.name-index l.names)) l.parts.items
