use Rattle.pac_roms_manifest.proofs.Common.{file_of_part, filter_map, map, parts_in_order, take, ◌≡◌}

abbrev pub invariant-loop-part : Rattle.pac_roms_manifest.proofs.manifest.Manifest.files.Given.invariant-loop-part
invariant-loop-part l = map (λ name. name.now) l.names.items ≡ filter_map (file_of_part l.self) (take l.part-index parts_in_order)
