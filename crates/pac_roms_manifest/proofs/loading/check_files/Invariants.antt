use Rattle.pac_roms_manifest.proofs.Common.{drop, file_fault, first_answer, parts_in_order, ◌≡◌}

abbrev pub invariant-loop-part : Rattle.pac_roms_manifest.proofs.loading.check_files.Given.invariant-loop-part
invariant-loop-part l =
    first_answer (file_fault l.manifest l.files) (drop l.part-index parts_in_order)
    ≡ first_answer (file_fault l.manifest l.files) parts_in_order
