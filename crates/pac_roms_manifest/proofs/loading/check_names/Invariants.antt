use Rattle.pac_roms_manifest.proofs.Common.{drop, first_answer, parts_in_order, unnamed_fault, ◌≡◌}

abbrev pub invariant-loop-part : Rattle.pac_roms_manifest.proofs.loading.check_names.Given.invariant-loop-part
invariant-loop-part l =
    first_answer (unnamed_fault l.manifest l.assembled) (drop l.part-index parts_in_order)
    ≡ first_answer (unnamed_fault l.manifest l.assembled) parts_in_order
