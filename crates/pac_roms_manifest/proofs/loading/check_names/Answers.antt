use Rattle.pac_roms_manifest.proofs.Common.{Program1, arith, parts_in_order, unnamed_fault}
use Rattle.pac_roms_manifest.proofs.Searches.{passed, named_part}

pub loop-part-preserved : Rattle.pac_roms_manifest.proofs.loading.check_names.Goals.loop-part-preserved
loop-part-preserved c =
    passed (unnamed_fault c.args.manifest.now c.args.assembled) parts_in_order c.loop-part.part-index Program1 c.loop-part-test.true
    (grind (arith, named_part)) c.loop-part.invariant
