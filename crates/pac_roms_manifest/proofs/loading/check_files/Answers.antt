use Rattle.pac_roms_manifest.proofs.Common.{Program1, file_fault, parts_in_order}
use Rattle.pac_roms_manifest.proofs.Searches.{passed}

pub loop-part-preserved : Rattle.pac_roms_manifest.proofs.loading.check_files.Goals.loop-part-preserved
loop-part-preserved c =
    passed (file_fault c.args.manifest.now c.args.files.now) parts_in_order c.loop-part.part-index Program1 c.loop-part-test.true
    c.in_ok-check_file.ensures c.loop-part.invariant
