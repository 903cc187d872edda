use Rattle.pac_roms_manifest.proofs.Common.{Program1, arith, file_of_part, filter_map-one-more, option_copied, parts_in_order}
use Rattle.pac_roms_manifest.proofs.Searches.{pushed, skipped}
use Rattle.pac_roms_manifest.proofs.manifest.Manifest.files.Goals.{in-Some+in_ok-push, in_default}

pub loop-part-preserved : Rattle.pac_roms_manifest.proofs.manifest.Manifest.files.Goals.loop-part-preserved
loop-part-preserved c =
    let more =
    filter_map-one-more (file_of_part c.args.self.now) parts_in_order c.loop-part.part-index Program1 (option_copied c.file.result)
    c.loop-part-test.true c.file.ensures in grind (arith, in-Some+in_ok-push, in_default, pushed, skipped)
