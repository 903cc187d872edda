use Rattle.std.proofs.Common.{arith}
use Rattle.pac_roms_manifest.proofs.Sizes.{sized_loan, sized_program}

pub put-requires : Rattle.pac_roms_manifest.proofs.loading.load_set_into.Goals.put-requires
put-requires c = grind (arith, sized_loan, sized_program)
