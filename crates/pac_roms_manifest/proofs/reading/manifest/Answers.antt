use Rattle.std.proofs.Common.{arith}
use Rattle.std.proofs.lemmas.Bool.Decides.{nat_tests}

pub returns : Rattle.pac_roms_manifest.proofs.reading.manifest.Goals.returns
returns c =
    grind (
      arith,
      nat_tests,
      c.in_ok-program.ensures,
      c.in_ok-part.ensures,
      c.in_ok-part-2.ensures,
      c.in_ok-part-3.ensures,
      c.in_ok-part-4.ensures,
      c.in_ok-part-5.ensures,
      c.in_ok-part-6.ensures,
    )
