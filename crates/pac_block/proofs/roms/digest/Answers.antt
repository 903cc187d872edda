-- The parts of the set, one after another, are the ROMs.
use Rattle.pac_block.proofs.Common.{List, ap, arith, bytes_at_place, length, part-add, roms_size, set_of_roms, sha1, take_all, ℕ, ◌++◌, ◌+◌}
use Rattle.pac_block.proofs.Common.{◌∙◌, ◌≡◌}

abbrev part : ℕ → ℕ → List ℕ → List ℕ
part = bytes_at_place

-- two parts that stand one after the other
both : (at one next other all : ℕ) (bytes : List ℕ) → at + one ≡ next → one + other ≡ all
    → part at one bytes ++ part next other bytes ≡ part at all bytes
both at one next other all bytes here size = rw (← here, ← size) (part-add at one other bytes)

roms-are : (roms : List ℕ) → length roms ≡ roms_size
    → roms ≡ ((((part 0 16384 roms ++ part 16384 4096 roms) ++ part 20480 4096 roms) ++ part 24576 32 roms) ++ part 24608 256 roms)
    ++ part 24864 256 roms
roms-are roms size =
    rw (
      both 0 16384 16384 4096 20480 roms (omega arith) (omega arith),
      both 0 20480 20480 4096 24576 roms (omega arith) (omega arith),
      both 0 24576 24576 32 24608 roms (omega arith) (omega arith),
      both 0 24608 24608 256 24864 roms (omega arith) (omega arith),
      both 0 24864 24864 256 25120 roms (omega arith) (omega arith),
      take_all 25120 roms (omega (arith, size)),
    )

pub returns : Rattle.pac_block.proofs.roms.digest.Goals.returns
unfolding set_of_roms
returns c = c.digest.ensures ∙ ap sha1 (roms-are c.args.roms.now c.requires)
