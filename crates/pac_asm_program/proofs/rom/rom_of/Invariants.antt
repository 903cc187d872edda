use Rattle.pac_asm_program.proofs.Common.{drop, flat_map, items_in, length, rom_of, ◌≡◌, ◌≤◌}
use Rattle.pac_asm_program.proofs.rom.rom_of.Given as goal

abbrev pub invariant-loop-count : goal.invariant-loop-count
invariant-loop-count l = record {
  within : l.count ≤ length l.lines;
  made : l.rom.value ≡ rom_of (flat_map items_in (drop l.count l.lines));
}

abbrev pub decreases-loop-count : goal.decreases-loop-count
decreases-loop-count l = l.count
