use Rattle.pac_asm_program.proofs.Common.{IsZeroElsewhere, Line, List, Placed, ap, arith, byte_over, drop, drop_all, drop_more, flat_map}
use Rattle.pac_asm_program.proofs.Common.{items_in, length, map, range_with_len, rom_of, rom_size, slice_index, subst, sym, ℕ, ◌+◌, ◌-◌}
use Rattle.pac_asm_program.proofs.Common.{◌∙◌, ◌∷◌, ◌≡◌}
use Rattle.pac_asm_program.proofs.Apart.{zero-elsewhere}
use Rattle.pac_asm_program.proofs.WrittenOver.{rom-of-none, rom-of-one-more}
use Rattle.pac_asm_program.proofs.rom.rom_of.Goals as goal

pub loop-count-init : goal.loop-count-init
loop-count-init c = record {
  within = omega arith;
  made = rom-of-none c.in_ok-rom.rom.value c.in_ok-rom.ensures.ok
      ∙ ap (λ (lines : List Line). rom_of (flat_map items_in lines))
      (sym (drop_all (length c.args.lines.now) c.args.lines.now (omega arith)));
}

pub loop-count-preserved-in-Placed : goal.loop-count-preserved-in-Placed
loop-count-preserved-in-Placed c =
    let lines = c.args.lines.now in
    let count = c.loop-count.count in
    let item = c.in-Placed.item in
    let here = sym c.index-lines-count.is ∙ c.in-Placed.is in
    let next : count - 1 + 1 ≡ count = omega (arith, c.loop-count-test.true) in
    let shape : drop (count - 1) lines ≡ Placed item ∷ drop count lines =
    drop_more lines (count - 1) c.index-lines-count.result (omega (arith, c.loop-count-test.true, c.loop-count.invariant.within))
    ∙ (λ i. here i ∷ drop (next i) lines) in
    let before : c.deref_mut.result.now ≡ rom_of (flat_map items_in (drop count lines)) = c.deref_mut.ensures.value ∙
    c.loop-count.invariant.made in
    record {
      within = omega (arith, c.loop-count.invariant.within);
      made = c.put.ensures
          ∙ ap (λ (old : List ℕ). map (λ n. byte_over item n (slice_index old n)) (range_with_len 0 rom_size)) before
          ∙ rom-of-one-more item (flat_map items_in (drop count lines))
          ∙ sym (ap (λ (lines : List Line). rom_of (flat_map items_in lines)) shape);
    }

pub returns-clause-zero : goal.returns-clause-zero
returns-clause-zero c =
    let items = flat_map items_in c.args.lines.now in
    let none : c.loop-count.count ≡ 0 = omega (arith, c.loop-count-test.false) in
    subst (λ (rom : List ℕ). IsZeroElsewhere rom items)
    (sym (c.loop-count.invariant.made ∙ ap (λ count. rom_of (flat_map items_in (drop count c.args.lines.now))) none))
    (zero-elsewhere items)
