use Rattle.pac_machine.proofs.Common.{Parts, PictureState, SoundSource, ap, palette_of, rules, sym, video_roms, zero_parts, zero_roms, ◌∙◌}

pub invariant_of-result : Rattle.pac_machine.proofs.machine.Machine.without_roms.Goals.invariant_of-result
unfolding zero_parts zero_roms
invariant_of-result c = record {
  steps = search rules;
  time = search rules;
  count = rw c.new.ensures (search rules);
  roms = ap (λ (picture : PictureState). picture.roms) c.zeroed-2.ensures.picture ∙ sym (ap video_roms c.zeroed.ensures);
  palette =
      ap (λ (picture : PictureState). picture.palette) c.zeroed-2.ensures.picture
      ∙ sym (ap (λ (set : Parts). palette_of set.colours) c.zeroed.ensures);
  wave = ap (λ (source : SoundSource). source.prom) c.of.ensures ∙ sym (ap (λ (set : Parts). set.wave) c.zeroed.ensures);
}
