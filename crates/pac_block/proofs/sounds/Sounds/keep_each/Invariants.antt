-- So many of them were taken, and there is room for the others.
use Rattle.pac_block.proofs.Common.{Sound, TookAll, map, sounding_room, sounding_took, take, ◌-◌, ◌≡◌}

abbrev pub invariant-loop-sample : Rattle.pac_block.proofs.sounds.Sounds.keep_each.Given.invariant-loop-sample
invariant-loop-sample l = record {
  took : TookAll sounding_took l.initial.self (map Sound (take l.sample-index l.samples)) l.self;
  room : sounding_room l.self ≡ sounding_room l.initial.self - l.sample-index;
}
