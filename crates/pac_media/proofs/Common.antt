-- The words that proofs here, and those of crates above, import of definitions, of std and of the crates below.

pub use Rattle.pac_out.proofs.Common.{Err, HasStopped, HasTaken, List, Ok, Puts, Refuses, Result, Stops, StopsAfter, [], ap, append-nil}
pub use Rattle.pac_out.proofs.Common.{append_assoc, arith, drop, err_from_is_err_and, flat_map, length, length-append, length-drop}
pub use Rattle.pac_out.proofs.Common.{lent_refused, lent_took, refl, rules, subst, sym, take-add, take-append-add, ℕ, ◌++◌, ◌+◌, ◌<◌, ◌^◌}
pub use Rattle.pac_out.proofs.Common.{◌∙◌, ◌≡◌, ◌≤◌}
pub use Rattle.pac_picture.proofs.Common.{Bool, Each1-from_get_or, IsPicture, SwzOk, SwzOk-from_below, add-one, bit_at-lt, bit_at-zero}
pub use Rattle.pac_picture.proofs.Common.{bit_at_or, cases_lt, common_steps, eqb-true, get_or, get_or-append_right, get_or-drop, get_or-map}
pub use Rattle.pac_picture.proofs.Common.{get_or-swz_l_below, get_or-take, get_or_append_left, get_or_default, if◌then◌else◌, length-map}
pub use Rattle.pac_picture.proofs.Common.{length-take-le, map, pos, replicate, same_lists, set, slice_index, suc, swz_l, true, w8, zero}
pub use Rattle.pac_picture.proofs.Common.{◌*◌, ◌-◌, ◌/◌, ◌↔◌, ◌∷◌}
unfoldable pub use Rattle.pac_picture.proofs.Common.{black, tabulate}
pub use Rattle.pac_media.specs.Drawn.{AreColours, ArePlanes, IsDrawnTo, rgb_pixels}
pub use Rattle.pac_media.specs.Images.{header, palette_colour}
unfoldable pub use Rattle.pac_media.specs.Images.{ppm_of}
pub use Rattle.pac_media.specs.ImagesProofs.{image_size}
pub use Rattle.pac_media.specs.Samples.{header_size, sample_text, samples_text}
unfoldable pub use Rattle.pac_media.specs.Samples.{wav_header}
pub use Rattle.pac_media.specs.Sound.{Delivers, FinishesSound, Gains, HasText, Sound, SoundFails, sample_room}
pub use Rattle.pac_out.proofs.Files.{Joins, stops-after, stops-within}
pub use Rattle.pac_out.specs.declared.WriteFault.{WriteFault}
pub use Rattle.pac_out.specs.declared.counted.Counted.{Counted}
pub use Rattle.pac_picture.proofs.Composed.{black-picture, set-picture}
pub use Rattle.std.proofs.Common.{EachIndex, IsTrue, eqb, length-take, take, vec_capacity, vec_len, w16}
pub use Rattle.std.proofs.Math.Seq.{drop-append-add, drop-cons}
pub use Rattle.std.proofs.lemmas.Bool.Decides.{Decides-eqb}
pub use Rattle.std.proofs.lemmas.Grind.{flat_map-append}
pub use Rattle.std.proofs.lemmas.Int.{to_z-of_z}
pub use Rattle.std.proofs.lemmas.List.{drop-drop, drop-take, ext_get_or, flat_map_more, replicate-append-replicate, replicate_more}
pub use Rattle.std.proofs.lemmas.List.{set_split, take-take, take_all, take_at, take_more}
pub use Rattle.std.proofs.lemmas.Nat.Bits.{bit_at_xor, same_from_bits}
pub use Rattle.std.proofs.lemmas.Simd.{length-swz_l, pick_l_whole}
pub use Rattle.std.proofs.lemmas.Slice.{take-put_mid}
pub use Rattle.std.proofs.lemmas.Slice.Eq.{slice_eq-Decides}
pub use Rattle.std.specs.Int.{from_le_bytes, to_le_bytes, w64}
pub use Rattle.std.specs.Int.Bits.{xor_self}
pub use Rattle.std.specs.Int.RustNames.{bit_or, bit_xor}
pub use Rattle.std.specs.List.{range_with_len}
