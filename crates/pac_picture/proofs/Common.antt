-- The words that proofs here, and those of crates above, import of definitions, of std and of the crates below.

pub use Rattle.pac_sprites.proofs.Common.{arith, box_place, flipped_place, ints, is_column_of, is_in_box, length, nat_le, nat_lt, nat_tests}
pub use Rattle.pac_sprites.proofs.Common.{pixel_byte_index, pixel_value-below, pos, rules, set-one-more, slice_index, sprite_of, ℕ, ℤ, ◌&&◌}
pub use Rattle.pac_sprites.proofs.Common.{◌+ℤ◌, ◌<◌, ◌≡◌, ◌≤◌}
pub use Rattle.pac_colour.specs.Colours.{rgb_of}
pub use Rattle.pac_lemmas.proofs.Lists.{get_or-before-put_mid, get_or-in-put_mid, get_or-replicate-all}
pub use Rattle.pac_num.proofs.Tabulated.{get_or-tabulate, length-tabulate, tabulate-is, tabulate-same}
pub use Rattle.pac_num.specs.Pixels.{pixel_value}
unfoldable pub use Rattle.pac_num.specs.Tabulate.{tabulate}
pub use Rattle.pac_picture.specs.CleanLines.{AreClean, AreSameOn, MarksClean, seen_sprite, sprites_at, unflipped_line}
unfoldable pub use Rattle.pac_picture.specs.CleanLines.{seen_dot, seen_line}
pub use Rattle.pac_picture.specs.Decoded.{AreNumbersOf, ArePlaces, AreValues}
unfoldable pub use Rattle.pac_picture.specs.Decoded.{sprite_values, tile_pair}
pub use Rattle.pac_picture.specs.Laws.{StaleCellsAreDrawn, cell_row_of}
pub use Rattle.pac_picture.specs.Layer.{AreStale, cell_differs, differing_in, drawn_from, no_shadow, shadow_at, shadow_from}
unfoldable pub use Rattle.pac_picture.specs.Layer.{all_differing, cells_of, differing_cells}
pub use Rattle.pac_picture.specs.LayerProofs.{IsDrawn, IsLayer, LayerState, made_stale, row_dot, stale_row}
unfoldable pub use Rattle.pac_picture.specs.LayerProofs.{kept_dot, stale_rows, zero_roms}
pub use Rattle.pac_picture.specs.Painting.{painted_number, painted_yet, told_number}
unfoldable pub use Rattle.pac_picture.specs.Painting.{over_line}
pub use Rattle.pac_picture.specs.Picture.{VideoMemory, VideoRoms, is_opaque, sprite_at}
unfoldable pub use Rattle.pac_picture.specs.Picture.{dot, picture_line, sprite_dot, sprite_number, tile_dot, tile_number}
unfoldable pub use Rattle.pac_picture.specs.PictureLaws.{picture_of}
pub use Rattle.pac_picture.specs.PictureProofs.{lines_composed}
pub use Rattle.pac_picture.specs.State.{IsPicture}
unfoldable pub use Rattle.pac_picture.specs.State.{black, palette_of}
pub use Rattle.pac_picture.specs.StateLaws.{PictureState, source_of}
pub use Rattle.pac_picture.specs.Strips.{AreDrawn, AreLike, IsTwin, beside, has_marked, pattern_dot, twin_dot}
unfoldable pub use Rattle.pac_picture.specs.Strips.{tile_pairs}
pub use Rattle.pac_picture.specs.Tiles.{height}
pub use Rattle.pac_picture.specs.declared.clean.SpriteBytes.{SpriteBytes}
pub use Rattle.pac_picture.specs.declared.layer.Strip.{Strip}
pub use Rattle.pac_picture.specs.declared.shadow.Shadow.{Shadow}
pub use Rattle.pac_sprites.specs.declared.Sprite.{Sprite}
pub use Rattle.pac_tiles.specs.Tiles.{offset_of}
pub use Rattle.std.proofs.Common.{Bool, List, None, Some, [], add-one, ap, below_more, bit_and, bit_or, cond, drop, false, get_or}
pub use Rattle.std.proofs.Common.{get_or-set_other, get_or-set_same, if◌then◌else◌, length-append, length-set, map, not, refl, replicate}
pub use Rattle.std.proofs.Common.{set, subst, suc, sym, true, w8, zero, ◌%◌, ◌*◌, ◌++◌, ◌+◌, ◌-ℤ◌, ◌-◌, ◌/◌, ◌==◌, ◌^◌, ◌||◌, ◌↔◌, ◌∙◌, ◌∷◌}
pub use Rattle.std.proofs.Common.{◌≢◌, ◌≤ℤ◌}
pub use Rattle.std.proofs.Math.ListN.{get_or-eq_default}
pub use Rattle.std.proofs.Math.Nat.{zero-div}
pub use Rattle.std.proofs.lemmas.Bool.{and_parts, cases_eq, cases_lt, eqb-true, lt-ltb, ltb-true, true≢false}
pub use Rattle.std.proofs.lemmas.Grind.{common_steps, get_or-set_at, same_number_lists}
pub use Rattle.std.proofs.lemmas.List.{get_or-append-add, get_or-append_right, get_or-drop, get_or-map, get_or-replicate, get_or-reverse}
pub use Rattle.std.proofs.lemmas.List.{get_or-take, get_or_append_left, get_or_default, get_or_past, length-drop, length-map}
pub use Rattle.std.proofs.lemmas.List.{length-replicate, length-reverse, length-take-le, places, same_lists, set-get_or}
pub use Rattle.std.proofs.lemmas.List.Sums.{sum_by_push}
pub use Rattle.std.proofs.lemmas.Nat.{and_mask, le_or_l, le_or_r, or_lt}
pub use Rattle.std.proofs.lemmas.Nat.Bits.{and_pow, bit_at-lt, bit_at-suc, bit_at-zero, bit_at_and, bit_at_or}
pub use Rattle.std.proofs.lemmas.Simd.{Each1-from_get_or, SwzOk, SwzOk-from_below, bit_mask_l, get_or-chunk, get_or-put_chunk_above}
pub use Rattle.std.proofs.lemmas.Simd.{get_or-put_chunk_at, get_or-sel_l, get_or-swz_l_below, get_or-zip2, length-chunk, length-put_chunk}
pub use Rattle.std.proofs.lemmas.Simd.{length-sel_l, length-zip2, mask_l-mod, swz_l, tops_compared}
pub use Rattle.std.specs.Int.{bit_at}
pub use Rattle.std.specs.List.{flat_map}
pub use Rattle.std.specs.Prelude.{count_by, find, reverse, sum, take, unwrap_or}
