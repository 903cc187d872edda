-- The words that proofs here, and those of crates above, import of definitions, of std and of the crates below.

pub use Rattle.pac_lemmas.proofs.Common.{arith, ints, length, nat_lt, nat_tests, pos, rules, slice_index, ℕ, ℤ, ◌&&◌, ◌<◌, ◌≡◌, ◌≤◌}
pub use Rattle.pac_lemmas.proofs.Lists.{set-one-more}
pub use Rattle.pac_num.proofs.Pixels.{pixel_value-below}
pub use Rattle.pac_sprites.specs.Sprites.{box_place, covers_of, flipped_place, is_column_of, is_in_box, pixel_byte_index, sprite_of}
pub use Rattle.pac_sprites.specs.Sprites.{sprite_pixel}
pub use Rattle.pac_sprites.specs.SpritesProofs.{boxed_of}
pub use Rattle.pac_sprites.specs.declared.Sprite.{Sprite}
pub use Rattle.std.proofs.Common.{nat_le, ◌+ℤ◌}
pub use Rattle.std.specs.Int.Signed.{le_z}
