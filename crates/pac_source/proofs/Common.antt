-- The words that proofs here, and those of crates above, import of definitions, of std and of the crates below.

pub use Rattle.pac_out.proofs.Common.{Err, HasPut, HasTaken, List, Ok, Puts, Refuses, Result, [], ap, arith, buffer_refused, buffer_took}
pub use Rattle.pac_out.proofs.Common.{drop, file_count, length, lent_refused, lent_took, refl, subst, sym, ℕ, ◌++◌, ◌<◌, ◌^◌, ◌∙◌, ◌≡◌, ◌≤◌}
unfoldable pub use Rattle.pac_listing.specs.Listing.{listing}
pub use Rattle.pac_out.specs.declared.WriteFault.{WriteFault}
pub use Rattle.pac_out.specs.declared.buffer.HostBuffer.{HostBuffer}
pub use Rattle.pac_out.specs.declared.counted.Counted.{Counted}
unfoldable pub use Rattle.pac_source.specs.Codes.{told_bytes}
pub use Rattle.pac_source.specs.Sizes.{size_refused, size_took}
pub use Rattle.pac_source.specs.Writing.{LeavesText}
pub use Rattle.pac_source.specs.declared.size.Size.{Size}
pub use Rattle.std.proofs.Common.{MutBor, take, ◌-◌}
pub use Rattle.std.proofs.Math.Nat.{min-eq_left, min-eq_right}
pub use Rattle.std.proofs.lemmas.List.{length-take-le, take-append-drop}
