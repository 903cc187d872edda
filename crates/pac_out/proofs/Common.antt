-- The words that proofs here, and those of crates above, import of definitions, of std and of the crates below.

pub use Rattle.pac_out.specs.Buffers.{buffer_refused, buffer_took}
pub use Rattle.pac_out.specs.Counted.{file_count}
pub use Rattle.pac_out.specs.CountedLaws.{HasPut, HasStopped, HasTaken, Refuses, Takes}
pub use Rattle.pac_out.specs.CountedProofs.{Puts, Stops}
pub use Rattle.pac_out.specs.CountedWriter.{CountedWriter}
pub use Rattle.pac_out.specs.Pending.{Gathers, Holds}
pub use Rattle.pac_out.specs.Pieces.{joined_pieces}
pub use Rattle.pac_out.specs.Writes.{StopsAfter}
pub use Rattle.pac_out.specs.WritesProofs.{lent_refused, lent_took}
pub use Rattle.pac_out.specs.declared.WriteFault.{WriteFault}
pub use Rattle.pac_out.specs.declared.counted.Counted.{Counted}
pub use Rattle.std.proofs.Common.{Err, List, Ok, Result, [], ap, append-nil, append_assoc, arith, drop, length, length-append, length-drop}
pub use Rattle.std.proofs.Common.{refl, rules, subst, sym, true≢false, ℕ, ◌++◌, ◌+◌, ◌<◌, ◌^◌, ◌∙◌, ◌≡◌, ◌≤◌}
pub use Rattle.std.proofs.Math.Seq.{take-add, take-append-add}
pub use Rattle.std.proofs.lemmas.List.{drop_more, take-append-le, take_rest}
pub use Rattle.std.proofs.lemmas.Result.{err_from_is_err_and}
pub use Rattle.std.proofs.lemmas.Slice.{overwrites}
pub use Rattle.std.specs.Borrow.{MutBor}
pub use Rattle.std.specs.List.{flat_map}
