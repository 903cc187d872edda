-- The words that proofs here, and those of crates above, import of definitions, of std and of the crates below.

pub use Rattle.std.proofs.Common.{All, Bool, Bor, Err, List, None, Ok, Option, Result, Some, [], add-one, ap, arith, cond, drop, false}
pub use Rattle.std.proofs.Common.{find, fold, get_or, if◌then◌else◌, inl, inr, is_none, is_ok, is_some, le_trans, length, ltb, map, min}
pub use Rattle.std.proofs.Common.{nat_lt, not, one-add, option_map, pos, position, refl, replicate, rules, set, slice_get, slice_index}
pub use Rattle.std.proofs.Common.{subst, suc, sym, take, true, zero, ℕ, ℤ, ⊎_elim, ◌&&◌, ◌*◌, ◌++◌, ◌+◌, ◌-◌, ◌/◌, ◌<◌, ◌==◌, ◌^◌, ◌||◌}
pub use Rattle.std.proofs.Common.{◌∙◌, ◌∷◌, ◌≡◌, ◌≢◌, ◌≤◌, ◌⊎◌}
pub use Rattle.std.proofs.Math.Seq.{take-append_seam}
pub use Rattle.std.proofs.lemmas.Bool.{and_from, and_parts, and_right, cases_Bool, cases_eq, cases_lt, cond-false, cond-true, eq-eqb}
pub use Rattle.std.proofs.lemmas.Bool.{eqb-true, false≢true, le-ltb, leb-true, lt-leb, lt-ltb, ltb-true, ne_eqb, not-true, or_parts}
pub use Rattle.std.proofs.lemmas.Bool.{true≢false}
pub use Rattle.std.proofs.lemmas.Bool.Decides.{nat_tests}
pub use Rattle.std.proofs.lemmas.Grind.{common_steps, flat_map-append}
pub use Rattle.std.proofs.lemmas.Int.{ints, to_z-of_z}
pub use Rattle.std.proofs.lemmas.List.{append-nil, append_assoc, at_drop_more, drop-drop, drop_more, get_or-append_right, get_or-drop}
pub use Rattle.std.proofs.lemmas.List.{get_or-replicate, get_or-take, get_or_append_left, get_or_default, length-append, length-drop}
pub use Rattle.std.proofs.lemmas.List.{length-map, length-replicate, length-take, length-take-le, map-append, map_more, take-append-drop}
pub use Rattle.std.proofs.lemmas.List.{take_all, take_more}
pub use Rattle.std.proofs.lemmas.List.Elements.{All-head, All-tail, filter_map-append}
pub use Rattle.std.proofs.lemmas.List.FromFn.{get_or-map-range_with_len, take-map-range_with_len}
pub use Rattle.std.proofs.lemmas.List.Sums.{fails_before_first, passes_at_first}
pub use Rattle.std.proofs.lemmas.Result.{err_from_is_err_and}
pub use Rattle.std.proofs.lemmas.Slice.{between-put_mid, drop-put_mid, take-put_mid_below}
pub use Rattle.std.specs.Char.{is_ascii_digit, to_ascii_lowercase}
pub use Rattle.std.specs.List.{AllByRecursion, cons_option, filter, filter_map, flat_map, list_all, list_any, position_or_len, prefix_len}
pub use Rattle.std.specs.List.{range_with_len, slice_split}
unfoldable pub use Rattle.std.specs.List.{IsDistinct}
pub use Rattle.std.specs.Map.{lookup}
pub use Rattle.std.specs.Option.{option_or, unwrap_or}
pub use Rattle.std.specs.Prelude.{nat_le}
pub use Rattle.std.specs.Str.{bytes_eq, str_to_ascii_lowercase}
pub use Rattle.std.specs.Str.Lines.{lines}
