-- The names that proofs by hand cite.
pub use Rattle.std.proofs.Common.{◌≡◌, ℕ, ◌≤◌, ◌<◌, ◌^◌, ◌==◌, Bool, true, false, List, [], ◌∷◌, ◌++◌, refl, sym, ap, subst, ◌∙◌, lit<, w64, MutBor, arith}
pub use Rattle.std.proofs.raw_atomic.Walks.{proved, proved_at, leaves}
pub use seplogic.Ra.Ura.{Ura}
pub use base.Fraction.{full_share}
pub use base.Logic.{id⊢, SProp, ent, sep, never}
pub use base.Fml.{Fml, Lft, GName, Share, ftrue, fat, flft, fres, fsep, froom, fobs, fauth, fbor, fobor}
pub use prog.Wp.{Env, WpFn}
pub use mir.Syntax.{ty_int, named, Fn}
pub use mir.Val.{Val, vunit, vint, vptr}
pub use contract.Monad.{fact}
pub use contract.Running.{tables}
pub use types.Logic.{Logic, sem}
pub use types.Kit.{‵, raw, ◌⊛◌, some, later, prop, at_ret, Sq, ◌$◌, ◌∵◌, !, qed, done, by, move, keep, drop, use0, use1, use2, use3, split, join, fsplit, fsplit3, fjoin, fpack, feq_i, feq_l, pick, await, rewrite, regoal, suffices, frame, group}
pub use types.Part.{whole, sub, look_in, store_in}
pub use types.Run.{enter, of_opd, lit, unit_lit, bin, addr, load, look, store, init, stop, fld, hop, no_more, and_then, assigns, assigns_last, first, blocks, branches, skips, exec, returns, returns_within, well_typed}
pub use types.ByLocal.{alloc_all, pass_all, free_all, look_at, get, through, sets, sets_last, lands_as, env}
pub use denote.Builtin.{u64, usize, unit}
pub use denote.Exit.{yes, no}
pub use denote.Follow.{follows, Part, lends_Part}
pub use denote.Memory.{mem, cell_at, part_at, lone}
pub use denote.Plain.{uint_in, uint_out, uint_Makes, uint_vals, uint_Tells}
pub use denote.RattleType.{RattleType, owns}
pub use denote.RawPtr.{Ptr, RawPtr, block_ptr, null_ptr, lies_at, room_at, in_a_block}
pub use denote.Ref.{MutRef, mut_vals, mut_Tells}
pub use denote.Signature.{plain, mut_ref_to, types_at}
pub use denote.Steps.{nothing, owned, opens, closes, peeks, heard}
pub use denote.Triple.Entry.{on_entry, alive}
pub use denote.Triple.Walked.{Stays, walk_of, says, stay_dropped, Goes-dropped, stay_ref, Goes-ref, Goes-spent_ref, ends_at}
pub use Rattle.std.proofs.alloc.Calls.{Goes-blank}
pub use Rattle.std.proofs.VecSteps.Shapes.{after}
pub use borrow.Table.OneValue.{part_out, part_in}
