-- The words that proofs here, and those of crates above, import of definitions, of std and of the crates below.

pub use Rattle.pac_lex.proofs.Common.{Bool, Err, List, None, Ok, Option, Result, Some, [], add-one, and_parts, ap, append-nil, append_assoc}
pub use Rattle.pac_lex.proofs.Common.{arith, at_drop_more, cases_Bool, cases_lt, common_steps, drop, false, get_or, inl, inr, le-ltb}
pub use Rattle.pac_lex.proofs.Common.{length, lines, list_all, lt-ltb, ltb, ltb-true, nat_tests, option_map, refl, rules, slice_split}
pub use Rattle.pac_lex.proofs.Common.{subst, suc, sym, take_rest, true, zero, ℕ, ◌++◌, ◌+◌, ◌-◌, ◌<◌, ◌∙◌, ◌∷◌, ◌≡◌, ◌≤◌, ◌⊎◌}
pub use Rattle.bitflags.specs.Sets.{Row, find_name}
unfoldable pub use Rattle.bitflags.specs.Sets.{find_row}
pub use Rattle.pac_inputs.specs.Entries.{Rises, entry_stretches, held_up_to, stretch_after}
pub use Rattle.pac_inputs.specs.Inputs.{input_bits, mask}
pub use Rattle.pac_inputs.specs.Script.{script_of}
unfoldable pub use Rattle.pac_inputs.specs.Script.{meaning, script_from_line}
pub use Rattle.pac_inputs.specs.ScriptProofs.{HasScriptFault, IsLineFault, IsScript, Meaning, OnScriptFault, Says, ScriptGives}
pub use Rattle.pac_inputs.specs.ScriptProofs.{ScriptOrFault}
pub use Rattle.pac_inputs.specs.Stretches.{held, held_after, total_frames}
pub use Rattle.pac_inputs.specs.Words.{frame_count, inputs_named, is_comma_byte, with_names}
pub use Rattle.pac_inputs.specs.declared.fault.ScriptCode.{ScriptCode}
pub use Rattle.pac_inputs.specs.declared.fault.ScriptCode.TheVariants.{Length}
pub use Rattle.pac_inputs.specs.declared.fault.ScriptError.{ScriptError}
pub use Rattle.pac_inputs.specs.declared.fault.ScriptFault.{ScriptFault}
pub use Rattle.pac_inputs.specs.declared.line.Stretch.{Stretch}
pub use Rattle.pac_inputs.specs.declared.script.HeldUntil.{HeldUntil}
pub use Rattle.pac_lemmas.proofs.Digits.{too-large, with_digits}
pub use Rattle.pac_lemmas.proofs.Parts.{last-part, more-parts}
pub use Rattle.std.proofs.Common.{Bor, nat_eq, sub-one}
pub use Rattle.std.proofs.lemmas.List.Sorted.{IsNonDecreasingBy-from_all_adjacent, IsPartitionPoint-from_clause, IsPartitionedBy-ltb}
pub use Rattle.std.proofs.lemmas.Str.{IsUtf8-from_ascii}
pub use Rattle.std.specs.Char.{is_ascii}
pub use Rattle.std.specs.Cmp.Lexicographic.{pointwise, same_text}
pub use Rattle.std.specs.List.{AllAdjacentBelow, AllWithin}
pub use Rattle.std.specs.List.Sorted.{IsPartitionedBy}
pub use Rattle.std.specs.Prelude.{IfErr, IfOk, nat_le}
pub use Rattle.std.specs.Str.{IsUtf8}
