use Rattle.pac_run_files.proofs.Common.{YieldsList-end, YieldsList-from_chars, [], ap, flat_map, has_written_of_eq, map-id, rules, sym}
use Rattle.pac_run_files.proofs.Common.{told_character, ◌∙◌}
use Rattle.std.proofs.lemmas.Grind.{put_two}
use Rattle.std.proofs.lemmas.List.{flat_map_more}
use Rattle.std.specs.Prelude.{IsOk}
use Rattle.pac_run_files.proofs.names.put_name.Goals as goal

pub loop-character-preserved : goal.loop-character-preserved
loop-character-preserved g c = λ plain.
    let before = c.loop-character.invariant plain in
    let done : IsOk c.put_character.result = search rules in
    put_two _ _ _ _ _ _ _ before (c.put_character.ensures before.plain done)
    (flat_map_more told_character [] c.loop-character.yielded c.in-Some.character)

pub returns : goal.returns
returns g c = λ plain ok.
    let end = YieldsList-end (YieldsList-from_chars c.args.name.now c.utf8.name cc) c.loop-character.yielded _ c.loop-character.yielded_by
    _ _ c.in-None.is c.next.ensures.steps in
    has_written_of_eq _ _ _ _ _ (ap (flat_map told_character) (sym (map-id c.loop-character.yielded) ∙ end.0))
    (c.loop-character.invariant plain)
