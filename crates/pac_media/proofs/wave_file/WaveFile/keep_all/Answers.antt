use Rattle.pac_media.proofs.Common.{[], append-nil, arith, length, rules, sample_text, sym, ap, to_z-of_z, w16, ◌∙◌, ◌∷◌}
use Rattle.std.proofs.Common.{length-append}
use Rattle.std.proofs.lemmas.List.{take-append-drop}
use Rattle.pac_media.proofs.Gathered.{none-left, parts-kept}
use Rattle.pac_media.proofs.wave_file.WaveFile.keep_all.Goals as goal

pub chunks-init : goal.chunks-init
chunks-init g c = search rules

pub chunks-preserved : goal.chunks-preserved
chunks-preserved g c =
    let cases = c.in-Some.ensures.cases in
    let room = c.chunks.invariant.room (omega (arith, cases.2)) in
    let fits = c.keep.ensures.room (omega (arith, room, cases.2, c.as_flattened.ensures.len, c.chunk_bytes.ensures.size)) in
    let kept = rw fits at c.keep.ensures.kept in
    record {
      text = parts-kept c.in-Some.chunk.now c.in-Some.more.now c.chunks.self-inside.waiting.items
          (rw (cases.0, cases.1) (sym (take-append-drop 16 c.chunks.left.now)))
          (c.as_flattened.ensures.value ∙ c.chunk_bytes.ensures.text) kept c.chunks.invariant.text;
      room = λ some. rw kept (rw length-append (omega (arith, room, cases.2, c.as_flattened.ensures.len, c.chunk_bytes.ensures.size)));
      others = c.chunks.invariant.others;
    }

pub rest-init : goal.rest-init
rest-init g c = c.chunks.invariant

pub rest-preserved : goal.rest-preserved
rest-preserved g c =
    let cases = c.in-Some-split_first.ensures.cases in
    let parts = cases.0 in
    let long = cases.1 in
    let room = c.rest.invariant.room (omega (arith, long)) in
    let text = c.bytes_of.ensures ∙ ap sample_text (to_z-of_z w16 c.in-Some-split_first.sample.now (search rules)) in
    let fits = c.keep-in-Some-split_first.ensures.room (omega (arith, room, long, ap length text)) in
    let kept = rw fits at c.keep-in-Some-split_first.ensures.kept in
    record {
      text = parts-kept (c.in-Some-split_first.sample.now ∷ []) c.in-Some-split_first.more.now c.rest.self-inside.waiting.items parts
          (text ∙ sym (append-nil _)) kept c.rest.invariant.text;
      room = λ some. rw kept (rw length-append (omega (arith, room, long, ap length text)));
      others = c.rest.invariant.others;
    }

pub returns : goal.returns
returns g c =
    none-left c.args.self.now (length c.args.samples.now) c.rest.left.now c.rest.invariant.others
    c.in_default-split_first.ensures.cases c.rest.invariant.text c.saturating_sub-self-inside.ensures
