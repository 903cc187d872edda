-- The lines that have passed are composed from the memory that the fields have.
use Rattle.pac_block.proofs.Common.{Latched, ap, arith, length-drop, state_of, video_memory, view_of_fields, ◌∙◌, ◌≡◌}
use Rattle.pac_block.proofs.passed.compose_passed.Goals as goal

pub of-memory-requires : goal.of-memory-requires
of-memory-requires c =
    let range = c.requires.in_range in
    let below = range.count in
    record { registers = range.registers; count = omega (arith, below) }

pub new-screen-requires-clause-attributes : goal.new-screen-requires-clause-attributes
new-screen-requires-clause-attributes c = rw (c.attributes.ensures.bytes, length-drop, c.attributes.ensures.well_formed.work)

pub returns : goal.returns
returns c =
    let state = state_of c.args.fields.now in
    let flip = c.is_flipped.ensures ∙ ap (λ (latched : Latched). latched.bits.flip) c.latch.ensures in
    let screen : c.new-screen.result ≡ video_memory (view_of_fields c.args.fields.now.memory) =
    cc (
      c.new-screen.ensures,
      c.tile_ram.ensures.bytes,
      c.colour_ram.ensures.bytes,
      c.attributes.ensures.bytes,
      c.coordinates.ensures,
      flip,
      c.of-memory.ensures,
    ) in
    let composed = c.compose_lines.ensures state c.fields_have_states.ensures c.requires.text in
    cc (composed, c.graphics_of-graphics.ensures, screen, c.passed.ensures.count)
