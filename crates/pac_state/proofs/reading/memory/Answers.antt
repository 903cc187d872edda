pub returns : Rattle.pac_state.proofs.reading.memory.Goals.returns
returns c =
    rw (
      c.inputs_of.ensures,
      c.word.ensures,
      c.part-controls.ensures,
      c.part.ensures,
      c.part-2.ensures,
      c.part-3.ensures,
      c.part-4.ensures,
      c.part-5.ensures,
    )
