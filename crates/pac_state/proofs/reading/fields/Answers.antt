pub returns : Rattle.pac_state.proofs.reading.fields.Goals.returns
returns c = rw (
  c.regs.ensures,
  c.part.ensures,
  c.memory.ensures,
  c.double_word.ensures,
  c.double_word-2.ensures,
  c.double_word-3.ensures,
  c.lines_of.ensures,
  c.part-3.ensures,
  c.long_word.ensures,
  c.long_word-2.ensures,
  c.long_word-3.ensures,
  c.due_of.ensures,
  c.part-2.ensures,
)
