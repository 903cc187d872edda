use Rattle.pac_asm_program.proofs.Seen.{distinct-seen}

pub returns-clause-distinct : Rattle.pac_asm_program.proofs.symbols.Symbols.len.Goals.returns-clause-distinct
returns-clause-distinct c = rw (← c.self.view_is) (distinct-seen (λ key. key.items) c.self.inside.names.entries c.len.ensures.unique)
