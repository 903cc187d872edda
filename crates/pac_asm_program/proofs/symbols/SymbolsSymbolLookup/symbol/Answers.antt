use Rattle.std.proofs.Common.{◌∙◌}
use Rattle.pac_asm_program.proofs.Seen.{lookup-seen}

pub returns : Rattle.pac_asm_program.proofs.symbols.SymbolsSymbolLookup.symbol.Goals.returns
returns c =
    rw (← c.self.view_is)
    (c.copied.ensures ∙ c.get.ensures.value ∙ lookup-seen (λ key. key.items) c.args.name.now c.self.inside.names.entries)
