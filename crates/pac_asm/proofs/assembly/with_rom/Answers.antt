use Rattle.pac_asm.proofs.Common.{Assembled, IsZeroElsewhere, items_of, rules, subst, sym}

pub returns-clause-zero : Rattle.pac_asm.proofs.assembly.with_rom.Goals.returns-clause-zero
returns-clause-zero c =
    subst (λ (program : Assembled). IsZeroElsewhere program.rom (items_of program)) (sym c.new.ensures) (search rules)
