use Rattle.pac_asm.proofs.Common.{AsmError, Assembled, AssemblyGives, IfOk, List, Ok, Result, Some, Symbol, [], arith, entries_in}
use Rattle.pac_asm.proofs.Common.{first_spot, lines, number_of_symbol, phase2, rules, subst, sym, ◌≡◌}
use Rattle.pac_asm.proofs.Assigned.{symbols-are-right, has-entries}
use Rattle.pac_asm.proofs.InTurn.{all-fit}
use Rattle.pac_asm.proofs.assembly.assemble.Goals as goal

given : (result : Result Assembled AsmError) (program : Assembled) (P : Assembled → Type 0) → AssemblyGives result (Ok program)
    → P program → IfOk result P
given result program P e h = search rules

pub fill_in-requires-clause-fit : goal.fill_in-requires-clause-fit
fill_in-requires-clause-fit c = grind (arith, all-fit)

pub returns-clause-right : goal.returns-clause-right
returns-clause-right c = grind (arith, given, symbols-are-right)

pub returns-clause-entries : goal.returns-clause-entries
returns-clause-entries c =
    let texts = lines c.args.source.now in
    let after = c.in_ok-standing.standing in
    let filled = c.in_ok-lines.lines.items in
    let second : phase2 after.symbols 1 [] texts after.places ≡ Ok filled = search rules in
    given _ _ _ c.with_rom.ensures.exact
    (subst (λ (symbols : List Symbol). entries_in (number_of_symbol symbols) first_spot texts ≡ Some filled) (sym c.into_symbols.ensures)
    (has-entries texts after filled c.in_ok-standing.ensures second))
