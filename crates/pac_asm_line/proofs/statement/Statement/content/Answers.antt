use Rattle.pac_asm_line.proofs.Common.{parts_of_operands, sym, trees_of, ◌∙◌}
use Rattle.pac_asm_line.proofs.Parts.{parts-length, sized-as, words-length}
use Rattle.pac_asm_line.proofs.statement.Statement.content.Goals as goal

pub returns-in-Bytes-clause-sized : goal.returns-in-Bytes-clause-sized
returns-in-Bytes-clause-sized g c =
    let names = g.S.SymbolLookup.lookup c.args.symbols.now in
    rw (c.placed.ensures, c.in-Bytes.is)
    (λ fits. sized-as (λ v. v.items) c.bytes_of.result _ c.args.size c.bytes_of.ensures
    (λ bytes e. parts-length names c.args.here (parts_of_operands c.in-Bytes.operands) bytes e ∙ sym fits))

pub returns-in-Words-clause-sized : goal.returns-in-Words-clause-sized
returns-in-Words-clause-sized g c =
    let names = g.S.SymbolLookup.lookup c.args.symbols.now in
    rw (c.placed-in-Words.ensures, c.in-Words.is)
    (λ fits. sized-as (λ v. v.items) c.words_of.result _ c.args.size c.words_of.ensures
    (λ bytes e. words-length names c.args.here (trees_of c.in-Words.operands) bytes e ∙ sym fits))
