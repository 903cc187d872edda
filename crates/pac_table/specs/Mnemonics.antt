-- Believed: the names of the operations (Zilog Z80 CPU User Manual UM0080, "Z80 Instruction Description").
use Rattle.std.specs.Prelude.{List, [], ◌∷◌, get_or, find, ℕ, Bool, true, false, if◌then◌else◌, Option, Some, None, option_map, codes}
use denote.Enum.Bare.{sameb}
use Rattle.pac_table.specs.contracts.operands.Mnemonic.{the_type}
use Rattle.pac_table.specs.declared.operands.Mnemonic.{Mnemonic}
use Rattle.pac_table.specs.declared.operands.Mnemonic.TheVariants.{Ld, Push, Pop, Ex, Exx, Alu, Inc, Dec, Daa, Cpl, Ccf, Scf, Nop, Halt}
use Rattle.pac_table.specs.declared.operands.Mnemonic.TheVariants.{Di, Ei, Add, Rlca, Rla, Rrca, Rra, Jp, Jr, Djnz, Call, Ret, Rst, In}
use Rattle.pac_table.specs.declared.operands.Mnemonic.TheVariants.{Out, Shift, Bit, Set, Res, Ldi, Ldir, Ldd, Lddr, Cpi, Cpir, Cpd, Cpdr}
use Rattle.pac_table.specs.declared.operands.Mnemonic.TheVariants.{Neg, Im, Adc, Sbc, Rld, Rrd, Reti, Retn, Ini, Inir, Ind, Indr, Outi}
use Rattle.pac_table.specs.declared.operands.Mnemonic.TheVariants.{Otir, Outd, Otdr}

-- whether an operation is a family, whose names the first field tells
abbrev pub is_family : Mnemonic → Bool
is_family Alu = true
is_family Shift = true
is_family _ = false

-- the names of the eight operations with A and an operand, and those of the seven shifts, by the value of the first field
abbrev pub alu_names : List (Option (List ℕ))
alu_names =
    Some (codes "ADD") ∷ Some (codes "ADC") ∷ Some (codes "SUB") ∷ Some (codes "SBC") ∷
    Some (codes "AND") ∷ Some (codes "XOR") ∷ Some (codes "OR") ∷ Some (codes "CP") ∷ []

abbrev pub shift_names : List (Option (List ℕ))
shift_names =
    Some (codes "RLC") ∷ Some (codes "RRC") ∷ Some (codes "RL") ∷ Some (codes "RR") ∷
    Some (codes "SLA") ∷ Some (codes "SRA") ∷ None ∷ Some (codes "SRL") ∷ []

-- the operations by the words of the table's forms: the name of each, and a word for each of the two families
abbrev pub operation_words : List (List ℕ × Mnemonic)
operation_words =
    (codes "ADC", Adc) ∷ (codes "ADD", Add) ∷ (codes "alu", Alu) ∷ (codes "BIT", Bit) ∷ (codes "CALL", Call) ∷
    (codes "CCF", Ccf) ∷ (codes "CPD", Cpd) ∷ (codes "CPDR", Cpdr) ∷ (codes "CPI", Cpi) ∷ (codes "CPIR", Cpir) ∷
    (codes "CPL", Cpl) ∷ (codes "DAA", Daa) ∷ (codes "DEC", Dec) ∷ (codes "DI", Di) ∷ (codes "DJNZ", Djnz) ∷ (codes "EI", Ei) ∷
    (codes "EX", Ex) ∷ (codes "EXX", Exx) ∷ (codes "HALT", Halt) ∷ (codes "IM", Im) ∷ (codes "IN", In) ∷ (codes "INC", Inc) ∷
    (codes "IND", Ind) ∷ (codes "INDR", Indr) ∷ (codes "INI", Ini) ∷ (codes "INIR", Inir) ∷ (codes "JP", Jp) ∷ (codes "JR", Jr) ∷
    (codes "LD", Ld) ∷ (codes "LDD", Ldd) ∷ (codes "LDDR", Lddr) ∷ (codes "LDI", Ldi) ∷ (codes "LDIR", Ldir) ∷
    (codes "NEG", Neg) ∷ (codes "NOP", Nop) ∷ (codes "OTDR", Otdr) ∷ (codes "OTIR", Otir) ∷ (codes "OUT", Out) ∷
    (codes "OUTD", Outd) ∷ (codes "OUTI", Outi) ∷ (codes "POP", Pop) ∷ (codes "PUSH", Push) ∷ (codes "RES", Res) ∷
    (codes "RET", Ret) ∷ (codes "RETI", Reti) ∷ (codes "RETN", Retn) ∷ (codes "RLA", Rla) ∷ (codes "RLCA", Rlca) ∷
    (codes "RLD", Rld) ∷ (codes "RRA", Rra) ∷ (codes "RRCA", Rrca) ∷ (codes "RRD", Rrd) ∷ (codes "RST", Rst) ∷
    (codes "SBC", Sbc) ∷ (codes "SCF", Scf) ∷ (codes "SET", Set) ∷ (codes "shift", Shift) ∷ []

-- the names of an operation: a family's by the value of its first field, and the one name of each other, found by Rust's `==`
abbrev pub names_of : Mnemonic → List (Option (List ℕ))
names_of Alu = alu_names
names_of Shift = shift_names
names_of mnemonic = option_map (λ entry. entry.0) (find (λ entry. sameb the_type entry.1 mnemonic) operation_words) ∷ []

-- the name of an operation whose first field holds this value
abbrev pub operation_name : Mnemonic → ℕ → Option (List ℕ)
operation_name mnemonic value = get_or (names_of mnemonic) (if is_family mnemonic then value else 0) None
