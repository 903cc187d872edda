-- Law: the names of the operations in the order of their letters (`operation_names`), of which a law speaks. The index by
-- which the rows of a name are found is for proofs: these names, and their rows one after another. That it finds the rows which
-- a search of the whole table finds is proved.
use Rattle.std.specs.Prelude.{ℕ, List, [], ◌∷◌}
use Rattle.std.specs.Prelude.{codes}

-- the names
unfoldable pub operation_names : List (List ℕ)
operation_names =
    codes "ADC" ∷ codes "ADD" ∷ codes "AND" ∷ codes "BIT" ∷ codes "CALL" ∷ codes "CCF" ∷ codes "CP" ∷ codes "CPD" ∷
    codes "CPDR" ∷ codes "CPI" ∷ codes "CPIR" ∷ codes "CPL" ∷ codes "DAA" ∷ codes "DEC" ∷ codes "DI" ∷ codes "DJNZ" ∷
    codes "EI" ∷ codes "EX" ∷ codes "EXX" ∷ codes "HALT" ∷ codes "IM" ∷ codes "IN" ∷ codes "INC" ∷ codes "IND" ∷
    codes "INDR" ∷ codes "INI" ∷ codes "INIR" ∷ codes "JP" ∷ codes "JR" ∷ codes "LD" ∷ codes "LDD" ∷ codes "LDDR" ∷
    codes "LDI" ∷ codes "LDIR" ∷ codes "NEG" ∷ codes "NOP" ∷ codes "OR" ∷ codes "OTDR" ∷ codes "OTIR" ∷ codes "OUT" ∷
    codes "OUTD" ∷ codes "OUTI" ∷ codes "POP" ∷ codes "PUSH" ∷ codes "RES" ∷ codes "RET" ∷ codes "RETI" ∷
    codes "RETN" ∷ codes "RL" ∷ codes "RLA" ∷ codes "RLC" ∷ codes "RLCA" ∷ codes "RLD" ∷ codes "RR" ∷ codes "RRA" ∷
    codes "RRC" ∷ codes "RRCA" ∷ codes "RRD" ∷ codes "RST" ∷ codes "SBC" ∷ codes "SCF" ∷ codes "SET" ∷ codes "SLA" ∷
    codes "SRA" ∷ codes "SRL" ∷ codes "SUB" ∷ codes "XOR" ∷ []
