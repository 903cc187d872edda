-- Law: Stops (this profile): bytes that are no documented instruction, and in mode 0 a vector byte that is no RST. Made by
-- tools/make/make-vectors from tools/check/vectors.txt.
use Rattle.std.specs.Prelude.{true, List, [], ◌∷◌, Some, None}
use Rattle.pac_bus.specs.Action.{Write}
use Rattle.pac_exec.specs.declared.regs.Regs.{Regs}
use Rattle.pac_cpu.specs.declared.once.Cause.TheVariants.{Opcode, Vector}
use Rattle.pac_cpu.specs.Power.{power_on_regs}
use Rattle.pac_cpu_vectors.specs.Vectors.{VectorLine, vector_line, Refused}

abbrev usual_1 : Regs
usual_1 = record power_on_regs { pc = 0x0200; sp = 0x4FF0; r = 0x7F }

abbrev usual_2 : Regs
usual_2 = record power_on_regs { pc = 0x0200; sp = 0x4FF0; r = 0x7F; iff1 = true; iff2 = true }

-- the lines of the table
abbrev pub stops_lines : List VectorLine
stops_lines =
    -- SLL B | CB 30 01 02 | | S1 |
    vector_line (0xCB ∷ 0x30 ∷ 0x01 ∷ 0x02 ∷ []) usual_1 [] None (Refused 0x0200 (0xCB ∷ 0x30 ∷ 0x01 ∷ 0x02 ∷ []) Opcode ∷ [])
    (λ regs. regs) [] ∷
    -- INC IXH | DD 24 01 02 | | S1 |
    vector_line (0xDD ∷ 0x24 ∷ 0x01 ∷ 0x02 ∷ []) usual_1 [] None (Refused 0x0200 (0xDD ∷ 0x24 ∷ 0x01 ∷ 0x02 ∷ []) Opcode ∷ [])
    (λ regs. regs) [] ∷
    -- ED 00 | ED 00 01 02 | | S1 |
    vector_line (0xED ∷ 0x00 ∷ 0x01 ∷ 0x02 ∷ []) usual_1 [] None (Refused 0x0200 (0xED ∷ 0x00 ∷ 0x01 ∷ 0x02 ∷ []) Opcode ∷ [])
    (λ regs. regs) [] ∷
    -- DD DD | DD DD 01 02 | | S1 |
    vector_line (0xDD ∷ 0xDD ∷ 0x01 ∷ 0x02 ∷ []) usual_1 [] None (Refused 0x0200 (0xDD ∷ 0xDD ∷ 0x01 ∷ 0x02 ∷ []) Opcode ∷ [])
    (λ regs. regs) [] ∷
    -- SLL (IX+5) | DD CB 05 30 | | S1 |
    vector_line (0xDD ∷ 0xCB ∷ 0x05 ∷ 0x30 ∷ []) usual_1 [] None (Refused 0x0200 (0xDD ∷ 0xCB ∷ 0x05 ∷ 0x30 ∷ []) Opcode ∷ [])
    (λ regs. regs) [] ∷
    -- SLL (IY+5) | FD CB 05 30 | | S1 |
    vector_line (0xFD ∷ 0xCB ∷ 0x05 ∷ 0x30 ∷ []) usual_1 [] None (Refused 0x0200 (0xFD ∷ 0xCB ∷ 0x05 ∷ 0x30 ∷ []) Opcode ∷ [])
    (λ regs. regs) [] ∷
    -- BIT 0,(IX+5) as code 40 | DD CB 05 40 | | S1 |
    vector_line (0xDD ∷ 0xCB ∷ 0x05 ∷ 0x40 ∷ []) usual_1 [] None (Refused 0x0200 (0xDD ∷ 0xCB ∷ 0x05 ∷ 0x40 ∷ []) Opcode ∷ [])
    (λ regs. regs) [] ∷
    -- SLL B, told with the bytes after it | CB 30 01 02 | PC=0FFE | S1 |
    vector_line (0xCB ∷ 0x30 ∷ 0x01 ∷ 0x02 ∷ []) (record usual_1 { pc = 0x0FFE }) [] None
    (Refused 0x0FFE (0xCB ∷ 0x30 ∷ 0x01 ∷ 0x02 ∷ []) Opcode ∷ [])
    (λ regs. regs) [] ∷
    -- SLL B, from the program ROM into RAM | CB 30 01 02 | PC=3FFE | S1 |
    vector_line (0xCB ∷ 0x30 ∷ 0x01 ∷ 0x02 ∷ []) (record usual_1 { pc = 0x3FFE }) [] None
    (Refused 0x3FFE (0xCB ∷ 0x30 ∷ 0x01 ∷ 0x02 ∷ []) Opcode ∷ [])
    (λ regs. regs) [] ∷
    -- a stop is met again | CB 30 01 02 | | S1 S1 S1 |
    vector_line (0xCB ∷ 0x30 ∷ 0x01 ∷ 0x02 ∷ []) usual_1 [] None
    (Refused 0x0200 (0xCB ∷ 0x30 ∷ 0x01 ∷ 0x02 ∷ []) Opcode ∷ Refused 0x0200 (0xCB ∷ 0x30 ∷ 0x01 ∷ 0x02 ∷ []) Opcode ∷ Refused 0x0200 (0xCB
    ∷ 0x30 ∷ 0x01 ∷ 0x02 ∷ []) Opcode ∷ [])
    (λ regs. regs) [] ∷
    -- with a request, disabled | CB 30 01 02 | INT=00 | S1 |
    vector_line (0xCB ∷ 0x30 ∷ 0x01 ∷ 0x02 ∷ []) usual_1 [] (Some 0x00) (Refused 0x0200 (0xCB ∷ 0x30 ∷ 0x01 ∷ 0x02 ∷ []) Opcode ∷ [])
    (λ regs. regs) [] ∷
    -- with a request, after EI | CB 30 01 02 | INT=00 IFF1=1 EI=1 | S1 S1 |
    vector_line (0xCB ∷ 0x30 ∷ 0x01 ∷ 0x02 ∷ []) (record usual_1 { iff1 = true; after_ei = true }) [] (Some 0x00)
    (Refused 0x0200 (0xCB ∷ 0x30 ∷ 0x01 ∷ 0x02 ∷ []) Opcode ∷ Refused 0x0200 (0xCB ∷ 0x30 ∷ 0x01 ∷ 0x02 ∷ []) Opcode ∷ [])
    (λ regs. regs) [] ∷
    -- NOP | 00 01 02 03 | INT=00 | S2 |
    vector_line (0x00 ∷ 0x01 ∷ 0x02 ∷ 0x03 ∷ []) usual_2 [] (Some 0x00) (Refused 0x0200 (0x00 ∷ 0x01 ∷ 0x02 ∷ 0x03 ∷ []) (Vector 0x00) ∷ [])
    (λ regs. regs) [] ∷
    -- ADD A,n | 00 01 02 03 | INT=C6 | S2 |
    vector_line (0x00 ∷ 0x01 ∷ 0x02 ∷ 0x03 ∷ []) usual_2 [] (Some 0xC6) (Refused 0x0200 (0x00 ∷ 0x01 ∷ 0x02 ∷ 0x03 ∷ []) (Vector 0xC6) ∷ [])
    (λ regs. regs) [] ∷
    -- ADD A,A | 00 01 02 03 | INT=87 | S2 |
    vector_line (0x00 ∷ 0x01 ∷ 0x02 ∷ 0x03 ∷ []) usual_2 [] (Some 0x87) (Refused 0x0200 (0x00 ∷ 0x01 ∷ 0x02 ∷ 0x03 ∷ []) (Vector 0x87) ∷ [])
    (λ regs. regs) [] ∷
    -- RLA | 00 01 02 03 | INT=17 | S2 |
    vector_line (0x00 ∷ 0x01 ∷ 0x02 ∷ 0x03 ∷ []) usual_2 [] (Some 0x17) (Refused 0x0200 (0x00 ∷ 0x01 ∷ 0x02 ∷ 0x03 ∷ []) (Vector 0x17) ∷ [])
    (λ regs. regs) [] ∷
    -- CP n | 00 01 02 03 | INT=FE | S2 |
    vector_line (0x00 ∷ 0x01 ∷ 0x02 ∷ 0x03 ∷ []) usual_2 [] (Some 0xFE) (Refused 0x0200 (0x00 ∷ 0x01 ∷ 0x02 ∷ 0x03 ∷ []) (Vector 0xFE) ∷ [])
    (λ regs. regs) [] ∷
    -- EI | 00 01 02 03 | INT=FB | S2 |
    vector_line (0x00 ∷ 0x01 ∷ 0x02 ∷ 0x03 ∷ []) usual_2 [] (Some 0xFB) (Refused 0x0200 (0x00 ∷ 0x01 ∷ 0x02 ∷ 0x03 ∷ []) (Vector 0xFB) ∷ [])
    (λ regs. regs) [] ∷
    -- halted | 00 01 02 03 | INT=00 HALT=1 | S2 S2 |
    vector_line (0x00 ∷ 0x01 ∷ 0x02 ∷ 0x03 ∷ []) (record usual_2 { halted = true }) [] (Some 0x00)
    (Refused 0x0200 (0x00 ∷ 0x01 ∷ 0x02 ∷ 0x03 ∷ []) (Vector 0x00) ∷ Refused 0x0200 (0x00 ∷ 0x01 ∷ 0x02 ∷ 0x03 ∷ []) (Vector 0x00) ∷ [])
    (λ regs. regs) [] ∷
    -- told with the bytes round the end of memory | FF FF | INT=00 PC=FFFE (0000)=01 (0001)=02 | S2 |
    vector_line (0xFF ∷ 0xFF ∷ []) (record usual_2 { pc = 0xFFFE }) (Write 0x0001 0x02 ∷ Write 0x0000 0x01 ∷ []) (Some 0x00)
    (Refused 0xFFFE (0xFF ∷ 0xFF ∷ 0x01 ∷ 0x02 ∷ []) (Vector 0x00) ∷ [])
    (λ regs. regs) [] ∷
    []
