-- Law: Acceptances and halted steps (UM0080, "Interrupt Response" and "HALT"; this profile where a vector byte isn't even). Made by
-- tools/make/make-vectors from tools/check/vectors.txt.
use Rattle.std.specs.Prelude.{true, false, List, [], ◌∷◌, Some, None}
use Rattle.pac_table.specs.declared.effects.InterruptMode.TheVariants.{One, Two}
use Rattle.pac_bus.specs.Action.{Write}
use Rattle.pac_exec.specs.declared.regs.Regs.{Regs}
use Rattle.pac_cpu.specs.Power.{power_on_regs}
use Rattle.pac_cpu_vectors.specs.Vectors.{VectorLine, vector_line, Took, TookHalted, TookAccepted}

abbrev usual_1 : Regs
usual_1 = record power_on_regs { sp = 0x4FF0; pc = 0x0002; i = 0x3F; r = 0x02; iff1 = true; iff2 = true; halted = true }

abbrev usual_2 : Regs
usual_2 = record power_on_regs { sp = 0x0001; pc = 0x1234; r = 0x7F; iff1 = true; iff2 = false; mode = One }

-- the lines of the table
abbrev pub acceptances_and_halted_steps_lines : List VectorLine
acceptances_and_halted_steps_lines =
    -- mode 1 | 00 | IM=1 INT=FF | 13-accepted | PC=0038 SP=4FEE IFF1=0 IFF2=0 HALT=0 (4FEF)=00 (4FEE)=02
    vector_line (0x00 ∷ []) (record usual_1 { mode = One }) [] (Some 0xFF) (TookAccepted 13 ∷ [])
    (λ regs. record regs { r = 0x03; pc = 0x0038; sp = 0x4FEE; iff1 = false; iff2 = false; halted = false })
    (Write 0x4FEF 0x00 ∷ Write 0x4FEE 0x02 ∷ []) ∷
    -- mode 2 | 00 | IM=2 INT=FA (3FFB)=01 | 19-accepted | PC=0100 SP=4FEE IFF1=0 IFF2=0 HALT=0 (4FEF)=00 (4FEE)=02
    vector_line (0x00 ∷ []) (record usual_1 { mode = Two }) (Write 0x3FFB 0x01 ∷ []) (Some 0xFA) (TookAccepted 19 ∷ [])
    (λ regs. record regs { r = 0x03; pc = 0x0100; sp = 0x4FEE; iff1 = false; iff2 = false; halted = false })
    (Write 0x4FEF 0x00 ∷ Write 0x4FEE 0x02 ∷ []) ∷
    -- mode 2, the push lies over the table | 00 | IM=2 INT=FA I=4E SP=4EFC PC=1234 | 19-accepted | PC=1234 SP=4EFA IFF1=0 IFF2=0 HALT=0
    -- (4EFB)=12 (4EFA)=34
    vector_line (0x00 ∷ []) (record usual_1 { mode = Two; i = 0x4E; sp = 0x4EFC; pc = 0x1234 }) [] (Some 0xFA) (TookAccepted 19 ∷ [])
    (λ regs. record regs { r = 0x03; pc = 0x1234; sp = 0x4EFA; iff1 = false; iff2 = false; halted = false })
    (Write 0x4EFB 0x12 ∷ Write 0x4EFA 0x34 ∷ []) ∷
    -- mode 2, the entry's end in the next page | 00 | IM=2 INT=FF (3FFF)=CD (4000)=AB | 19-accepted | PC=ABCD SP=4FEE IFF1=0 IFF2=0 HALT=0
    -- (4FEF)=00 (4FEE)=02
    vector_line (0x00 ∷ []) (record usual_1 { mode = Two }) (Write 0x4000 0xAB ∷ Write 0x3FFF 0xCD ∷ []) (Some 0xFF) (TookAccepted 19 ∷ [])
    (λ regs. record regs { r = 0x03; pc = 0xABCD; sp = 0x4FEE; iff1 = false; iff2 = false; halted = false })
    (Write 0x4FEF 0x00 ∷ Write 0x4FEE 0x02 ∷ []) ∷
    -- mode 2, the entry's end at the first address | 00 | IM=2 INT=FF I=FF (0000)=AB (FFFF)=FF | 19-accepted | PC=ABFF SP=4FEE IFF1=0
    -- IFF2=0 HALT=0 (4FEF)=00 (4FEE)=02
    vector_line (0x00 ∷ []) (record usual_1 { mode = Two; i = 0xFF }) (Write 0xFFFF 0xFF ∷ Write 0x0000 0xAB ∷ []) (Some 0xFF)
    (TookAccepted 19 ∷ [])
    (λ regs. record regs { r = 0x03; pc = 0xABFF; sp = 0x4FEE; iff1 = false; iff2 = false; halted = false })
    (Write 0x4FEF 0x00 ∷ Write 0x4FEE 0x02 ∷ []) ∷
    -- mode 0, RST 00H | 00 | INT=C7 | 13-accepted | PC=0000 SP=4FEE IFF1=0 IFF2=0 HALT=0 (4FEF)=00 (4FEE)=02
    vector_line (0x00 ∷ []) usual_1 [] (Some 0xC7) (TookAccepted 13 ∷ [])
    (λ regs. record regs { r = 0x03; pc = 0x0000; sp = 0x4FEE; iff1 = false; iff2 = false; halted = false })
    (Write 0x4FEF 0x00 ∷ Write 0x4FEE 0x02 ∷ []) ∷
    -- mode 0, RST 08H | 00 | INT=CF | 13-accepted | PC=0008 SP=4FEE IFF1=0 IFF2=0 HALT=0 (4FEF)=00 (4FEE)=02
    vector_line (0x00 ∷ []) usual_1 [] (Some 0xCF) (TookAccepted 13 ∷ [])
    (λ regs. record regs { r = 0x03; pc = 0x0008; sp = 0x4FEE; iff1 = false; iff2 = false; halted = false })
    (Write 0x4FEF 0x00 ∷ Write 0x4FEE 0x02 ∷ []) ∷
    -- mode 0, RST 30H | 00 | INT=F7 | 13-accepted | PC=0030 SP=4FEE IFF1=0 IFF2=0 HALT=0 (4FEF)=00 (4FEE)=02
    vector_line (0x00 ∷ []) usual_1 [] (Some 0xF7) (TookAccepted 13 ∷ [])
    (λ regs. record regs { r = 0x03; pc = 0x0030; sp = 0x4FEE; iff1 = false; iff2 = false; halted = false })
    (Write 0x4FEF 0x00 ∷ Write 0x4FEE 0x02 ∷ []) ∷
    -- mode 0, RST 38H | 00 | INT=FF | 13-accepted | PC=0038 SP=4FEE IFF1=0 IFF2=0 HALT=0 (4FEF)=00 (4FEE)=02
    vector_line (0x00 ∷ []) usual_1 [] (Some 0xFF) (TookAccepted 13 ∷ [])
    (λ regs. record regs { r = 0x03; pc = 0x0038; sp = 0x4FEE; iff1 = false; iff2 = false; halted = false })
    (Write 0x4FEF 0x00 ∷ Write 0x4FEE 0x02 ∷ []) ∷
    -- interrupts are disabled | 00 | IM=1 INT=FF IFF1=0 | 4-halted |
    vector_line (0x00 ∷ []) (record usual_1 { mode = One; iff1 = false }) [] (Some 0xFF) (TookHalted 4 ∷ [])
    (λ regs. record regs { r = 0x03 }) [] ∷
    -- nothing is requested | 00 | IM=1 EI=1 | 4-halted |
    vector_line (0x00 ∷ []) (record usual_1 { mode = One; after_ei = true }) [] None (TookHalted 4 ∷ [])
    (λ regs. record regs { r = 0x03; after_ei = false }) [] ∷
    -- halted after EI | 00 | IM=1 INT=FF EI=1 | 4-halted |
    vector_line (0x00 ∷ []) (record usual_1 { mode = One; after_ei = true }) [] (Some 0xFF) (TookHalted 4 ∷ [])
    (λ regs. record regs { r = 0x03; after_ei = false }) [] ∷
    -- the push goes round the end of memory | 00 | INT=00 BLANKS=05 | 13-accepted | PC=0038 SP=FFFF R=00 IFF1=0 (0000)=12 (FFFF)=34
    -- BLANKS=00
    vector_line (0x00 ∷ []) usual_2 [] (Some 0x00) (TookAccepted 13 ∷ [])
    (λ regs. record regs { r = 0x00; pc = 0x0038; sp = 0xFFFF; iff1 = false }) (Write 0x0000 0x12 ∷ Write 0xFFFF 0x34 ∷ []) ∷
    -- R's bit 7 stays | 00 | INT=00 R=FF SP=4E02 | 13-accepted | PC=0038 SP=4E00 R=80 IFF1=0 (4E01)=12 (4E00)=34
    vector_line (0x00 ∷ []) (record usual_2 { r = 0xFF; sp = 0x4E02 }) [] (Some 0x00) (TookAccepted 13 ∷ [])
    (λ regs. record regs { r = 0x80; pc = 0x0038; sp = 0x4E00; iff1 = false }) (Write 0x4E01 0x12 ∷ Write 0x4E00 0x34 ∷ []) ∷
    -- after EI, NOP | 00 | INT=00 EI=1 | 4 |
    vector_line (0x00 ∷ []) (record usual_2 { after_ei = true }) [] (Some 0x00) (Took 4 ∷ [])
    (λ regs. record regs { r = 0x00; pc = 0x1235; after_ei = false }) [] ∷
    []
