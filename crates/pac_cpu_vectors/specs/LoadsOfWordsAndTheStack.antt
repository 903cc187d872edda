-- Law: Loads of words and the stack (UM0080, "16-Bit Load Group"). Made by tools/make/make-vectors from tools/check/vectors.txt.
use Rattle.std.specs.Prelude.{List, [], ◌∷◌, None}
use Rattle.pac_bus.specs.Action.{Action, Write}
use Rattle.pac_exec.specs.declared.regs.Regs.{Regs}
use Rattle.pac_cpu.specs.Power.{power_on_regs}
use Rattle.pac_cpu_vectors.specs.Vectors.{VectorLine, vector_line, Took}

abbrev usual_1 : Regs
usual_1 = record power_on_regs { f = 0xFF }

abbrev usual_2 : Regs
usual_2 = record power_on_regs { b = 0x46; c = 0x44; h = 0x48; l = 0x3A; ix = 0x5A30; iy = 0x4174; sp = 0x4FF0; pc = 0x0100 }

abbrev usual_3 : Regs
usual_3 = record power_on_regs { a = 0x22; f = 0x33; b = 0x12; c = 0x34; ix = 0x5566; iy = 0x7788 }

abbrev usual_4 : Regs
usual_4 = record power_on_regs { pc = 0x0100 }

abbrev cells_4 : List Action
cells_4 = Write 0x1100 0x7E ∷ Write 0x10FF 0x93 ∷ Write 0x1001 0x33 ∷ Write 0x1000 0x55 ∷ Write 0x0000 0x7E ∷ []

-- the lines of the table
abbrev pub loads_of_words_and_the_stack_lines : List VectorLine
loads_of_words_and_the_stack_lines =
    -- LD BC,1234H | 01 34 12 | | 10 | BC=1234
    vector_line (0x01 ∷ 0x34 ∷ 0x12 ∷ []) usual_1 [] None (Took 10 ∷ [])
    (λ regs. record regs { r = 0x01; pc = 0x0003; b = 0x12; c = 0x34 }) [] ∷
    -- LD SP,4FF0H | 31 F0 4F | | 10 | SP=4FF0
    vector_line (0x31 ∷ 0xF0 ∷ 0x4F ∷ []) usual_1 [] None (Took 10 ∷ []) (λ regs. record regs { r = 0x01; pc = 0x0003; sp = 0x4FF0 }) [] ∷
    -- LD IX,1234H | DD 21 34 12 | | 14 | IX=1234
    vector_line (0xDD ∷ 0x21 ∷ 0x34 ∷ 0x12 ∷ []) usual_1 [] None (Took 14 ∷ [])
    (λ regs. record regs { r = 0x02; pc = 0x0004; ix = 0x1234 }) [] ∷
    -- LD IY,1234H | FD 21 34 12 | | 14 | IY=1234
    vector_line (0xFD ∷ 0x21 ∷ 0x34 ∷ 0x12 ∷ []) usual_1 [] None (Took 14 ∷ [])
    (λ regs. record regs { r = 0x02; pc = 0x0004; iy = 0x1234 }) [] ∷
    -- LD HL,(0FFFFH) | 2A FF FF | PC=0100 (0000)=12 (FFFF)=FF | 16 | HL=12FF
    vector_line (0x2A ∷ 0xFF ∷ 0xFF ∷ []) (record usual_1 { pc = 0x0100 }) (Write 0xFFFF 0xFF ∷ Write 0x0000 0x12 ∷ []) None (Took 16 ∷ [])
    (λ regs. record regs { r = 0x01; pc = 0x0103; h = 0x12; l = 0xFF }) [] ∷
    -- LD HL,(4CFFH) | 2A FF 4C | (4CFF)=34 (4D00)=12 | 16 | HL=1234
    vector_line (0x2A ∷ 0xFF ∷ 0x4C ∷ []) usual_1 (Write 0x4D00 0x12 ∷ Write 0x4CFF 0x34 ∷ []) None (Took 16 ∷ [])
    (λ regs. record regs { r = 0x01; pc = 0x0003; h = 0x12; l = 0x34 }) [] ∷
    -- LD DE,(0FFFFH) | ED 5B FF FF | PC=0100 (0000)=12 (FFFF)=FF | 20 | DE=12FF
    vector_line (0xED ∷ 0x5B ∷ 0xFF ∷ 0xFF ∷ []) (record usual_1 { pc = 0x0100 }) (Write 0xFFFF 0xFF ∷ Write 0x0000 0x12 ∷ []) None
    (Took 20 ∷ [])
    (λ regs. record regs { r = 0x02; pc = 0x0104; d = 0x12; e = 0xFF }) [] ∷
    -- LD DE,(4CFFH) | ED 5B FF 4C | (4CFF)=34 (4D00)=12 | 20 | DE=1234
    vector_line (0xED ∷ 0x5B ∷ 0xFF ∷ 0x4C ∷ []) usual_1 (Write 0x4D00 0x12 ∷ Write 0x4CFF 0x34 ∷ []) None (Took 20 ∷ [])
    (λ regs. record regs { r = 0x02; pc = 0x0004; d = 0x12; e = 0x34 }) [] ∷
    -- LD SP,(0FFFFH) | ED 7B FF FF | PC=0100 (0000)=12 (FFFF)=FF | 20 | SP=12FF
    vector_line (0xED ∷ 0x7B ∷ 0xFF ∷ 0xFF ∷ []) (record usual_1 { pc = 0x0100 }) (Write 0xFFFF 0xFF ∷ Write 0x0000 0x12 ∷ []) None
    (Took 20 ∷ [])
    (λ regs. record regs { r = 0x02; pc = 0x0104; sp = 0x12FF }) [] ∷
    -- LD SP,(4CFFH) | ED 7B FF 4C | (4CFF)=34 (4D00)=12 | 20 | SP=1234
    vector_line (0xED ∷ 0x7B ∷ 0xFF ∷ 0x4C ∷ []) usual_1 (Write 0x4D00 0x12 ∷ Write 0x4CFF 0x34 ∷ []) None (Took 20 ∷ [])
    (λ regs. record regs { r = 0x02; pc = 0x0004; sp = 0x1234 }) [] ∷
    -- LD IX,(0FFFFH) | DD 2A FF FF | PC=0100 (0000)=12 (FFFF)=FF | 20 | IX=12FF
    vector_line (0xDD ∷ 0x2A ∷ 0xFF ∷ 0xFF ∷ []) (record usual_1 { pc = 0x0100 }) (Write 0xFFFF 0xFF ∷ Write 0x0000 0x12 ∷ []) None
    (Took 20 ∷ [])
    (λ regs. record regs { r = 0x02; pc = 0x0104; ix = 0x12FF }) [] ∷
    -- LD IX,(4CFFH) | DD 2A FF 4C | (4CFF)=34 (4D00)=12 | 20 | IX=1234
    vector_line (0xDD ∷ 0x2A ∷ 0xFF ∷ 0x4C ∷ []) usual_1 (Write 0x4D00 0x12 ∷ Write 0x4CFF 0x34 ∷ []) None (Took 20 ∷ [])
    (λ regs. record regs { r = 0x02; pc = 0x0004; ix = 0x1234 }) [] ∷
    -- LD IY,(0FFFFH) | FD 2A FF FF | PC=0100 (0000)=12 (FFFF)=FF | 20 | IY=12FF
    vector_line (0xFD ∷ 0x2A ∷ 0xFF ∷ 0xFF ∷ []) (record usual_1 { pc = 0x0100 }) (Write 0xFFFF 0xFF ∷ Write 0x0000 0x12 ∷ []) None
    (Took 20 ∷ [])
    (λ regs. record regs { r = 0x02; pc = 0x0104; iy = 0x12FF }) [] ∷
    -- LD IY,(4CFFH) | FD 2A FF 4C | (4CFF)=34 (4D00)=12 | 20 | IY=1234
    vector_line (0xFD ∷ 0x2A ∷ 0xFF ∷ 0x4C ∷ []) usual_1 (Write 0x4D00 0x12 ∷ Write 0x4CFF 0x34 ∷ []) None (Took 20 ∷ [])
    (λ regs. record regs { r = 0x02; pc = 0x0004; iy = 0x1234 }) [] ∷
    -- LD SP,HL | F9 | HL=442E IX=98DA IY=A227 | 6 | SP=442E
    vector_line (0xF9 ∷ []) (record usual_1 { h = 0x44; l = 0x2E; ix = 0x98DA; iy = 0xA227 }) [] None (Took 6 ∷ [])
    (λ regs. record regs { r = 0x01; pc = 0x0001; sp = 0x442E }) [] ∷
    -- LD SP,IX | DD F9 | HL=442E IX=98DA IY=A227 | 10 | SP=98DA
    vector_line (0xDD ∷ 0xF9 ∷ []) (record usual_1 { h = 0x44; l = 0x2E; ix = 0x98DA; iy = 0xA227 }) [] None (Took 10 ∷ [])
    (λ regs. record regs { r = 0x02; pc = 0x0002; sp = 0x98DA }) [] ∷
    -- LD SP,IY | FD F9 | HL=442E IX=98DA IY=A227 | 10 | SP=A227
    vector_line (0xFD ∷ 0xF9 ∷ []) (record usual_1 { h = 0x44; l = 0x2E; ix = 0x98DA; iy = 0xA227 }) [] None (Took 10 ∷ [])
    (λ regs. record regs { r = 0x02; pc = 0x0002; sp = 0xA227 }) [] ∷
    -- LD (4CFFH),HL | 22 FF 4C | | 16 | (4CFF)=3A (4D00)=48
    vector_line (0x22 ∷ 0xFF ∷ 0x4C ∷ []) usual_2 [] None (Took 16 ∷ [])
    (λ regs. record regs { r = 0x01; pc = 0x0103 }) (Write 0x4CFF 0x3A ∷ Write 0x4D00 0x48 ∷ []) ∷
    -- LD (0FFFFH),HL | 22 FF FF | BLANKS=05 | 16 | (FFFF)=3A (0000)=48 BLANKS=00
    vector_line (0x22 ∷ 0xFF ∷ 0xFF ∷ []) usual_2 [] None (Took 16 ∷ [])
    (λ regs. record regs { r = 0x01; pc = 0x0103 }) (Write 0xFFFF 0x3A ∷ Write 0x0000 0x48 ∷ []) ∷
    -- LD (5FFFH),HL | 22 FF 5F | BLANKS=05 | 16 | (5FFF)=3A (6000)=48 BLANKS=00
    vector_line (0x22 ∷ 0xFF ∷ 0x5F ∷ []) usual_2 [] None (Took 16 ∷ [])
    (λ regs. record regs { r = 0x01; pc = 0x0103 }) (Write 0x5FFF 0x3A ∷ Write 0x6000 0x48 ∷ []) ∷
    -- LD (4CFFH),BC | ED 43 FF 4C | | 20 | (4CFF)=44 (4D00)=46
    vector_line (0xED ∷ 0x43 ∷ 0xFF ∷ 0x4C ∷ []) usual_2 [] None (Took 20 ∷ [])
    (λ regs. record regs { r = 0x02; pc = 0x0104 }) (Write 0x4CFF 0x44 ∷ Write 0x4D00 0x46 ∷ []) ∷
    -- LD (0FFFFH),BC | ED 43 FF FF | BLANKS=05 | 20 | (FFFF)=44 (0000)=46 BLANKS=00
    vector_line (0xED ∷ 0x43 ∷ 0xFF ∷ 0xFF ∷ []) usual_2 [] None (Took 20 ∷ [])
    (λ regs. record regs { r = 0x02; pc = 0x0104 }) (Write 0xFFFF 0x44 ∷ Write 0x0000 0x46 ∷ []) ∷
    -- LD (5FFFH),BC | ED 43 FF 5F | BLANKS=05 | 20 | (5FFF)=44 (6000)=46 BLANKS=00
    vector_line (0xED ∷ 0x43 ∷ 0xFF ∷ 0x5F ∷ []) usual_2 [] None (Took 20 ∷ [])
    (λ regs. record regs { r = 0x02; pc = 0x0104 }) (Write 0x5FFF 0x44 ∷ Write 0x6000 0x46 ∷ []) ∷
    -- LD (4CFFH),SP | ED 73 FF 4C | | 20 | (4CFF)=F0 (4D00)=4F
    vector_line (0xED ∷ 0x73 ∷ 0xFF ∷ 0x4C ∷ []) usual_2 [] None (Took 20 ∷ [])
    (λ regs. record regs { r = 0x02; pc = 0x0104 }) (Write 0x4CFF 0xF0 ∷ Write 0x4D00 0x4F ∷ []) ∷
    -- LD (0FFFFH),SP | ED 73 FF FF | BLANKS=05 | 20 | (FFFF)=F0 (0000)=4F BLANKS=00
    vector_line (0xED ∷ 0x73 ∷ 0xFF ∷ 0xFF ∷ []) usual_2 [] None (Took 20 ∷ [])
    (λ regs. record regs { r = 0x02; pc = 0x0104 }) (Write 0xFFFF 0xF0 ∷ Write 0x0000 0x4F ∷ []) ∷
    -- LD (5FFFH),SP | ED 73 FF 5F | BLANKS=05 | 20 | (5FFF)=F0 (6000)=4F BLANKS=00
    vector_line (0xED ∷ 0x73 ∷ 0xFF ∷ 0x5F ∷ []) usual_2 [] None (Took 20 ∷ [])
    (λ regs. record regs { r = 0x02; pc = 0x0104 }) (Write 0x5FFF 0xF0 ∷ Write 0x6000 0x4F ∷ []) ∷
    -- LD (4CFFH),IX | DD 22 FF 4C | | 20 | (4CFF)=30 (4D00)=5A
    vector_line (0xDD ∷ 0x22 ∷ 0xFF ∷ 0x4C ∷ []) usual_2 [] None (Took 20 ∷ [])
    (λ regs. record regs { r = 0x02; pc = 0x0104 }) (Write 0x4CFF 0x30 ∷ Write 0x4D00 0x5A ∷ []) ∷
    -- LD (0FFFFH),IX | DD 22 FF FF | BLANKS=05 | 20 | (FFFF)=30 (0000)=5A BLANKS=00
    vector_line (0xDD ∷ 0x22 ∷ 0xFF ∷ 0xFF ∷ []) usual_2 [] None (Took 20 ∷ [])
    (λ regs. record regs { r = 0x02; pc = 0x0104 }) (Write 0xFFFF 0x30 ∷ Write 0x0000 0x5A ∷ []) ∷
    -- LD (5FFFH),IX | DD 22 FF 5F | BLANKS=05 | 20 | (5FFF)=30 (6000)=5A BLANKS=00
    vector_line (0xDD ∷ 0x22 ∷ 0xFF ∷ 0x5F ∷ []) usual_2 [] None (Took 20 ∷ [])
    (λ regs. record regs { r = 0x02; pc = 0x0104 }) (Write 0x5FFF 0x30 ∷ Write 0x6000 0x5A ∷ []) ∷
    -- LD (4CFFH),IY | FD 22 FF 4C | | 20 | (4CFF)=74 (4D00)=41
    vector_line (0xFD ∷ 0x22 ∷ 0xFF ∷ 0x4C ∷ []) usual_2 [] None (Took 20 ∷ [])
    (λ regs. record regs { r = 0x02; pc = 0x0104 }) (Write 0x4CFF 0x74 ∷ Write 0x4D00 0x41 ∷ []) ∷
    -- LD (0FFFFH),IY | FD 22 FF FF | BLANKS=05 | 20 | (FFFF)=74 (0000)=41 BLANKS=00
    vector_line (0xFD ∷ 0x22 ∷ 0xFF ∷ 0xFF ∷ []) usual_2 [] None (Took 20 ∷ [])
    (λ regs. record regs { r = 0x02; pc = 0x0104 }) (Write 0xFFFF 0x74 ∷ Write 0x0000 0x41 ∷ []) ∷
    -- LD (5FFFH),IY | FD 22 FF 5F | BLANKS=05 | 20 | (5FFF)=74 (6000)=41 BLANKS=00
    vector_line (0xFD ∷ 0x22 ∷ 0xFF ∷ 0x5F ∷ []) usual_2 [] None (Took 20 ∷ [])
    (λ regs. record regs { r = 0x02; pc = 0x0104 }) (Write 0x5FFF 0x74 ∷ Write 0x6000 0x41 ∷ []) ∷
    -- PUSH AF | F5 | SP=4E07 | 11 | SP=4E05 (4E06)=22 (4E05)=33
    vector_line (0xF5 ∷ []) (record usual_3 { sp = 0x4E07 }) [] None (Took 11 ∷ [])
    (λ regs. record regs { r = 0x01; pc = 0x0001; sp = 0x4E05 }) (Write 0x4E06 0x22 ∷ Write 0x4E05 0x33 ∷ []) ∷
    -- PUSH BC | C5 | SP=4D01 | 11 | SP=4CFF (4D00)=12 (4CFF)=34
    vector_line (0xC5 ∷ []) (record usual_3 { sp = 0x4D01 }) [] None (Took 11 ∷ [])
    (λ regs. record regs { r = 0x01; pc = 0x0001; sp = 0x4CFF }) (Write 0x4D00 0x12 ∷ Write 0x4CFF 0x34 ∷ []) ∷
    -- PUSH BC | C5 | SP=6001 BLANKS=05 | 11 | SP=5FFF (6000)=12 (5FFF)=34 BLANKS=00
    vector_line (0xC5 ∷ []) (record usual_3 { sp = 0x6001 }) [] None (Took 11 ∷ [])
    (λ regs. record regs { r = 0x01; pc = 0x0001; sp = 0x5FFF }) (Write 0x6000 0x12 ∷ Write 0x5FFF 0x34 ∷ []) ∷
    -- PUSH BC | C5 | SP=0001 PC=0100 BLANKS=05 | 11 | SP=FFFF (0000)=12 (FFFF)=34 BLANKS=00
    vector_line (0xC5 ∷ []) (record usual_3 { sp = 0x0001; pc = 0x0100 }) [] None (Took 11 ∷ [])
    (λ regs. record regs { r = 0x01; pc = 0x0101; sp = 0xFFFF }) (Write 0x0000 0x12 ∷ Write 0xFFFF 0x34 ∷ []) ∷
    -- PUSH IX | DD E5 | SP=4E02 | 15 | SP=4E00 (4E01)=55 (4E00)=66
    vector_line (0xDD ∷ 0xE5 ∷ []) (record usual_3 { sp = 0x4E02 }) [] None (Took 15 ∷ [])
    (λ regs. record regs { r = 0x02; pc = 0x0002; sp = 0x4E00 }) (Write 0x4E01 0x55 ∷ Write 0x4E00 0x66 ∷ []) ∷
    -- PUSH IX | DD E5 | PC=0100 BLANKS=05 | 15 | SP=FFFE (FFFF)=55 (FFFE)=66 BLANKS=00
    vector_line (0xDD ∷ 0xE5 ∷ []) (record usual_3 { pc = 0x0100 }) [] None (Took 15 ∷ [])
    (λ regs. record regs { r = 0x02; pc = 0x0102; sp = 0xFFFE }) (Write 0xFFFF 0x55 ∷ Write 0xFFFE 0x66 ∷ []) ∷
    -- PUSH IY | FD E5 | SP=4002 | 15 | SP=4000 (4001)=77 (4000)=88
    vector_line (0xFD ∷ 0xE5 ∷ []) (record usual_3 { sp = 0x4002 }) [] None (Took 15 ∷ [])
    (λ regs. record regs { r = 0x02; pc = 0x0002; sp = 0x4000 }) (Write 0x4001 0x77 ∷ Write 0x4000 0x88 ∷ []) ∷
    -- PUSH IY | FD E5 | SP=0002 PC=0100 BLANKS=05 | 15 | SP=0000 (0001)=77 (0000)=88
    vector_line (0xFD ∷ 0xE5 ∷ []) (record usual_3 { sp = 0x0002; pc = 0x0100 }) [] None (Took 15 ∷ [])
    (λ regs. record regs { r = 0x02; pc = 0x0102; sp = 0x0000 }) (Write 0x0001 0x77 ∷ Write 0x0000 0x88 ∷ []) ∷
    -- POP HL | E1 | SP=1000 | 10 | HL=3355 SP=1002
    vector_line (0xE1 ∷ []) (record usual_4 { sp = 0x1000 }) cells_4 None (Took 10 ∷ [])
    (λ regs. record regs { r = 0x01; pc = 0x0101; h = 0x33; l = 0x55; sp = 0x1002 }) [] ∷
    -- POP AF | F1 | F=28 SP=10FF | 10 | A=7E F=93 SP=1101
    vector_line (0xF1 ∷ []) (record usual_4 { f = 0x28; sp = 0x10FF }) cells_4 None (Took 10 ∷ [])
    (λ regs. record regs { r = 0x01; pc = 0x0101; a = 0x7E; f = 0x93; sp = 0x1101 }) [] ∷
    -- POP AF | F1 | SP=FFFF (FFFF)=FF | 10 | A=7E F=FF SP=0001
    vector_line (0xF1 ∷ []) (record usual_4 { sp = 0xFFFF }) (Write 0xFFFF 0xFF ∷ cells_4) None (Took 10 ∷ [])
    (λ regs. record regs { r = 0x01; pc = 0x0101; a = 0x7E; f = 0xFF; sp = 0x0001 }) [] ∷
    -- POP IX | DD E1 | SP=1000 | 14 | IX=3355 SP=1002
    vector_line (0xDD ∷ 0xE1 ∷ []) (record usual_4 { sp = 0x1000 }) cells_4 None (Took 14 ∷ [])
    (λ regs. record regs { r = 0x02; pc = 0x0102; ix = 0x3355; sp = 0x1002 }) [] ∷
    -- POP IY | FD E1 | F=28 SP=10FF | 14 | IY=7E93 SP=1101
    vector_line (0xFD ∷ 0xE1 ∷ []) (record usual_4 { f = 0x28; sp = 0x10FF }) cells_4 None (Took 14 ∷ [])
    (λ regs. record regs { r = 0x02; pc = 0x0102; iy = 0x7E93; sp = 0x1101 }) [] ∷
    -- POP IY | FD E1 | F=28 SP=FFFF (FFFF)=FF | 14 | IY=7EFF SP=0001
    vector_line (0xFD ∷ 0xE1 ∷ []) (record usual_4 { f = 0x28; sp = 0xFFFF }) (Write 0xFFFF 0xFF ∷ cells_4) None (Took 14 ∷ [])
    (λ regs. record regs { r = 0x02; pc = 0x0102; iy = 0x7EFF; sp = 0x0001 }) [] ∷
    []
