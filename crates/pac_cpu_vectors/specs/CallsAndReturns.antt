-- Law: Calls and returns (UM0080, "Call and Return Group"). Made by tools/make/make-vectors from tools/check/vectors.txt.
use Rattle.std.specs.Prelude.{true, false, List, [], ◌∷◌, None}
use Rattle.pac_bus.specs.Action.{Action, Write}
use Rattle.pac_exec.specs.declared.regs.Regs.{Regs}
use Rattle.pac_cpu.specs.Power.{power_on_regs}
use Rattle.pac_cpu_vectors.specs.Vectors.{VectorLine, vector_line, Took}

abbrev usual_2 : Regs
usual_2 = record power_on_regs { sp = 0x4E02; pc = 0x1A47 }

abbrev usual_3 : Regs
usual_3 = power_on_regs

abbrev cells_3 : List Action
cells_3 = Write 0x2001 0x18 ∷ Write 0x2000 0xB5 ∷ Write 0x0000 0x80 ∷ []

abbrev usual_4 : Regs
usual_4 = record power_on_regs { sp = 0x2000; pc = 0x3535 }

abbrev cells_4 : List Action
cells_4 = Write 0x2001 0x18 ∷ Write 0x2000 0xB5 ∷ []

-- the lines of the table
abbrev pub calls_and_returns_lines : List VectorLine
calls_and_returns_lines =
    -- CALL 2135H | CD 35 21 | SP=4E02 PC=1A47 | 17 | SP=4E00 PC=2135 (4E01)=1A (4E00)=4A
    vector_line (0xCD ∷ 0x35 ∷ 0x21 ∷ []) (record power_on_regs { sp = 0x4E02; pc = 0x1A47 }) [] None (Took 17 ∷ [])
    (λ regs. record regs { r = 0x01; pc = 0x2135; sp = 0x4E00 }) (Write 0x4E01 0x1A ∷ Write 0x4E00 0x4A ∷ []) ∷
    -- CALL 2135H | CD 35 21 | SP=6001 PC=1A47 BLANKS=05 | 17 | SP=5FFF PC=2135 (6000)=1A (5FFF)=4A BLANKS=00
    vector_line (0xCD ∷ 0x35 ∷ 0x21 ∷ []) (record power_on_regs { sp = 0x6001; pc = 0x1A47 }) [] None (Took 17 ∷ [])
    (λ regs. record regs { r = 0x01; pc = 0x2135; sp = 0x5FFF }) (Write 0x6000 0x1A ∷ Write 0x5FFF 0x4A ∷ []) ∷
    -- CALL 2135H | CD 35 21 | SP=0001 PC=1A47 BLANKS=05 | 17 | SP=FFFF PC=2135 (0000)=1A (FFFF)=4A BLANKS=00
    vector_line (0xCD ∷ 0x35 ∷ 0x21 ∷ []) (record power_on_regs { sp = 0x0001; pc = 0x1A47 }) [] None (Took 17 ∷ [])
    (λ regs. record regs { r = 0x01; pc = 0x2135; sp = 0xFFFF }) (Write 0x0000 0x1A ∷ Write 0xFFFF 0x4A ∷ []) ∷
    -- RST 00H | C7 | SP=4E02 PC=1A49 | 11 | SP=4E00 PC=0000 (4E01)=1A (4E00)=4A
    vector_line (0xC7 ∷ []) (record power_on_regs { sp = 0x4E02; pc = 0x1A49 }) [] None (Took 11 ∷ [])
    (λ regs. record regs { r = 0x01; pc = 0x0000; sp = 0x4E00 }) (Write 0x4E01 0x1A ∷ Write 0x4E00 0x4A ∷ []) ∷
    -- RST 18H | DF | SP=6001 PC=1A49 BLANKS=05 | 11 | SP=5FFF PC=0018 (6000)=1A (5FFF)=4A BLANKS=00
    vector_line (0xDF ∷ []) (record power_on_regs { sp = 0x6001; pc = 0x1A49 }) [] None (Took 11 ∷ [])
    (λ regs. record regs { r = 0x01; pc = 0x0018; sp = 0x5FFF }) (Write 0x6000 0x1A ∷ Write 0x5FFF 0x4A ∷ []) ∷
    -- RST 18H | DF | SP=0001 PC=1A49 BLANKS=05 | 11 | SP=FFFF PC=0018 (0000)=1A (FFFF)=4A BLANKS=00
    vector_line (0xDF ∷ []) (record power_on_regs { sp = 0x0001; pc = 0x1A49 }) [] None (Took 11 ∷ [])
    (λ regs. record regs { r = 0x01; pc = 0x0018; sp = 0xFFFF }) (Write 0x0000 0x1A ∷ Write 0xFFFF 0x4A ∷ []) ∷
    -- RST 38H | FF | SP=4E02 PC=1A49 | 11 | SP=4E00 PC=0038 (4E01)=1A (4E00)=4A
    vector_line (0xFF ∷ []) (record power_on_regs { sp = 0x4E02; pc = 0x1A49 }) [] None (Took 11 ∷ [])
    (λ regs. record regs { r = 0x01; pc = 0x0038; sp = 0x4E00 }) (Write 0x4E01 0x1A ∷ Write 0x4E00 0x4A ∷ []) ∷
    -- CALL NZ,2135H | C4 35 21 | F=BF | 17 | SP=4E00 PC=2135 (4E01)=1A (4E00)=4A
    vector_line (0xC4 ∷ 0x35 ∷ 0x21 ∷ []) (record usual_2 { f = 0xBF }) [] None (Took 17 ∷ [])
    (λ regs. record regs { r = 0x01; pc = 0x2135; sp = 0x4E00 }) (Write 0x4E01 0x1A ∷ Write 0x4E00 0x4A ∷ []) ∷
    -- CALL NZ,2135H | C4 35 21 | F=FF | 10 |
    vector_line (0xC4 ∷ 0x35 ∷ 0x21 ∷ []) (record usual_2 { f = 0xFF }) [] None (Took 10 ∷ [])
    (λ regs. record regs { r = 0x01; pc = 0x1A4A }) [] ∷
    -- CALL Z,2135H | CC 35 21 | F=40 | 17 | SP=4E00 PC=2135 (4E01)=1A (4E00)=4A
    vector_line (0xCC ∷ 0x35 ∷ 0x21 ∷ []) (record usual_2 { f = 0x40 }) [] None (Took 17 ∷ [])
    (λ regs. record regs { r = 0x01; pc = 0x2135; sp = 0x4E00 }) (Write 0x4E01 0x1A ∷ Write 0x4E00 0x4A ∷ []) ∷
    -- CALL Z,2135H | CC 35 21 | | 10 |
    vector_line (0xCC ∷ 0x35 ∷ 0x21 ∷ []) usual_2 [] None (Took 10 ∷ []) (λ regs. record regs { r = 0x01; pc = 0x1A4A }) [] ∷
    -- CALL NC,2135H | D4 35 21 | F=FE | 17 | SP=4E00 PC=2135 (4E01)=1A (4E00)=4A
    vector_line (0xD4 ∷ 0x35 ∷ 0x21 ∷ []) (record usual_2 { f = 0xFE }) [] None (Took 17 ∷ [])
    (λ regs. record regs { r = 0x01; pc = 0x2135; sp = 0x4E00 }) (Write 0x4E01 0x1A ∷ Write 0x4E00 0x4A ∷ []) ∷
    -- CALL NC,2135H | D4 35 21 | F=FF | 10 |
    vector_line (0xD4 ∷ 0x35 ∷ 0x21 ∷ []) (record usual_2 { f = 0xFF }) [] None (Took 10 ∷ [])
    (λ regs. record regs { r = 0x01; pc = 0x1A4A }) [] ∷
    -- CALL C,2135H | DC 35 21 | F=01 | 17 | SP=4E00 PC=2135 (4E01)=1A (4E00)=4A
    vector_line (0xDC ∷ 0x35 ∷ 0x21 ∷ []) (record usual_2 { f = 0x01 }) [] None (Took 17 ∷ [])
    (λ regs. record regs { r = 0x01; pc = 0x2135; sp = 0x4E00 }) (Write 0x4E01 0x1A ∷ Write 0x4E00 0x4A ∷ []) ∷
    -- CALL C,2135H | DC 35 21 | | 10 |
    vector_line (0xDC ∷ 0x35 ∷ 0x21 ∷ []) usual_2 [] None (Took 10 ∷ []) (λ regs. record regs { r = 0x01; pc = 0x1A4A }) [] ∷
    -- CALL PO,2135H | E4 35 21 | F=FB | 17 | SP=4E00 PC=2135 (4E01)=1A (4E00)=4A
    vector_line (0xE4 ∷ 0x35 ∷ 0x21 ∷ []) (record usual_2 { f = 0xFB }) [] None (Took 17 ∷ [])
    (λ regs. record regs { r = 0x01; pc = 0x2135; sp = 0x4E00 }) (Write 0x4E01 0x1A ∷ Write 0x4E00 0x4A ∷ []) ∷
    -- CALL PO,2135H | E4 35 21 | F=FF | 10 |
    vector_line (0xE4 ∷ 0x35 ∷ 0x21 ∷ []) (record usual_2 { f = 0xFF }) [] None (Took 10 ∷ [])
    (λ regs. record regs { r = 0x01; pc = 0x1A4A }) [] ∷
    -- CALL PE,2135H | EC 35 21 | F=04 | 17 | SP=4E00 PC=2135 (4E01)=1A (4E00)=4A
    vector_line (0xEC ∷ 0x35 ∷ 0x21 ∷ []) (record usual_2 { f = 0x04 }) [] None (Took 17 ∷ [])
    (λ regs. record regs { r = 0x01; pc = 0x2135; sp = 0x4E00 }) (Write 0x4E01 0x1A ∷ Write 0x4E00 0x4A ∷ []) ∷
    -- CALL PE,2135H | EC 35 21 | | 10 |
    vector_line (0xEC ∷ 0x35 ∷ 0x21 ∷ []) usual_2 [] None (Took 10 ∷ []) (λ regs. record regs { r = 0x01; pc = 0x1A4A }) [] ∷
    -- CALL P,2135H | F4 35 21 | F=7F | 17 | SP=4E00 PC=2135 (4E01)=1A (4E00)=4A
    vector_line (0xF4 ∷ 0x35 ∷ 0x21 ∷ []) (record usual_2 { f = 0x7F }) [] None (Took 17 ∷ [])
    (λ regs. record regs { r = 0x01; pc = 0x2135; sp = 0x4E00 }) (Write 0x4E01 0x1A ∷ Write 0x4E00 0x4A ∷ []) ∷
    -- CALL P,2135H | F4 35 21 | F=FF | 10 |
    vector_line (0xF4 ∷ 0x35 ∷ 0x21 ∷ []) (record usual_2 { f = 0xFF }) [] None (Took 10 ∷ [])
    (λ regs. record regs { r = 0x01; pc = 0x1A4A }) [] ∷
    -- CALL M,2135H | FC 35 21 | F=80 | 17 | SP=4E00 PC=2135 (4E01)=1A (4E00)=4A
    vector_line (0xFC ∷ 0x35 ∷ 0x21 ∷ []) (record usual_2 { f = 0x80 }) [] None (Took 17 ∷ [])
    (λ regs. record regs { r = 0x01; pc = 0x2135; sp = 0x4E00 }) (Write 0x4E01 0x1A ∷ Write 0x4E00 0x4A ∷ []) ∷
    -- CALL M,2135H | FC 35 21 | | 10 |
    vector_line (0xFC ∷ 0x35 ∷ 0x21 ∷ []) usual_2 [] None (Took 10 ∷ []) (λ regs. record regs { r = 0x01; pc = 0x1A4A }) [] ∷
    -- RET | C9 | SP=2000 PC=3535 | 10 | SP=2002 PC=18B5
    vector_line (0xC9 ∷ []) (record usual_3 { sp = 0x2000; pc = 0x3535 }) cells_3 None (Took 10 ∷ [])
    (λ regs. record regs { r = 0x01; pc = 0x18B5; sp = 0x2002 }) [] ∷
    -- RET | C9 | SP=FFFF PC=3535 (FFFF)=FF | 10 | SP=0001 PC=80FF
    vector_line (0xC9 ∷ []) (record usual_3 { sp = 0xFFFF; pc = 0x3535 }) (Write 0xFFFF 0xFF ∷ cells_3) None (Took 10 ∷ [])
    (λ regs. record regs { r = 0x01; pc = 0x80FF; sp = 0x0001 }) [] ∷
    -- RETI | ED 4D | SP=2000 PC=3534 IFF2=1 | 14 | SP=2002 PC=18B5
    vector_line (0xED ∷ 0x4D ∷ []) (record usual_3 { sp = 0x2000; pc = 0x3534; iff2 = true }) cells_3 None (Took 14 ∷ [])
    (λ regs. record regs { r = 0x02; pc = 0x18B5; sp = 0x2002 }) [] ∷
    -- RETI | ED 4D | SP=2000 PC=3534 IFF1=1 | 14 | SP=2002 PC=18B5
    vector_line (0xED ∷ 0x4D ∷ []) (record usual_3 { sp = 0x2000; pc = 0x3534; iff1 = true }) cells_3 None (Took 14 ∷ [])
    (λ regs. record regs { r = 0x02; pc = 0x18B5; sp = 0x2002 }) [] ∷
    -- RETN | ED 45 | SP=2000 PC=3534 IFF2=1 | 14 | SP=2002 PC=18B5 IFF1=1
    vector_line (0xED ∷ 0x45 ∷ []) (record usual_3 { sp = 0x2000; pc = 0x3534; iff2 = true }) cells_3 None (Took 14 ∷ [])
    (λ regs. record regs { r = 0x02; pc = 0x18B5; sp = 0x2002; iff1 = true }) [] ∷
    -- RETN | ED 45 | SP=2000 PC=3534 IFF1=1 | 14 | SP=2002 PC=18B5 IFF1=0
    vector_line (0xED ∷ 0x45 ∷ []) (record usual_3 { sp = 0x2000; pc = 0x3534; iff1 = true }) cells_3 None (Took 14 ∷ [])
    (λ regs. record regs { r = 0x02; pc = 0x18B5; sp = 0x2002; iff1 = false }) [] ∷
    -- RET NZ | C0 | F=BF | 11 | SP=2002 PC=18B5
    vector_line (0xC0 ∷ []) (record usual_4 { f = 0xBF }) cells_4 None (Took 11 ∷ [])
    (λ regs. record regs { r = 0x01; pc = 0x18B5; sp = 0x2002 }) [] ∷
    -- RET NZ | C0 | F=FF | 5 |
    vector_line (0xC0 ∷ []) (record usual_4 { f = 0xFF }) cells_4 None (Took 5 ∷ []) (λ regs. record regs { r = 0x01; pc = 0x3536 }) [] ∷
    -- RET Z | C8 | F=40 | 11 | SP=2002 PC=18B5
    vector_line (0xC8 ∷ []) (record usual_4 { f = 0x40 }) cells_4 None (Took 11 ∷ [])
    (λ regs. record regs { r = 0x01; pc = 0x18B5; sp = 0x2002 }) [] ∷
    -- RET Z | C8 | | 5 |
    vector_line (0xC8 ∷ []) usual_4 cells_4 None (Took 5 ∷ []) (λ regs. record regs { r = 0x01; pc = 0x3536 }) [] ∷
    -- RET NC | D0 | F=FE | 11 | SP=2002 PC=18B5
    vector_line (0xD0 ∷ []) (record usual_4 { f = 0xFE }) cells_4 None (Took 11 ∷ [])
    (λ regs. record regs { r = 0x01; pc = 0x18B5; sp = 0x2002 }) [] ∷
    -- RET NC | D0 | F=FF | 5 |
    vector_line (0xD0 ∷ []) (record usual_4 { f = 0xFF }) cells_4 None (Took 5 ∷ []) (λ regs. record regs { r = 0x01; pc = 0x3536 }) [] ∷
    -- RET C | D8 | F=01 | 11 | SP=2002 PC=18B5
    vector_line (0xD8 ∷ []) (record usual_4 { f = 0x01 }) cells_4 None (Took 11 ∷ [])
    (λ regs. record regs { r = 0x01; pc = 0x18B5; sp = 0x2002 }) [] ∷
    -- RET C | D8 | | 5 |
    vector_line (0xD8 ∷ []) usual_4 cells_4 None (Took 5 ∷ []) (λ regs. record regs { r = 0x01; pc = 0x3536 }) [] ∷
    -- RET PO | E0 | F=FB | 11 | SP=2002 PC=18B5
    vector_line (0xE0 ∷ []) (record usual_4 { f = 0xFB }) cells_4 None (Took 11 ∷ [])
    (λ regs. record regs { r = 0x01; pc = 0x18B5; sp = 0x2002 }) [] ∷
    -- RET PO | E0 | F=FF | 5 |
    vector_line (0xE0 ∷ []) (record usual_4 { f = 0xFF }) cells_4 None (Took 5 ∷ []) (λ regs. record regs { r = 0x01; pc = 0x3536 }) [] ∷
    -- RET PE | E8 | F=04 | 11 | SP=2002 PC=18B5
    vector_line (0xE8 ∷ []) (record usual_4 { f = 0x04 }) cells_4 None (Took 11 ∷ [])
    (λ regs. record regs { r = 0x01; pc = 0x18B5; sp = 0x2002 }) [] ∷
    -- RET PE | E8 | | 5 |
    vector_line (0xE8 ∷ []) usual_4 cells_4 None (Took 5 ∷ []) (λ regs. record regs { r = 0x01; pc = 0x3536 }) [] ∷
    -- RET P | F0 | F=7F | 11 | SP=2002 PC=18B5
    vector_line (0xF0 ∷ []) (record usual_4 { f = 0x7F }) cells_4 None (Took 11 ∷ [])
    (λ regs. record regs { r = 0x01; pc = 0x18B5; sp = 0x2002 }) [] ∷
    -- RET P | F0 | F=FF | 5 |
    vector_line (0xF0 ∷ []) (record usual_4 { f = 0xFF }) cells_4 None (Took 5 ∷ []) (λ regs. record regs { r = 0x01; pc = 0x3536 }) [] ∷
    -- RET M | F8 | F=80 | 11 | SP=2002 PC=18B5
    vector_line (0xF8 ∷ []) (record usual_4 { f = 0x80 }) cells_4 None (Took 11 ∷ [])
    (λ regs. record regs { r = 0x01; pc = 0x18B5; sp = 0x2002 }) [] ∷
    -- RET M | F8 | | 5 |
    vector_line (0xF8 ∷ []) usual_4 cells_4 None (Took 5 ∷ []) (λ regs. record regs { r = 0x01; pc = 0x3536 }) [] ∷
    []
