-- Law: Jumps (UM0080, "Jump Group"). Made by tools/make/make-vectors from tools/check/vectors.txt.
use Rattle.std.specs.Prelude.{List, [], ◌∷◌, None}
use Rattle.pac_exec.specs.declared.regs.Regs.{Regs}
use Rattle.pac_cpu.specs.Power.{power_on_regs}
use Rattle.pac_cpu_vectors.specs.Vectors.{VectorLine, vector_line, Took}

abbrev usual_1 : Regs
usual_1 = record power_on_regs { h = 0x48; ix = 0x4810; iy = 0x4820 }

abbrev usual_2 : Regs
usual_2 = record power_on_regs { f = 0xFF }

abbrev usual_3 : Regs
usual_3 = record power_on_regs { pc = 0x0480 }

abbrev usual_4 : Regs
usual_4 = record power_on_regs { f = 0xFF; pc = 0x0480 }

-- the lines of the table
abbrev pub jumps_lines : List VectorLine
jumps_lines =
    -- JP 0FFFFH | C3 FF FF | | 10 | PC=FFFF
    vector_line (0xC3 ∷ 0xFF ∷ 0xFF ∷ []) usual_1 [] None (Took 10 ∷ []) (λ regs. record regs { r = 0x01; pc = 0xFFFF }) [] ∷
    -- JP (HL) | E9 | | 4 | PC=4800
    vector_line (0xE9 ∷ []) usual_1 [] None (Took 4 ∷ []) (λ regs. record regs { r = 0x01; pc = 0x4800 }) [] ∷
    -- JP (IX) | DD E9 | | 8 | PC=4810
    vector_line (0xDD ∷ 0xE9 ∷ []) usual_1 [] None (Took 8 ∷ []) (λ regs. record regs { r = 0x02; pc = 0x4810 }) [] ∷
    -- JP (IY) | FD E9 | | 8 | PC=4820
    vector_line (0xFD ∷ 0xE9 ∷ []) usual_1 [] None (Took 8 ∷ []) (λ regs. record regs { r = 0x02; pc = 0x4820 }) [] ∷
    -- JP NZ,1520H | C2 20 15 | F=BF | 10 | PC=1520
    vector_line (0xC2 ∷ 0x20 ∷ 0x15 ∷ []) (record usual_1 { f = 0xBF }) [] None (Took 10 ∷ [])
    (λ regs. record regs { r = 0x01; pc = 0x1520 }) [] ∷
    -- JP NZ,1520H | C2 20 15 | F=FF | 10 |
    vector_line (0xC2 ∷ 0x20 ∷ 0x15 ∷ []) (record usual_1 { f = 0xFF }) [] None (Took 10 ∷ [])
    (λ regs. record regs { r = 0x01; pc = 0x0003 }) [] ∷
    -- JP Z,1520H | CA 20 15 | F=40 | 10 | PC=1520
    vector_line (0xCA ∷ 0x20 ∷ 0x15 ∷ []) (record usual_1 { f = 0x40 }) [] None (Took 10 ∷ [])
    (λ regs. record regs { r = 0x01; pc = 0x1520 }) [] ∷
    -- JP Z,1520H | CA 20 15 | | 10 |
    vector_line (0xCA ∷ 0x20 ∷ 0x15 ∷ []) usual_1 [] None (Took 10 ∷ []) (λ regs. record regs { r = 0x01; pc = 0x0003 }) [] ∷
    -- JP NC,1520H | D2 20 15 | F=FE | 10 | PC=1520
    vector_line (0xD2 ∷ 0x20 ∷ 0x15 ∷ []) (record usual_1 { f = 0xFE }) [] None (Took 10 ∷ [])
    (λ regs. record regs { r = 0x01; pc = 0x1520 }) [] ∷
    -- JP NC,1520H | D2 20 15 | F=FF | 10 |
    vector_line (0xD2 ∷ 0x20 ∷ 0x15 ∷ []) (record usual_1 { f = 0xFF }) [] None (Took 10 ∷ [])
    (λ regs. record regs { r = 0x01; pc = 0x0003 }) [] ∷
    -- JP C,1520H | DA 20 15 | F=01 | 10 | PC=1520
    vector_line (0xDA ∷ 0x20 ∷ 0x15 ∷ []) (record usual_1 { f = 0x01 }) [] None (Took 10 ∷ [])
    (λ regs. record regs { r = 0x01; pc = 0x1520 }) [] ∷
    -- JP C,1520H | DA 20 15 | | 10 |
    vector_line (0xDA ∷ 0x20 ∷ 0x15 ∷ []) usual_1 [] None (Took 10 ∷ []) (λ regs. record regs { r = 0x01; pc = 0x0003 }) [] ∷
    -- JP PO,1520H | E2 20 15 | F=FB | 10 | PC=1520
    vector_line (0xE2 ∷ 0x20 ∷ 0x15 ∷ []) (record usual_1 { f = 0xFB }) [] None (Took 10 ∷ [])
    (λ regs. record regs { r = 0x01; pc = 0x1520 }) [] ∷
    -- JP PO,1520H | E2 20 15 | F=FF | 10 |
    vector_line (0xE2 ∷ 0x20 ∷ 0x15 ∷ []) (record usual_1 { f = 0xFF }) [] None (Took 10 ∷ [])
    (λ regs. record regs { r = 0x01; pc = 0x0003 }) [] ∷
    -- JP PE,1520H | EA 20 15 | F=04 | 10 | PC=1520
    vector_line (0xEA ∷ 0x20 ∷ 0x15 ∷ []) (record usual_1 { f = 0x04 }) [] None (Took 10 ∷ [])
    (λ regs. record regs { r = 0x01; pc = 0x1520 }) [] ∷
    -- JP PE,1520H | EA 20 15 | | 10 |
    vector_line (0xEA ∷ 0x20 ∷ 0x15 ∷ []) usual_1 [] None (Took 10 ∷ []) (λ regs. record regs { r = 0x01; pc = 0x0003 }) [] ∷
    -- JP P,1520H | F2 20 15 | F=7F | 10 | PC=1520
    vector_line (0xF2 ∷ 0x20 ∷ 0x15 ∷ []) (record usual_1 { f = 0x7F }) [] None (Took 10 ∷ [])
    (λ regs. record regs { r = 0x01; pc = 0x1520 }) [] ∷
    -- JP P,1520H | F2 20 15 | F=FF | 10 |
    vector_line (0xF2 ∷ 0x20 ∷ 0x15 ∷ []) (record usual_1 { f = 0xFF }) [] None (Took 10 ∷ [])
    (λ regs. record regs { r = 0x01; pc = 0x0003 }) [] ∷
    -- JP M,1520H | FA 20 15 | F=80 | 10 | PC=1520
    vector_line (0xFA ∷ 0x20 ∷ 0x15 ∷ []) (record usual_1 { f = 0x80 }) [] None (Took 10 ∷ [])
    (λ regs. record regs { r = 0x01; pc = 0x1520 }) [] ∷
    -- JP M,1520H | FA 20 15 | | 10 |
    vector_line (0xFA ∷ 0x20 ∷ 0x15 ∷ []) usual_1 [] None (Took 10 ∷ []) (λ regs. record regs { r = 0x01; pc = 0x0003 }) [] ∷
    -- JR $+2+3 | 18 03 | PC=0480 | 12 | PC=0485
    vector_line (0x18 ∷ 0x03 ∷ []) (record usual_2 { pc = 0x0480 }) [] None (Took 12 ∷ [])
    (λ regs. record regs { r = 0x01; pc = 0x0485 }) [] ∷
    -- JR $+2+127 | 18 7F | | 12 | PC=0081
    vector_line (0x18 ∷ 0x7F ∷ []) usual_2 [] None (Took 12 ∷ []) (λ regs. record regs { r = 0x01; pc = 0x0081 }) [] ∷
    -- JR $+2-128 | 18 80 | | 12 | PC=FF82
    vector_line (0x18 ∷ 0x80 ∷ []) usual_2 [] None (Took 12 ∷ []) (λ regs. record regs { r = 0x01; pc = 0xFF82 }) [] ∷
    -- JR $+2+127 | 18 7F | PC=FF7F HELD=E700 DIP=7F | 12 | PC=0000
    vector_line (0x18 ∷ 0x7F ∷ []) (record usual_2 { pc = 0xFF7F }) [] None (Took 12 ∷ [])
    (λ regs. record regs { r = 0x01; pc = 0x0000 }) [] ∷
    -- JR $+2-128 | 18 80 | PC=8000 | 12 | PC=7F82
    vector_line (0x18 ∷ 0x80 ∷ []) (record usual_2 { pc = 0x8000 }) [] None (Took 12 ∷ [])
    (λ regs. record regs { r = 0x01; pc = 0x7F82 }) [] ∷
    -- JR $+2+127 | 18 7F | PC=7F7F HELD=E700 DIP=7F | 12 | PC=8000
    vector_line (0x18 ∷ 0x7F ∷ []) (record usual_2 { pc = 0x7F7F }) [] None (Took 12 ∷ [])
    (λ regs. record regs { r = 0x01; pc = 0x8000 }) [] ∷
    -- JR $+2-2 | 18 FE | | 12 | PC=0000
    vector_line (0x18 ∷ 0xFE ∷ []) usual_2 [] None (Took 12 ∷ []) (λ regs. record regs { r = 0x01; pc = 0x0000 }) [] ∷
    -- JR NZ,$+2-4 | 20 FC | F=BF | 12 | PC=047E
    vector_line (0x20 ∷ 0xFC ∷ []) (record usual_3 { f = 0xBF }) [] None (Took 12 ∷ []) (λ regs. record regs { r = 0x01; pc = 0x047E }) [] ∷
    -- JR NZ,$+2-4 | 20 FC | F=FF | 7 |
    vector_line (0x20 ∷ 0xFC ∷ []) (record usual_3 { f = 0xFF }) [] None (Took 7 ∷ []) (λ regs. record regs { r = 0x01; pc = 0x0482 }) [] ∷
    -- JR Z,$+2-4 | 28 FC | F=40 | 12 | PC=047E
    vector_line (0x28 ∷ 0xFC ∷ []) (record usual_3 { f = 0x40 }) [] None (Took 12 ∷ []) (λ regs. record regs { r = 0x01; pc = 0x047E }) [] ∷
    -- JR Z,$+2-4 | 28 FC | | 7 |
    vector_line (0x28 ∷ 0xFC ∷ []) usual_3 [] None (Took 7 ∷ []) (λ regs. record regs { r = 0x01; pc = 0x0482 }) [] ∷
    -- JR NC,$+2-4 | 30 FC | F=FE | 12 | PC=047E
    vector_line (0x30 ∷ 0xFC ∷ []) (record usual_3 { f = 0xFE }) [] None (Took 12 ∷ []) (λ regs. record regs { r = 0x01; pc = 0x047E }) [] ∷
    -- JR NC,$+2-4 | 30 FC | F=FF | 7 |
    vector_line (0x30 ∷ 0xFC ∷ []) (record usual_3 { f = 0xFF }) [] None (Took 7 ∷ []) (λ regs. record regs { r = 0x01; pc = 0x0482 }) [] ∷
    -- JR C,$+2-4 | 38 FC | F=01 | 12 | PC=047E
    vector_line (0x38 ∷ 0xFC ∷ []) (record usual_3 { f = 0x01 }) [] None (Took 12 ∷ []) (λ regs. record regs { r = 0x01; pc = 0x047E }) [] ∷
    -- JR C,$+2-4 | 38 FC | | 7 |
    vector_line (0x38 ∷ 0xFC ∷ []) usual_3 [] None (Took 7 ∷ []) (λ regs. record regs { r = 0x01; pc = 0x0482 }) [] ∷
    -- DJNZ $+2-128 | 10 80 | B=02 | 13 | B=01 PC=0402
    vector_line (0x10 ∷ 0x80 ∷ []) (record usual_4 { b = 0x02 }) [] None (Took 13 ∷ [])
    (λ regs. record regs { r = 0x01; pc = 0x0402; b = 0x01 }) [] ∷
    -- DJNZ $+2-128 | 10 80 | B=01 | 8 | B=00
    vector_line (0x10 ∷ 0x80 ∷ []) (record usual_4 { b = 0x01 }) [] None (Took 8 ∷ [])
    (λ regs. record regs { r = 0x01; pc = 0x0482; b = 0x00 }) [] ∷
    -- DJNZ $+2-128 | 10 80 | | 13 | B=FF PC=0402
    vector_line (0x10 ∷ 0x80 ∷ []) usual_4 [] None (Took 13 ∷ []) (λ regs. record regs { r = 0x01; pc = 0x0402; b = 0xFF }) [] ∷
    []
