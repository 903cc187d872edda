-- Law: Blocks from and to ports (UM0080, "Input and Output Group"). Made by tools/make/make-vectors from tools/check/vectors.txt.
use Rattle.std.specs.Prelude.{List, [], ◌∷◌, None}
use Rattle.pac_bus.specs.Action.{Action, Write, Output}
use Rattle.pac_exec.specs.declared.regs.Regs.{Regs}
use Rattle.pac_cpu.specs.Power.{power_on_regs}
use Rattle.pac_cpu_vectors.specs.Vectors.{VectorLine, vector_line, Took}

abbrev usual_1 : Regs
usual_1 = record power_on_regs { d = 0x4E; e = 0x22; h = 0x4D; l = 0x00; pc = 0x0100 }

abbrev usual_2 : Regs
usual_2 = record power_on_regs { d = 0x4E; e = 0x22; h = 0x10; l = 0x00; pc = 0x0100 }

abbrev cells_2 : List Action
cells_2 = Write 0x1000 0x59 ∷ []

-- the lines of the table
abbrev pub blocks_from_and_to_ports_lines : List VectorLine
blocks_from_and_to_ports_lines =
    -- INI | ED A2 | BC=1007 | 16 | F=02 BC=0F07 HL=4D01 (4D00)=FF
    vector_line (0xED ∷ 0xA2 ∷ []) (record usual_1 { b = 0x10; c = 0x07 }) [] None (Took 16 ∷ [])
    (λ regs. record regs { r = 0x02; pc = 0x0102; f = 0x02; b = 0x0F; c = 0x07; h = 0x4D; l = 0x01 }) (Write 0x4D00 0xFF ∷ []) ∷
    -- INI | ED A2 | BC=0107 | 16 | F=42 BC=0007 HL=4D01 (4D00)=FF
    vector_line (0xED ∷ 0xA2 ∷ []) (record usual_1 { b = 0x01; c = 0x07 }) [] None (Took 16 ∷ [])
    (λ regs. record regs { r = 0x02; pc = 0x0102; f = 0x42; b = 0x00; c = 0x07; h = 0x4D; l = 0x01 }) (Write 0x4D00 0xFF ∷ []) ∷
    -- INI | ED A2 | F=FF BC=0007 | 16 | F=BF BC=FF07 HL=4D01 (4D00)=FF
    vector_line (0xED ∷ 0xA2 ∷ []) (record usual_1 { f = 0xFF; b = 0x00; c = 0x07 }) [] None (Took 16 ∷ [])
    (λ regs. record regs { r = 0x02; pc = 0x0102; f = 0xBF; b = 0xFF; c = 0x07; h = 0x4D; l = 0x01 }) (Write 0x4D00 0xFF ∷ []) ∷
    -- IND | ED AA | F=BD BC=1007 | 16 | F=BF BC=0F07 HL=4CFF (4D00)=FF
    vector_line (0xED ∷ 0xAA ∷ []) (record usual_1 { f = 0xBD; b = 0x10; c = 0x07 }) [] None (Took 16 ∷ [])
    (λ regs. record regs { r = 0x02; pc = 0x0102; f = 0xBF; b = 0x0F; c = 0x07; h = 0x4C; l = 0xFF }) (Write 0x4D00 0xFF ∷ []) ∷
    -- INIR | ED B2 | BC=0207 | 21 | F=02 BC=0107 HL=4D01 PC=0100 (4D00)=FF
    vector_line (0xED ∷ 0xB2 ∷ []) (record usual_1 { b = 0x02; c = 0x07 }) [] None (Took 21 ∷ [])
    (λ regs. record regs { r = 0x02; pc = 0x0100; f = 0x02; b = 0x01; c = 0x07; h = 0x4D; l = 0x01 }) (Write 0x4D00 0xFF ∷ []) ∷
    -- INIR | ED B2 | BC=0107 | 16 | F=42 BC=0007 HL=4D01 (4D00)=FF
    vector_line (0xED ∷ 0xB2 ∷ []) (record usual_1 { b = 0x01; c = 0x07 }) [] None (Took 16 ∷ [])
    (λ regs. record regs { r = 0x02; pc = 0x0102; f = 0x42; b = 0x00; c = 0x07; h = 0x4D; l = 0x01 }) (Write 0x4D00 0xFF ∷ []) ∷
    -- INIR | ED B2 | BC=0007 | 21 | F=02 BC=FF07 HL=4D01 PC=0100 (4D00)=FF
    vector_line (0xED ∷ 0xB2 ∷ []) (record usual_1 { b = 0x00; c = 0x07 }) [] None (Took 21 ∷ [])
    (λ regs. record regs { r = 0x02; pc = 0x0100; f = 0x02; b = 0xFF; c = 0x07; h = 0x4D; l = 0x01 }) (Write 0x4D00 0xFF ∷ []) ∷
    -- INDR | ED BA | BC=0207 | 21 | F=02 BC=0107 HL=4CFF PC=0100 (4D00)=FF
    vector_line (0xED ∷ 0xBA ∷ []) (record usual_1 { b = 0x02; c = 0x07 }) [] None (Took 21 ∷ [])
    (λ regs. record regs { r = 0x02; pc = 0x0100; f = 0x02; b = 0x01; c = 0x07; h = 0x4C; l = 0xFF }) (Write 0x4D00 0xFF ∷ []) ∷
    -- INDR | ED BA | BC=0107 | 16 | F=42 BC=0007 HL=4CFF (4D00)=FF
    vector_line (0xED ∷ 0xBA ∷ []) (record usual_1 { b = 0x01; c = 0x07 }) [] None (Took 16 ∷ [])
    (λ regs. record regs { r = 0x02; pc = 0x0102; f = 0x42; b = 0x00; c = 0x07; h = 0x4C; l = 0xFF }) (Write 0x4D00 0xFF ∷ []) ∷
    -- OUTI | ED A3 | BC=1000 | 16 | F=02 BC=0F00 HL=1001 [00]=59
    vector_line (0xED ∷ 0xA3 ∷ []) (record usual_2 { b = 0x10; c = 0x00 }) cells_2 None (Took 16 ∷ [])
    (λ regs. record regs { r = 0x02; pc = 0x0102; f = 0x02; b = 0x0F; c = 0x00; h = 0x10; l = 0x01 }) (Output 0x00 0x59 ∷ []) ∷
    -- OUTI | ED A3 | BC=0100 | 16 | F=42 BC=0000 HL=1001 [00]=59
    vector_line (0xED ∷ 0xA3 ∷ []) (record usual_2 { b = 0x01; c = 0x00 }) cells_2 None (Took 16 ∷ [])
    (λ regs. record regs { r = 0x02; pc = 0x0102; f = 0x42; b = 0x00; c = 0x00; h = 0x10; l = 0x01 }) (Output 0x00 0x59 ∷ []) ∷
    -- OUTI | ED A3 | F=FF BC=0000 | 16 | F=BF BC=FF00 HL=1001 [00]=59
    vector_line (0xED ∷ 0xA3 ∷ []) (record usual_2 { f = 0xFF; b = 0x00; c = 0x00 }) cells_2 None (Took 16 ∷ [])
    (λ regs. record regs { r = 0x02; pc = 0x0102; f = 0xBF; b = 0xFF; c = 0x00; h = 0x10; l = 0x01 }) (Output 0x00 0x59 ∷ []) ∷
    -- OUTD | ED AB | F=BD BC=1000 | 16 | F=BF BC=0F00 HL=0FFF [00]=59
    vector_line (0xED ∷ 0xAB ∷ []) (record usual_2 { f = 0xBD; b = 0x10; c = 0x00 }) cells_2 None (Took 16 ∷ [])
    (λ regs. record regs { r = 0x02; pc = 0x0102; f = 0xBF; b = 0x0F; c = 0x00; h = 0x0F; l = 0xFF }) (Output 0x00 0x59 ∷ []) ∷
    -- OTIR | ED B3 | BC=0300 | 21 | F=02 BC=0200 HL=1001 PC=0100 [00]=59
    vector_line (0xED ∷ 0xB3 ∷ []) (record usual_2 { b = 0x03; c = 0x00 }) cells_2 None (Took 21 ∷ [])
    (λ regs. record regs { r = 0x02; pc = 0x0100; f = 0x02; b = 0x02; c = 0x00; h = 0x10; l = 0x01 }) (Output 0x00 0x59 ∷ []) ∷
    -- OTIR | ED B3 | BC=0100 | 16 | F=42 BC=0000 HL=1001 [00]=59
    vector_line (0xED ∷ 0xB3 ∷ []) (record usual_2 { b = 0x01; c = 0x00 }) cells_2 None (Took 16 ∷ [])
    (λ regs. record regs { r = 0x02; pc = 0x0102; f = 0x42; b = 0x00; c = 0x00; h = 0x10; l = 0x01 }) (Output 0x00 0x59 ∷ []) ∷
    -- OTIR | ED B3 | BC=0000 | 21 | F=02 BC=FF00 HL=1001 PC=0100 [00]=59
    vector_line (0xED ∷ 0xB3 ∷ []) (record usual_2 { b = 0x00; c = 0x00 }) cells_2 None (Took 21 ∷ [])
    (λ regs. record regs { r = 0x02; pc = 0x0100; f = 0x02; b = 0xFF; c = 0x00; h = 0x10; l = 0x01 }) (Output 0x00 0x59 ∷ []) ∷
    -- OTDR | ED BB | BC=0300 | 21 | F=02 BC=0200 HL=0FFF PC=0100 [00]=59
    vector_line (0xED ∷ 0xBB ∷ []) (record usual_2 { b = 0x03; c = 0x00 }) cells_2 None (Took 21 ∷ [])
    (λ regs. record regs { r = 0x02; pc = 0x0100; f = 0x02; b = 0x02; c = 0x00; h = 0x0F; l = 0xFF }) (Output 0x00 0x59 ∷ []) ∷
    -- OTDR | ED BB | BC=0100 | 16 | F=42 BC=0000 HL=0FFF [00]=59
    vector_line (0xED ∷ 0xBB ∷ []) (record usual_2 { b = 0x01; c = 0x00 }) cells_2 None (Took 16 ∷ [])
    (λ regs. record regs { r = 0x02; pc = 0x0102; f = 0x42; b = 0x00; c = 0x00; h = 0x0F; l = 0xFF }) (Output 0x00 0x59 ∷ []) ∷
    -- OUTI | ED A3 | BC=0107 [00]=55 | 16 | F=42 BC=0007 HL=1001 [07]=59
    vector_line (0xED ∷ 0xA3 ∷ []) (record usual_2 { b = 0x01; c = 0x07 }) cells_2 None (Took 16 ∷ [])
    (λ regs. record regs { r = 0x02; pc = 0x0102; f = 0x42; b = 0x00; c = 0x07; h = 0x10; l = 0x01 }) (Output 0x07 0x59 ∷ []) ∷
    -- OUTD | ED AB | BC=0107 [00]=55 | 16 | F=42 BC=0007 HL=0FFF [07]=59
    vector_line (0xED ∷ 0xAB ∷ []) (record usual_2 { b = 0x01; c = 0x07 }) cells_2 None (Took 16 ∷ [])
    (λ regs. record regs { r = 0x02; pc = 0x0102; f = 0x42; b = 0x00; c = 0x07; h = 0x0F; l = 0xFF }) (Output 0x07 0x59 ∷ []) ∷
    -- OTIR | ED B3 | BC=0107 [00]=55 | 16 | F=42 BC=0007 HL=1001 [07]=59
    vector_line (0xED ∷ 0xB3 ∷ []) (record usual_2 { b = 0x01; c = 0x07 }) cells_2 None (Took 16 ∷ [])
    (λ regs. record regs { r = 0x02; pc = 0x0102; f = 0x42; b = 0x00; c = 0x07; h = 0x10; l = 0x01 }) (Output 0x07 0x59 ∷ []) ∷
    -- OTDR | ED BB | BC=0107 [00]=55 | 16 | F=42 BC=0007 HL=0FFF [07]=59
    vector_line (0xED ∷ 0xBB ∷ []) (record usual_2 { b = 0x01; c = 0x07 }) cells_2 None (Took 16 ∷ [])
    (λ regs. record regs { r = 0x02; pc = 0x0102; f = 0x42; b = 0x00; c = 0x07; h = 0x0F; l = 0xFF }) (Output 0x07 0x59 ∷ []) ∷
    []
