-- Law: the table of DAA (UM0080, DAA). Made by tools/make/make-vectors from tools/check/vectors.txt.
use Rattle.std.specs.Prelude.{List, [], ◌∷◌}
use Rattle.pac_cpu_vectors.specs.Decimals.{DaaLine, daa_line}

-- the lines of the table
abbrev pub daa_lines : List DaaLine
daa_lines =
    -- 0 0 0 | 0-9 | 0-9 | 00 | 0
    daa_line 0 0 0 0x0 0x9 0x0 0x9 0x00 0 ∷
    -- 0 0 0 | 0-8 | A-F | 06 | 0
    daa_line 0 0 0 0x0 0x8 0xA 0xF 0x06 0 ∷
    -- 0 0 1 | 0-9 | 0-3 | 06 | 0
    daa_line 0 0 1 0x0 0x9 0x0 0x3 0x06 0 ∷
    -- 0 0 0 | A-F | 0-9 | 60 | 1
    daa_line 0 0 0 0xA 0xF 0x0 0x9 0x60 1 ∷
    -- 0 0 0 | 9-F | A-F | 66 | 1
    daa_line 0 0 0 0x9 0xF 0xA 0xF 0x66 1 ∷
    -- 0 0 1 | A-F | 0-3 | 66 | 1
    daa_line 0 0 1 0xA 0xF 0x0 0x3 0x66 1 ∷
    -- 0 1 0 | 0-2 | 0-9 | 60 | 1
    daa_line 0 1 0 0x0 0x2 0x0 0x9 0x60 1 ∷
    -- 0 1 0 | 0-2 | A-F | 66 | 1
    daa_line 0 1 0 0x0 0x2 0xA 0xF 0x66 1 ∷
    -- 0 1 1 | 0-3 | 0-3 | 66 | 1
    daa_line 0 1 1 0x0 0x3 0x0 0x3 0x66 1 ∷
    -- 1 0 0 | 0-9 | 0-9 | 00 | 0
    daa_line 1 0 0 0x0 0x9 0x0 0x9 0x00 0 ∷
    -- 1 0 1 | 0-8 | 6-F | FA | 0
    daa_line 1 0 1 0x0 0x8 0x6 0xF 0xFA 0 ∷
    -- 1 1 0 | 7-F | 0-9 | A0 | 1
    daa_line 1 1 0 0x7 0xF 0x0 0x9 0xA0 1 ∷
    -- 1 1 1 | 6-7 | 6-F | 9A | 1
    daa_line 1 1 1 0x6 0x7 0x6 0xF 0x9A 1 ∷
    []
