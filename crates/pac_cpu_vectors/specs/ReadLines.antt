-- Law: what steps read as data, worked out by hand from the manual (UM0080, "Z80 Instruction Description" and "Interrupt Response").
use Rattle.std.specs.Prelude.{◌≡◌, ℕ, true, List, [], ◌∷◌, map, Option, Some, None}
use Rattle.pac_table.specs.declared.effects.InterruptMode.TheVariants.{One, Two}
use Rattle.pac_exec.specs.declared.regs.Regs.{Regs}
use Rattle.pac_cpu.specs.Power.{power_on_regs}
use Rattle.pac_cpu.specs.Step.{cpu_step}
use Rattle.pac_cpu.specs.StepLaws.{once_of_step}
use Rattle.pac_cpu.specs.StepReads.{reads_in}
use Rattle.pac_cpu_vectors.specs.Vectors.{around, code_from}

-- registers that point to different cells, with Z set and C reset
abbrev pub pointing_regs : Regs
pointing_regs = record power_on_regs {
  f = 0x40;
  b = 0x41;
  c = 0x11;
  d = 0x42;
  e = 0x22;
  h = 0x43;
  l = 0x33;
  ix = 0x4444;
  iy = 0x4555;
  sp = 0x4FEE;
  pc = 0x0100;
}

-- those of a processor that accepts a request
abbrev pub accepting_regs : Regs
accepting_regs = record pointing_regs { i = 0x3F; iff1 = true; iff2 = true; mode = Two }

-- a line: the code at PC, the registers and the request that the step finds, and the cells that it reads
pub record ReadLine : Type 0 where
  pub code : List ℕ
  pub regs : Regs
  pub request : Option ℕ
  pub reads : List ℕ

-- a line of an instruction, and one of a step that finds a request for the vector byte FFH
abbrev pub instruction_line : List ℕ → List ℕ → ReadLine
instruction_line code reads = record { code = code; regs = pointing_regs; request = None; reads = reads }

abbrev pub request_line : List ℕ → Regs → List ℕ → ReadLine
request_line code regs reads = record { code = code; regs = regs; request = Some 0xFF; reads = reads }

abbrev pub read_lines : List ReadLine
read_lines =
    -- LD A,(BC); LD A,(DE); LD A,(5000H); LD B,(HL); LD B,(IX+127); LD B,(IY-128)
    instruction_line (0x0A ∷ []) (0x4111 ∷ []) ∷
    instruction_line (0x1A ∷ []) (0x4222 ∷ []) ∷
    instruction_line (0x3A ∷ 0x00 ∷ 0x50 ∷ []) (0x5000 ∷ []) ∷
    instruction_line (0x46 ∷ []) (0x4333 ∷ []) ∷
    instruction_line (0xDD ∷ 0x46 ∷ 0x7F ∷ []) (0x44C3 ∷ []) ∷
    instruction_line (0xFD ∷ 0x46 ∷ 0x80 ∷ []) (0x44D5 ∷ []) ∷
    -- LD B,C; LD B,5; LD (BC),A; LD (5000H),A; LD (HL),B; LD (HL),5; LD (IX+1),B; LD A,I
    instruction_line (0x41 ∷ []) [] ∷
    instruction_line (0x06 ∷ 0x05 ∷ []) [] ∷
    instruction_line (0x02 ∷ []) [] ∷
    instruction_line (0x32 ∷ 0x00 ∷ 0x50 ∷ []) [] ∷
    instruction_line (0x70 ∷ []) [] ∷
    instruction_line (0x36 ∷ 0x05 ∷ []) [] ∷
    instruction_line (0xDD ∷ 0x70 ∷ 0x01 ∷ []) [] ∷
    instruction_line (0xED ∷ 0x57 ∷ []) [] ∷
    -- LD HL,(0FFFFH); LD BC,(5000H); LD IX,(5000H); LD HL,5000H; LD (5000H),HL; LD SP,HL; PUSH BC; POP BC; POP AF; POP IY
    instruction_line (0x2A ∷ 0xFF ∷ 0xFF ∷ []) (0xFFFF ∷ 0x0000 ∷ []) ∷
    instruction_line (0xED ∷ 0x4B ∷ 0x00 ∷ 0x50 ∷ []) (0x5000 ∷ 0x5001 ∷ []) ∷
    instruction_line (0xDD ∷ 0x2A ∷ 0x00 ∷ 0x50 ∷ []) (0x5000 ∷ 0x5001 ∷ []) ∷
    instruction_line (0x21 ∷ 0x00 ∷ 0x50 ∷ []) [] ∷
    instruction_line (0x22 ∷ 0x00 ∷ 0x50 ∷ []) [] ∷
    instruction_line (0xF9 ∷ []) [] ∷
    instruction_line (0xC5 ∷ []) [] ∷
    instruction_line (0xC1 ∷ []) (0x4FEE ∷ 0x4FEF ∷ []) ∷
    instruction_line (0xF1 ∷ []) (0x4FEE ∷ 0x4FEF ∷ []) ∷
    instruction_line (0xFD ∷ 0xE1 ∷ []) (0x4FEE ∷ 0x4FEF ∷ []) ∷
    -- EX (SP),HL; EX (SP),IX; EX DE,HL; EX AF,AF'; EXX
    instruction_line (0xE3 ∷ []) (0x4FEE ∷ 0x4FEF ∷ []) ∷
    instruction_line (0xDD ∷ 0xE3 ∷ []) (0x4FEE ∷ 0x4FEF ∷ []) ∷
    instruction_line (0xEB ∷ []) [] ∷
    instruction_line (0x08 ∷ []) [] ∷
    instruction_line (0xD9 ∷ []) [] ∷
    -- ADD A,(HL); AND (HL); CP (IX+1); ADD A,B; CP 5; INC (HL); DEC (IY-1); INC B; DAA; ADD HL,BC; INC HL
    instruction_line (0x86 ∷ []) (0x4333 ∷ []) ∷
    instruction_line (0xA6 ∷ []) (0x4333 ∷ []) ∷
    instruction_line (0xDD ∷ 0xBE ∷ 0x01 ∷ []) (0x4445 ∷ []) ∷
    instruction_line (0x80 ∷ []) [] ∷
    instruction_line (0xFE ∷ 0x05 ∷ []) [] ∷
    instruction_line (0x34 ∷ []) (0x4333 ∷ []) ∷
    instruction_line (0xFD ∷ 0x35 ∷ 0xFF ∷ []) (0x4554 ∷ []) ∷
    instruction_line (0x04 ∷ []) [] ∷
    instruction_line (0x27 ∷ []) [] ∷
    instruction_line (0x09 ∷ []) [] ∷
    instruction_line (0x23 ∷ []) [] ∷
    -- RLC (HL); SRL (IX+2); RL B; RLCA; RLD; RRD; BIT 7,(HL); RES 0,(HL); SET 0,(IY+0); SET 0,B
    instruction_line (0xCB ∷ 0x06 ∷ []) (0x4333 ∷ []) ∷
    instruction_line (0xDD ∷ 0xCB ∷ 0x02 ∷ 0x3E ∷ []) (0x4446 ∷ []) ∷
    instruction_line (0xCB ∷ 0x10 ∷ []) [] ∷
    instruction_line (0x07 ∷ []) [] ∷
    instruction_line (0xED ∷ 0x6F ∷ []) (0x4333 ∷ []) ∷
    instruction_line (0xED ∷ 0x67 ∷ []) (0x4333 ∷ []) ∷
    instruction_line (0xCB ∷ 0x7E ∷ []) (0x4333 ∷ []) ∷
    instruction_line (0xCB ∷ 0x86 ∷ []) (0x4333 ∷ []) ∷
    instruction_line (0xFD ∷ 0xCB ∷ 0x00 ∷ 0xC6 ∷ []) (0x4555 ∷ []) ∷
    instruction_line (0xCB ∷ 0xC0 ∷ []) [] ∷
    -- JP 5000H; JP (HL); JR 0; DJNZ 0; CALL 5000H; CALL Z,5000H; RST 8
    instruction_line (0xC3 ∷ 0x00 ∷ 0x50 ∷ []) [] ∷
    instruction_line (0xE9 ∷ []) [] ∷
    instruction_line (0x18 ∷ 0x00 ∷ []) [] ∷
    instruction_line (0x10 ∷ 0x00 ∷ []) [] ∷
    instruction_line (0xCD ∷ 0x00 ∷ 0x50 ∷ []) [] ∷
    instruction_line (0xCC ∷ 0x00 ∷ 0x50 ∷ []) [] ∷
    instruction_line (0xCF ∷ []) [] ∷
    -- RET; RET Z; RET NZ; RET NC; RET C; RETI; RETN
    instruction_line (0xC9 ∷ []) (0x4FEE ∷ 0x4FEF ∷ []) ∷
    instruction_line (0xC8 ∷ []) (0x4FEE ∷ 0x4FEF ∷ []) ∷
    instruction_line (0xC0 ∷ []) [] ∷
    instruction_line (0xD0 ∷ []) (0x4FEE ∷ 0x4FEF ∷ []) ∷
    instruction_line (0xD8 ∷ []) [] ∷
    instruction_line (0xED ∷ 0x4D ∷ []) (0x4FEE ∷ 0x4FEF ∷ []) ∷
    instruction_line (0xED ∷ 0x45 ∷ []) (0x4FEE ∷ 0x4FEF ∷ []) ∷
    -- LDI; LDIR; LDDR; CPI; CPDR; OUTI; OTDR; INI; INDR; IN A,(5); IN B,(C); OUT (5),A
    instruction_line (0xED ∷ 0xA0 ∷ []) (0x4333 ∷ []) ∷
    instruction_line (0xED ∷ 0xB0 ∷ []) (0x4333 ∷ []) ∷
    instruction_line (0xED ∷ 0xB8 ∷ []) (0x4333 ∷ []) ∷
    instruction_line (0xED ∷ 0xA1 ∷ []) (0x4333 ∷ []) ∷
    instruction_line (0xED ∷ 0xB9 ∷ []) (0x4333 ∷ []) ∷
    instruction_line (0xED ∷ 0xA3 ∷ []) (0x4333 ∷ []) ∷
    instruction_line (0xED ∷ 0xBB ∷ []) (0x4333 ∷ []) ∷
    instruction_line (0xED ∷ 0xA2 ∷ []) [] ∷
    instruction_line (0xED ∷ 0xBA ∷ []) [] ∷
    instruction_line (0xDB ∷ 0x05 ∷ []) [] ∷
    instruction_line (0xED ∷ 0x40 ∷ []) [] ∷
    instruction_line (0xD3 ∷ 0x05 ∷ []) [] ∷
    -- NOP; HALT; a stop at ED 00
    instruction_line (0x00 ∷ []) [] ∷
    instruction_line (0x76 ∷ []) [] ∷
    instruction_line (0xED ∷ 0x00 ∷ []) [] ∷
    -- an acceptance in mode 2, in mode 1, and by an RST in mode 0; POP BC before one that is disabled, and after EI; a halted step
    request_line (0xC1 ∷ []) accepting_regs (0x3FFF ∷ 0x4000 ∷ []) ∷
    request_line (0xC1 ∷ []) (record accepting_regs { mode = One }) [] ∷
    request_line (0xC1 ∷ []) (record pointing_regs { iff1 = true }) [] ∷
    request_line (0xC1 ∷ []) (record pointing_regs { mode = Two }) (0x4FEE ∷ 0x4FEF ∷ []) ∷
    request_line (0xC1 ∷ []) (record accepting_regs { after_ei = true }) (0x4FEE ∷ 0x4FEF ∷ []) ∷
    request_line (0xC1 ∷ []) (record pointing_regs { halted = true }) [] ∷
    []

-- what a line's step reads by the definitions
abbrev pub reads_by_step : ReadLine → List ℕ
reads_by_step line =
    let step = cpu_step (around (code_from line.regs.pc line.code)) line.regs line.request in
    reads_in (once_of_step step) line.regs line.request

-- each line holds
abbrev pub EachReadLineHolds : Type 0
EachReadLineHolds = map reads_by_step read_lines ≡ map (λ line. line.reads) read_lines
