-- Law: pages of the manual UM0080 as one equation each, where the definitions say an instruction in several: blocks, DAA,
-- rotations of A, and what an interrupt does.
use Rattle.std.specs.Prelude.{◌≡◌, ℕ, ◌+◌, ◌-◌, ◌*◌, ◌/◌, ◌%◌, ◌<◌, Bool, true, false, not, ◌==◌, ◌&&◌, nat_lt, if◌then◌else◌}
use Rattle.std.specs.Prelude.{List, [], ◌∷◌, Some, option_map}
use Rattle.std.specs.List.{list_any}
use Rattle.pac_table.specs.Instructions.{decoded_instruction}
use Rattle.pac_table.specs.declared.effects.InterruptMode.{InterruptMode}
use Rattle.pac_table.specs.declared.effects.InterruptMode.TheVariants.{Zero, One, Two}
use Rattle.pac_bus.specs.Action.{Action, Write, Output}
use Rattle.pac_alu.specs.declared.flag_byte.Flags.{Flags}
use Rattle.pac_alu.specs.Flags.{flags_of, flag_byte_of, is_negative}
use Rattle.pac_alu.specs.Arithmetic.{decimal_of}
use Rattle.pac_exec.specs.declared.regs.Regs.{Regs}
use Rattle.pac_exec.specs.Registers.{bc, de, hl, with_bc, with_de, with_hl}
use Rattle.pac_exec.specs.Effect.{Transition, effect}
use Rattle.pac_cpu.specs.declared.once.StepKind.TheVariants.{Accepted}
use Rattle.pac_cpu.specs.Step.{Surroundings, Steps, cpu_step, is_restart}

-- a code does what is said, to the registers, where PC follows the code already, by what memory and the ports give
abbrev pub CodeDoes : List ℕ → (Regs → (ℕ → ℕ) → (ℕ → ℕ) → Transition) → Type 0
CodeDoes code what = (regs : Regs) (read input : ℕ → ℕ)
    → option_map (λ instruction. effect instruction regs read input) (decoded_instruction code) ≡ Some (what regs read input)

-- F with some of its flags changed
abbrev pub with_flags : Regs → Flags → Regs
with_flags regs flags = record regs { f = flag_byte_of flags regs.f }

abbrev pub up : ℕ → ℕ
up at = (at + 1) % 65536

abbrev pub down : ℕ → ℕ
down at = (at + 65535) % 65536

-- what a block instruction comes to: 16 T-states; where it is done again, 21, and PC ← PC - 2
abbrev pub done_again_if : Bool → Regs → List Action → Transition
done_again_if again regs actions = record {
  regs = record regs { pc = if again then (regs.pc + 65534) % 65536 else regs.pc };
  actions = actions;
  ticks = if again then 21 else 16;
}

-- LDI, LDD, LDIR and LDDR: (DE) ← (HL), DE ← DE ± 1, HL ← HL ± 1, BC ← BC - 1. H and N are reset, P/V is set where BC isn't 0 then; S, Z
-- and C stay. LDIR and LDDR are done again where BC isn't 0
abbrev pub copies : (repeats : Bool) (moved : ℕ → ℕ) → Regs → (ℕ → ℕ) → (ℕ → ℕ) → Transition
copies repeats moved regs read input =
    let count = down (bc regs) in
    let flags = record (flags_of regs.f) { half_carry = false; parity_overflow = not (count == 0); subtract = false } in
    done_again_if (repeats && not (count == 0))
    (with_flags (with_bc (with_de (with_hl regs (moved (hl regs))) (moved (de regs))) count) flags)
    (Write (de regs) (read (hl regs)) ∷ [])

abbrev pub CopiesBlocks : Type 0
CopiesBlocks =
    CodeDoes (0xED ∷ 0xA0 ∷ []) (copies false up) × CodeDoes (0xED ∷ 0xA8 ∷ []) (copies false down)
    × CodeDoes (0xED ∷ 0xB0 ∷ []) (copies true up) × CodeDoes (0xED ∷ 0xB8 ∷ []) (copies true down)

-- CPI, CPD, CPIR and CPDR: A - (HL), HL ← HL ± 1, BC ← BC - 1. S, Z and H tell of the difference, P/V is set where BC isn't 0 then, N is
-- set; C stays. CPIR and CPDR are done again where BC isn't 0 and A isn't (HL)
abbrev pub searches : (repeats : Bool) (moved : ℕ → ℕ) → Regs → (ℕ → ℕ) → (ℕ → ℕ) → Transition
searches repeats moved regs read input =
    let byte = read (hl regs) in
    let difference = (256 + regs.a - byte) % 256 in
    let count = down (bc regs) in
    let flags = record (flags_of regs.f) {
      sign = is_negative difference;
      zero = difference == 0;
      half_carry = nat_lt (regs.a % 16) (byte % 16);
      parity_overflow = not (count == 0);
      subtract = true;
    } in
    done_again_if (repeats && (not (count == 0) && not (regs.a == byte)))
    (with_flags (with_bc (with_hl regs (moved (hl regs))) count) flags) []

abbrev pub SearchesBlocks : Type 0
SearchesBlocks =
    CodeDoes (0xED ∷ 0xA1 ∷ []) (searches false up) × CodeDoes (0xED ∷ 0xA9 ∷ []) (searches false down)
    × CodeDoes (0xED ∷ 0xB1 ∷ []) (searches true up) × CodeDoes (0xED ∷ 0xB9 ∷ []) (searches true down)

-- what INI, OUTI and those like them have in common: HL ← HL ± 1, B ← B - 1. Z is set where B is 0 then, N is set; the others stay (UM0080
-- calls S, H and P/V unknown). Those that repeat are done again where B isn't 0
abbrev pub counts_down : (repeats : Bool) (moved : ℕ → ℕ) → Regs → List Action → Transition
counts_down repeats moved regs actions =
    let count = (regs.b + 255) % 256 in
    done_again_if (repeats && not (count == 0))
    (with_flags (record (with_hl regs (moved (hl regs))) { b = count }) (record (flags_of regs.f) { zero = count == 0; subtract = true }))
    actions

-- INI, IND, INIR and INDR: (HL) ← (C)
abbrev pub inputs : (repeats : Bool) (moved : ℕ → ℕ) → Regs → (ℕ → ℕ) → (ℕ → ℕ) → Transition
inputs repeats moved regs read input = counts_down repeats moved regs (Write (hl regs) (input regs.c) ∷ [])

abbrev pub InputsBlocks : Type 0
InputsBlocks =
    CodeDoes (0xED ∷ 0xA2 ∷ []) (inputs false up) × CodeDoes (0xED ∷ 0xAA ∷ []) (inputs false down)
    × CodeDoes (0xED ∷ 0xB2 ∷ []) (inputs true up) × CodeDoes (0xED ∷ 0xBA ∷ []) (inputs true down)

-- OUTI, OUTD, OTIR and OTDR: (C) ← (HL)
abbrev pub outputs : (repeats : Bool) (moved : ℕ → ℕ) → Regs → (ℕ → ℕ) → (ℕ → ℕ) → Transition
outputs repeats moved regs read input = counts_down repeats moved regs (Output regs.c (read (hl regs)) ∷ [])

abbrev pub OutputsBlocks : Type 0
OutputsBlocks =
    CodeDoes (0xED ∷ 0xA3 ∷ []) (outputs false up) × CodeDoes (0xED ∷ 0xAB ∷ []) (outputs false down)
    × CodeDoes (0xED ∷ 0xB3 ∷ []) (outputs true up) × CodeDoes (0xED ∷ 0xBB ∷ []) (outputs true down)

-- an instruction of 4 T-states that changes A and F alone
abbrev pub changes_a_and_f : Regs → ℕ → ℕ → Transition
changes_a_and_f regs a f = record { regs = record regs { a = a; f = f }; actions = []; ticks = 4 }

-- RLCA, RRCA, RLA and RRA: A and what leaves it, from A and C. H and N are reset, C is what leaves; S, Z and P/V stay
abbrev pub rotates : (rotated : ℕ → ℕ → ℕ) (leaves : ℕ → ℕ) → Regs → (ℕ → ℕ) → (ℕ → ℕ) → Transition
rotates rotated leaves regs read input =
    let flags = record (flags_of regs.f) { half_carry = false; subtract = false; carry = leaves regs.a == 1 } in
    changes_a_and_f regs (rotated regs.a (regs.f % 2)) (flag_byte_of flags regs.f)

abbrev pub RotatesA : Type 0
RotatesA =
    CodeDoes (0x07 ∷ []) (rotates (λ a c. a * 2 % 256 + a / 128) (λ a. a / 128))
    × CodeDoes (0x0F ∷ []) (rotates (λ a c. a / 2 + a % 2 * 128) (λ a. a % 2))
    × CodeDoes (0x17 ∷ []) (rotates (λ a c. a * 2 % 256 + c) (λ a. a / 128))
    × CodeDoes (0x1F ∷ []) (rotates (λ a c. a / 2 + c * 128) (λ a. a % 2))

-- DAA: A and F become what the arithmetic of decimals makes of them
abbrev pub AdjustsDecimals : Type 0
AdjustsDecimals =
    CodeDoes (0x27 ∷ []) (λ regs read input. changes_a_and_f regs (decimal_of regs.a regs.f).value (decimal_of regs.a regs.f).f)

-- the writes of a push: (SP - 1) ← the high byte, (SP - 2) ← the low byte
abbrev pub pushed : ℕ → ℕ → List Action
pushed sp word = Write ((sp + 65535) % 65536) (word / 256) ∷ Write ((sp + 65534) % 65536) (word % 256) ∷ []

-- an acceptance, where interrupts are enabled and the last step wasn't EI: PC goes to the stack and becomes an address, which memory can be
-- asked for then; IFF1 and IFF2 are reset, HALT ends, and R counts one fetch
abbrev pub AcceptsRequest : InterruptMode → (vector ticks : ℕ) → (Regs → (ℕ → ℕ) → ℕ) → Type 0
AcceptsRequest mode vector ticks address = (surroundings : Surroundings) (found : Regs) →
    let regs = record found { mode = mode; iff1 = true; after_ei = false } in
    let push = pushed regs.sp regs.pc in
    let left = record regs {
      sp = (regs.sp + 65534) % 65536;
      pc = address regs (surroundings.byte_at push);
      iff1 = false;
      iff2 = false;
      halted = false;
      r = regs.r / 128 * 128 + (regs.r % 128 + 1) % 128;
    } in
    cpu_step surroundings regs (Some vector) ≡ Steps left push ticks Accepted

-- mode 1: a call of 38H, whatever the vector. Mode 2: a call of where the word at 256 * I + vector points
abbrev pub AcceptsInModes : Type 0
AcceptsInModes = (vector : ℕ)
    → AcceptsRequest One vector 13 (λ regs read. 0x38)
    × AcceptsRequest Two vector 19
    (λ regs read. read (256 * regs.i + vector) + 256 * read ((256 * regs.i + vector + 1) % 65536))

-- mode 0: the vector is the code of an RST, which is done
abbrev pub AcceptsRestarts : Type 0
AcceptsRestarts =
    AcceptsRequest Zero 0xC7 13 (λ regs read. 0x00) × AcceptsRequest Zero 0xCF 13 (λ regs read. 0x08)
    × AcceptsRequest Zero 0xD7 13 (λ regs read. 0x10) × AcceptsRequest Zero 0xDF 13 (λ regs read. 0x18)
    × AcceptsRequest Zero 0xE7 13 (λ regs read. 0x20) × AcceptsRequest Zero 0xEF 13 (λ regs read. 0x28)
    × AcceptsRequest Zero 0xF7 13 (λ regs read. 0x30) × AcceptsRequest Zero 0xFF 13 (λ regs read. 0x38)

-- and no other byte is one
abbrev pub restart_codes : List ℕ
restart_codes = 0xC7 ∷ 0xCF ∷ 0xD7 ∷ 0xDF ∷ 0xE7 ∷ 0xEF ∷ 0xF7 ∷ 0xFF ∷ []

abbrev pub OnlyTheseAreRestarts : Type 0
OnlyTheseAreRestarts = (byte : ℕ) → byte < 256 → is_restart byte ≡ list_any (λ code. code == byte) restart_codes
