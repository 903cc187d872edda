-- Block instructions as one equation each.
use Rattle.pac_cpu_vectors.proofs.Common.{Action, Bool, CopiesBlocks, InputsBlocks, List, OutputsBlocks, Regs, SearchesBlocks, Some, [], ap}
use Rattle.pac_cpu_vectors.proofs.Common.{arith, bc, copy_flags_of, done_again_if, down, effect_by, false, flag_byte_of, flags_of, hl}
use Rattle.pac_cpu_vectors.proofs.Common.{if◌then◌else◌, is_negative, nat_lt, not, port_flags_of, refl, row_at, row_of, search_flags_of}
use Rattle.pac_cpu_vectors.proofs.Common.{table, true, up, with_bc, with_hl, ℕ, ◌%◌, ◌+◌, ◌-◌, ◌==◌, ◌∙◌, ◌≡◌}

-- a choice between two transitions that differ in PC and in time is one of these
again-in-fields : (again : Bool) (regs : Regs) (actions : List Action)
    → (if again
    then record { regs = record regs { pc = (regs.pc + 65534) % 65536 }; actions = actions; ticks = 21 }
    else record { regs = regs; actions = actions; ticks = 16 })
    ≡ done_again_if again regs actions
again-in-fields true regs actions = refl
again-in-fields false regs actions = refl

pub copies-blocks : CopiesBlocks
unfolding table row_at row_of effect_by copy_flags_of
copies-blocks = (
  λ regs read input. refl,
  λ regs read input. refl,
  λ regs read input. ap Some (again-in-fields _ _ _),
  λ regs read input. ap Some (again-in-fields _ _ _),
)

-- the flags of a search, one by one
searched-flags : (a byte count f : ℕ) → search_flags_of a byte count f ≡ flag_byte_of (record (flags_of f) {
  sign = is_negative ((256 + a - byte) % 256);
  zero = (256 + a - byte) % 256 == 0;
  half_carry = nat_lt (a % 16) (byte % 16);
  parity_overflow = not (count == 0);
  subtract = true;
}) f
unfolding search_flags_of
searched-flags a byte count f =
    let whole : byte + 0 ≡ byte = omega arith in
    let low : byte % 16 + 0 ≡ byte % 16 = omega arith in
    rw (whole, low) refl

-- the registers after a search of a byte, with this F
abbrev after-search : (ℕ → ℕ) → Regs → ℕ → Regs
after-search moved regs f = record (with_bc (with_hl regs (moved (hl regs))) (down (bc regs))) { f = f }

searched : (moved : ℕ → ℕ) (regs : Regs) (byte : ℕ) (again : Bool)
    → done_again_if again (after-search moved regs (search_flags_of regs.a byte (down (bc regs)) regs.f)) []
    ≡ done_again_if again (after-search moved regs (flag_byte_of (record (flags_of regs.f) {
      sign = is_negative ((256 + regs.a - byte) % 256);
      zero = (256 + regs.a - byte) % 256 == 0;
      half_carry = nat_lt (regs.a % 16) (byte % 16);
      parity_overflow = not (down (bc regs) == 0);
      subtract = true;
    }) regs.f)) []
searched moved regs byte again =
    ap (λ (f : ℕ). done_again_if again (after-search moved regs f) []) (searched-flags regs.a byte (down (bc regs)) regs.f)

pub searches-blocks : SearchesBlocks
unfolding table row_at row_of effect_by
searches-blocks = (
  λ regs read input. ap Some (searched up regs (read (hl regs)) false),
  λ regs read input. ap Some (searched down regs (read (hl regs)) false),
  λ regs read input. ap Some (again-in-fields _ _ _ ∙ searched up regs (read (hl regs)) _),
  λ regs read input. ap Some (again-in-fields _ _ _ ∙ searched down regs (read (hl regs)) _),
)

pub inputs-blocks : InputsBlocks
unfolding table row_at row_of effect_by port_flags_of
inputs-blocks = (
  λ regs read input. refl,
  λ regs read input. refl,
  λ regs read input. ap Some (again-in-fields _ _ _),
  λ regs read input. ap Some (again-in-fields _ _ _),
)

pub outputs-blocks : OutputsBlocks
unfolding table row_at row_of effect_by port_flags_of
outputs-blocks = (
  λ regs read input. refl,
  λ regs read input. refl,
  λ regs read input. ap Some (again-in-fields _ _ _),
  λ regs read input. ap Some (again-in-fields _ _ _),
)
