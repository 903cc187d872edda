-- Believed: what a host sees of a live board: memory, registers and the picture.
use Rattle.std.specs.Prelude.{◌≡◌, ◌≢◌, ℕ, ◌+◌, List, length, map, reverse, nat_eq, if◌then◌else◌, Ok, Err}
use Rattle.pac_board.specs.InterruptMode.{InterruptMode}
use Rattle.pac_board.specs.InterruptModeVariants.{Zero, One, Two}
use Rattle.pac_board.specs.MemoryContents.{read_of}
use Rattle.pac_board.specs.PictureState.{palette_of}
use Rattle.pac_board.specs.State.{BoardValue}
use Rattle.pac_num.specs.Numbers.{wrapped_address}
use Rattle.pac_num.specs.Tabulate.{tabulate}
use Rattle.pac_block.specs.declared.codes.HostFault.TheVariants.{WrongLength}
use Rattle.pac_live.specs.declared.live_look.PacRegisters.{PacRegisters}
use Rattle.pac_block.specs.Host.{rgba_of, rgba_size}
use Rattle.pac_live.specs.Live.{BoardCall}

-- what the processor would read of a board at so many addresses, from one on; they wrap at 65,536
unfoldable pub bytes_read_of : BoardValue → (at count : ℕ) → List ℕ
bytes_read_of board at count =
    tabulate count (λ place. read_of board.set.program board.state.now.board.memory (wrapped_address (at + place)))

-- the board stays
abbrev pub Peeking : (at : ℕ) (bytes bytes_after : List ℕ) → BoardCall
Peeking at bytes bytes_after answer old new = (answer ≡ Ok tt) × (bytes_after ≡ bytes_read_of old at (length bytes)) × (new ≡ old)

abbrev pub mode_number : InterruptMode → ℕ
mode_number Zero = 0
mode_number One = 1
mode_number Two = 2

-- the registers by their names, with the time in T-states and the steps since power-on
abbrev pub registers_of : BoardValue → PacRegisters
registers_of board =
    let moment = board.state.now in
    let regs = moment.regs in
    let other = regs.alternate in
    record {
      time = moment.time;
      steps = moment.steps;
      pc = regs.pc;
      sp = regs.sp;
      ix = regs.ix;
      iy = regs.iy;
      a = regs.a;
      f = regs.f;
      b = regs.b;
      c = regs.c;
      d = regs.d;
      e = regs.e;
      h = regs.h;
      l = regs.l;
      alternate_a = other.a;
      alternate_f = other.f;
      alternate_b = other.b;
      alternate_c = other.c;
      alternate_d = other.d;
      alternate_e = other.e;
      alternate_h = other.h;
      alternate_l = other.l;
      i = regs.i;
      r = regs.r;
      interrupt_mode = mode_number regs.mode;
      iff1 = regs.iff1;
      iff2 = regs.iff2;
      halted = regs.halted;
      after_ei = regs.after_ei;
      zero = 0;
    }

abbrev pub Telling : (registers_after : PacRegisters) → BoardCall
Telling registers_after answer old new = (answer ≡ Ok tt) × (registers_after ≡ registers_of old) × (new ≡ old)

-- a palette whose colours have their bytes in this order: 0 is red, green and blue, and any other number blue, green and red
abbrev pub palette_in : (order : ℕ) → (palette : List (List ℕ)) → List (List ℕ)
palette_in order palette = if nat_eq order 0 then palette else map reverse palette

-- the picture as it stands, in the colours of the board's ROMs
abbrev pub Drawing : (order : ℕ) (pixels pixels_after : List ℕ) → BoardCall
Drawing order pixels pixels_after (Ok done) old new =
    (length pixels ≡ rgba_size)
    × (pixels_after ≡ rgba_of (palette_in order (palette_of old.set.colours)) old.state.now.board.lines) × (new ≡ old)
Drawing order pixels pixels_after (Err WrongLength) old new =
    (length pixels ≢ rgba_size) × (new ≡ old) × (pixels_after ≡ pixels)
Drawing order pixels pixels_after (Err fault) old new = ⊥
