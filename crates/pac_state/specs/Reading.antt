-- Believed: the state whose fields stand in a text at their places.
use Rattle.std.specs.Prelude.{ℕ, ℤ, ◌*◌, ◌==◌, Bool, if◌then◌else◌, List, take, drop, slice_index, Option, Some, None}
use Rattle.std.specs.Int.{w16, w32, w64, from_le_bytes, cast_signed}
use Rattle.pac_num.specs.Numbers.{bit}
use Rattle.pac_board.specs.Latched.{latched_of}
use Rattle.pac_board.specs.InterruptMode.{InterruptMode}
use Rattle.pac_board.specs.InterruptModeVariants.{Zero, One, Two}
use Rattle.pac_board.specs.Regs.{Regs}
use Rattle.pac_num.specs.Tabulate.{tabulate}
use Rattle.pac_board.specs.Tiles.{width, height}
use Rattle.pac_board.specs.MemoryView.{View}
use Rattle.pac_board.specs.Due.{Due}
use Rattle.pac_board.specs.State.{BoardState}

-- so many bytes from a place on
abbrev pub bytes_at_place : ℕ → ℕ → List ℕ → List ℕ
bytes_at_place at size bytes = take size (drop at bytes)

-- numbers of 2, 4 and 8 bytes at a place
abbrev pub saved_word_at : ℕ → List ℕ → ℕ
saved_word_at at bytes = from_le_bytes w16 (bytes_at_place at 2 bytes)

abbrev pub saved_double_word_at : ℕ → List ℕ → ℕ
saved_double_word_at at bytes = from_le_bytes w32 (bytes_at_place at 4 bytes)

abbrev pub saved_long_word_at : ℕ → List ℕ → ℕ
saved_long_word_at at bytes = from_le_bytes w64 (bytes_at_place at 8 bytes)

-- whether a bit of a byte is set
abbrev pub is_bit_set : ℕ → ℕ → Bool
is_bit_set byte place = bit byte place == 1

-- an interrupt mode; no other number than 0 to 2 is written
abbrev pub mode_of : ℕ → InterruptMode
mode_of n = if n == 0 then Zero else if n == 1 then One else Two

-- the processor of its 28 bytes
abbrev pub regs_of : List ℕ → Regs
regs_of bytes = record {
  a = slice_index bytes 0;
  f = slice_index bytes 1;
  b = slice_index bytes 2;
  c = slice_index bytes 3;
  d = slice_index bytes 4;
  e = slice_index bytes 5;
  h = slice_index bytes 6;
  l = slice_index bytes 7;
  alternate = record {
    a = slice_index bytes 8;
    f = slice_index bytes 9;
    b = slice_index bytes 10;
    c = slice_index bytes 11;
    d = slice_index bytes 12;
    e = slice_index bytes 13;
    h = slice_index bytes 14;
    l = slice_index bytes 15;
  };
  ix = saved_word_at 16 bytes;
  iy = saved_word_at 18 bytes;
  sp = saved_word_at 20 bytes;
  pc = saved_word_at 22 bytes;
  i = slice_index bytes 24;
  r = slice_index bytes 25;
  iff1 = is_bit_set (slice_index bytes 26) 0;
  iff2 = is_bit_set (slice_index bytes 26) 1;
  mode = mode_of (slice_index bytes 27);
  halted = is_bit_set (slice_index bytes 26) 2;
  after_ei = is_bit_set (slice_index bytes 26) 3;
}

-- what is due, of its 3 bytes
abbrev pub due_sample : Bool → ℕ → Option ℤ
due_sample is_due word = if is_due then Some (cast_signed w16 word) else None

abbrev pub due_of : List ℕ → Due
due_of bytes = record {
  sample = due_sample (is_bit_set (slice_index bytes 0) 0) (saved_word_at 1 bytes);
  picture = is_bit_set (slice_index bytes 0) 1;
}

-- the lines of a picture's colour numbers
abbrev pub lines_of : List ℕ → List (List ℕ)
lines_of picture = tabulate height (λ y. bytes_at_place (width * y) width picture)

-- the memory: in a file, and the fields of the 7 bytes `controls`
abbrev pub memory_of : List ℕ → List ℕ → View
memory_of controls bytes = record {
  switches = slice_index controls 6;
  held = saved_word_at 4 controls;
  tile = bytes_at_place 82 1024 bytes;
  colour = bytes_at_place 1106 1024 bytes;
  work = bytes_at_place 2130 1024 bytes;
  coordinates = bytes_at_place 3154 16 bytes;
  registers = bytes_at_place 3170 32 bytes;
  latched = latched_of (slice_index controls 0) (slice_index controls 1) (slice_index controls 2 == 1) (slice_index controls 3);
}

-- where the parts of a file stand
abbrev pub processor_in : List ℕ → List ℕ
processor_in = bytes_at_place 30 28

abbrev pub controls_in : List ℕ → List ℕ
controls_in = bytes_at_place 3214 7

abbrev pub due_in : List ℕ → List ℕ
due_in = bytes_at_place 3221 3

abbrev pub picture_in : List ℕ → List ℕ
picture_in = bytes_at_place 3224 64512

-- the state in a file
abbrev pub state_in : List ℕ → BoardState
state_in bytes = record {
  now = record {
    regs = regs_of (processor_in bytes);
    board = record {
      memory = memory_of (controls_in bytes) bytes;
      accumulators = record {
        first = saved_double_word_at 3202 bytes;
        second = saved_double_word_at 3206 bytes;
        third = saved_double_word_at 3210 bytes;
      };
      lines = lines_of (picture_in bytes);
    };
    time = saved_long_word_at 58 bytes;
    steps = saved_long_word_at 66 bytes;
  };
  asked = saved_long_word_at 74 bytes;
  due = due_of (due_in bytes);
}
