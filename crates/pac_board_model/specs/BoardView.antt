-- Believed: the board as plain data, its ROM set aside: what its memory keeps, where the voices of the wave generator
-- stand, and the lines of the picture as they were last composed (Namco Pac-Man service schematics; what this profile adds is
-- named).
use Rattle.std.specs.Prelude.{ℕ, List, slice_set}
use Rattle.pac_map.specs.RomParts.{Parts}
use Rattle.pac_map.specs.View.{View, IsWellFormed, sprite_attributes}
use Rattle.pac_map.specs.View as memory
use Rattle.pac_map.specs.Entry.{Entry, Sample, Line, view_after}
use Rattle.pac_wave.specs.Wave.{Accumulators, Fit20Bits, accumulators_after}
use Rattle.pac_wave.specs.Wave as wave
use Rattle.pac_picture.specs.Picture.{VideoRoms, VideoMemory, picture_line}
use Rattle.pac_picture.specs.State.{IsPicture, black}

pub record BoardView : Type 0 where
  -- RAM and registers, latch, switches and inputs
  pub memory : View
  -- where each voice stands in its waveform
  pub accumulators : Accumulators
  -- the picture: 224 lines of 288 colour numbers
  pub lines : List (List ℕ)

-- at power-on all is 0 but the DIP switches' byte, and the picture is colour number 0 everywhere (this profile)
abbrev pub power_on_board_view : ℕ → BoardView
power_on_board_view switches = record { memory = memory.power_on_view switches; accumulators = wave.power_on_accumulators; lines = black }

-- what pictures are drawn from: the ROMs, and what the memory keeps
abbrev pub video_roms : Parts → VideoRoms
video_roms set = record { tiles = set.tiles; sprites = set.sprites; lookup = set.lookup }

abbrev pub video_memory : View → VideoMemory
video_memory view = record {
  tile_ram = view.tile;
  colour_ram = view.colour;
  attributes = sprite_attributes view;
  coordinates = view.coordinates;
  flip = view.latched.bits.flip;
}

-- The board after an entry: a sample moves the voices on, a line is composed from what the memory keeps then, and all else
-- happens to the memory.
abbrev pub board_after : Parts → BoardView → Entry → BoardView
board_after set view (Sample number) =
    record view { accumulators = accumulators_after view.memory.registers view.memory.latched.bits.sound_enable view.accumulators }
board_after set view (Line frame line) =
    record view { lines = slice_set view.lines line (picture_line (video_roms set) (video_memory view.memory) line) }
board_after set view entry = record view { memory = view_after view.memory entry }

-- a view that a board can have
pub record IsBoard (view : BoardView) : Type 0 where
  pub memory : IsWellFormed view.memory
  pub accumulators : Fit20Bits view.accumulators
  pub lines : IsPicture view.lines
