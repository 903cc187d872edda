-- Believed: what a history sounds and shows: the voices' accumulators as sums over all samples, and each line of the
-- picture as it was last composed. No loop and no buffer stands here.
use Rattle.std.specs.Prelude.{ℕ, ℤ, suc, ◌+◌, ◌-◌, ◌%◌, ◌==◌, if◌then◌else◌, List, [], ◌∷◌, slice_index_or}
use Rattle.pac_map.specs.RomParts.{Parts}
use Rattle.pac_cpu.specs.Tabulate.{tabulate}
use Rattle.pac_map.specs.Entry.{Entry, Sample, Line, Blank}
use Rattle.pac_map.specs.Place.{ram_size, coordinates_size}
use Rattle.pac_map.specs.View.{View, attributes_size}
use Rattle.pac_wave.specs.declared.Voice.{Voice}
use Rattle.pac_wave.specs.Wave.{accumulator, accumulator_range, frequency, sound_sample}
use Rattle.pac_picture.specs.Picture.{VideoMemory, picture_line}
use Rattle.pac_board_model.specs.BoardView.{BoardView, video_roms}
use Rattle.pac_board_model.specs.History.{tile_at, colour_at, work_at, coordinate_at, history_registers}
use Rattle.pac_board_model.specs.Queries.{bit_at}

-- the places of two bits of the latch
abbrev pub sound_enable : ℕ
sound_enable = 1

abbrev pub flip : ℕ
flip = 3

-- ---- sound

-- what a voice's frequencies came to, over the samples at which sound was on
abbrev pub history_growth : View → Voice → List Entry → ℕ
history_growth start voice [] = 0
history_growth start voice (Sample number ∷ older) =
    history_growth start voice older + (if bit_at start older sound_enable then frequency (history_registers start older) voice else 0)
history_growth start voice (entry ∷ older) = history_growth start voice older

abbrev pub accumulator_at : BoardView → List Entry → Voice → ℕ
accumulator_at start entries voice = (accumulator start.accumulators voice + history_growth start.memory voice entries) % accumulator_range

-- the sample that the voices add up to after these entries
abbrev pub sample_at : Parts → BoardView → List Entry → ℤ
sample_at set start entries =
    sound_sample set.wave (history_registers start.memory entries) (accumulator_at start entries) (bit_at start.memory entries sound_enable)

-- ---- picture

-- what a line is composed from after these entries
abbrev pub memory_at : View → List Entry → VideoMemory
memory_at start entries = record {
  tile_ram = tabulate ram_size (tile_at start entries);
  colour_ram = tabulate ram_size (colour_at start entries);
  attributes = tabulate attributes_size (λ place. work_at start entries (ram_size - attributes_size + place));
  coordinates = tabulate coordinates_size (coordinate_at start entries);
  flip = bit_at start entries flip;
}

-- a line of the picture: the one that the entries before its last composing say
abbrev pub line_at : Parts → BoardView → List Entry → ℕ → List ℕ
line_at set start [] y = slice_index_or start.lines y []
line_at set start (Line frame line ∷ older) y =
    if line == y then picture_line (video_roms set) (memory_at start.memory older) y else line_at set start older y
line_at set start (entry ∷ older) y = line_at set start older y

-- ---- all that was given out

abbrev pub blank_count : List Entry → ℕ
blank_count [] = 0
blank_count (Blank frame ∷ older) = suc (blank_count older)
blank_count (entry ∷ older) = blank_count older
