-- The board that a history leaves answers as the history does, and tells all that it does: its memory, as the view of the history and as
-- lists;
-- its latch; its voices; and the lines of its picture.
use Rattle.pac_board_model.proofs.Common.{Accept, Accumulators, Blank, BoardView, Bool, BusPlace, Colour, Coordinate, Entry, Fit20Bits}
use Rattle.pac_board_model.proofs.Common.{Hold, IsBoard, IsPlaceInRange, IsWellFormed, Kick, Latch, Line, List, None, Option, Parts, Reset}
use Rattle.pac_board_model.proofs.Common.{Sample, Some, Tile, Vector, View, ViewAnswers, ViewTells, Voice, Wave, Work, Write, []}
use Rattle.pac_board_model.proofs.Common.{accumulator, accumulator_at, accumulators_after, answer, ap, arith, attributes_size, bit_at}
use Rattle.pac_board_model.proofs.Common.{blanks_since, board_after_entries, colour_at, common_steps, cond, coordinate_at, coordinates_size}
use Rattle.pac_board_model.proofs.Common.{drop, ext_get_or, false, flip, frequency, get_or-drop, get_or-tabulate, height, history_lookups}
use Rattle.pac_board_model.proofs.Common.{history_registers, history_request, interrupt_request, is_latch, is_latch_bit_set, is_requested}
use Rattle.pac_board_model.proofs.Common.{is_reset_due, is_same_place, is_set-others, is_set-written, kept_nibble, last_bit, last_held}
use Rattle.pac_board_model.proofs.Common.{last_vector, latch_place, latched_after_bit, length, length-drop, length-set, length-tabulate}
use Rattle.pac_board_model.proofs.Common.{line_at, lookups_of, lowest, memory_at, min, nat_tests, ram_size, read, read_of, read_place, refl}
use Rattle.pac_board_model.proofs.Common.{register_at, registers_size, rules, slice_index, slice_index_or, slice_set, sound_enable, sym}
use Rattle.pac_board_model.proofs.Common.{tabulate, tile_at, true, unwrap_or, video_memory, view-after-well-formed, view_after}
use Rattle.pac_board_model.proofs.Common.{view_after_entries, view_after_write, watchdog_limit, work_at, ℕ, ◌%◌, ◌+◌, ◌-◌, ◌<◌, ◌==◌, ◌^◌}
use Rattle.pac_board_model.proofs.Common.{◌||◌, ◌∙◌, ◌∷◌, ◌≡◌, ◌≤◌}
use Rattle.pac_board_model.specs.History.{last_written}
use Rattle.pac_map.specs.View as view
use Rattle.pac_map.specs.Latched as latch

-- ---- the view that a history leaves

view-of-well-formed : (start : View) (entries : List Entry) → IsWellFormed start → IsWellFormed (view_after_entries start entries)
view-of-well-formed start [] sized = sized
view-of-well-formed start (entry ∷ older) sized = view-after-well-formed _ _ (view-of-well-formed start older sized)

-- what a write decides comes before what older ones do
decided : {A : Type 0} (holds : A → A) (here : Bool) (byte : A) (older : Option A) (first : A)
    → cond here (holds byte) (holds (unwrap_or older first)) ≡ holds (unwrap_or (cond here (Some byte) older) first)
decided holds here byte older first = search rules

-- the value of a place in a view, and what the place keeps of a byte
abbrev value_at : View → BusPlace → ℕ
value_at view (Tile cell) = slice_index view.tile cell
value_at view (Colour cell) = slice_index view.colour cell
value_at view (Work cell) = slice_index view.work cell
value_at view (Coordinate place) = slice_index view.coordinates place
value_at view (Wave register) = slice_index view.registers register
value_at view _ = 0

abbrev kept_at : BusPlace → ℕ → ℕ
kept_at (Wave register) byte = kept_nibble register byte
kept_at _ byte = byte

written : (view : View) (place to : BusPlace) (byte : ℕ) → IsWellFormed view → IsPlaceInRange place
    → value_at (view_after_write view to byte) place ≡ cond (is_same_place place to) (kept_at place byte) (value_at view place)
written view place to byte well lt = search rules

viewed : (start : View) (entries : List Entry) (place : BusPlace) → IsWellFormed start → IsPlaceInRange place
    → value_at (view_after_entries start entries) place
    ≡ kept_at place (unwrap_or (last_written (is_same_place place) entries) (value_at start place))
viewed start [] place well lt = search rules
viewed start (Write to byte ∷ older) place well lt =
    grind (arith, decided (kept_at place), written, view-of-well-formed, viewed start older place well lt)
viewed start (entry ∷ older) place well lt = search (rules, viewed start older place well lt)

held-viewed : (start : View) (entries : List Entry) → (view_after_entries start entries).held ≡ unwrap_or (last_held entries) start.held
held-viewed start [] = refl
held-viewed start (Hold mask ∷ older) = refl
held-viewed start (Write place byte ∷ older) = grind (arith, common_steps, held-viewed start older)
held-viewed start (entry ∷ older) = held-viewed start older

switches-viewed : (start : View) (entries : List Entry) → (view_after_entries start entries).switches ≡ start.switches
switches-viewed start [] = refl
switches-viewed start (Write place byte ∷ older) = grind (arith, common_steps, switches-viewed start older)
switches-viewed start (entry ∷ older) = switches-viewed start older

answer-viewed : (program : List ℕ) (start : View) (entries : List Entry) (place : BusPlace) → IsWellFormed start → IsPlaceInRange place
    → answer (history_lookups program start entries) place ≡ answer (lookups_of program (view_after_entries start entries)) place
answer-viewed program start entries place sized lt =
    search (rules, held-viewed start entries, switches-viewed start entries, viewed start entries place sized lt)

read-viewed : (program : List ℕ) (start : View) (entries : List Entry) (address : ℕ) → IsWellFormed start
    → read program start entries address ≡ read_of program (view_after_entries start entries) address
read-viewed program start entries address sized =
    answer-viewed program start entries (read_place address) sized (search rules)

-- ---- RAM, attributes, coordinates and registers as lists

-- a list of a known length is that of its elements by their places
listed : (cells : List ℕ) (count : ℕ) (value : ℕ → ℕ) → length cells ≡ count
    → ((place : ℕ) → place < count → slice_index cells place ≡ value place) → cells ≡ tabulate count value
listed cells count value long each =
    ext_get_or 0 cells (tabulate count value) (long ∙ sym (length-tabulate count value)) (λ place below.
    let within : place < count = omega (arith, long) in each place within ∙ sym (get_or-tabulate count value place 0 within))

module _ (start : View) (entries : List Entry) (well : IsWellFormed start) where
  abbrev left : View
  left = view_after_entries start entries

  sized : IsWellFormed left
  sized = view-of-well-formed start entries well

  tile-listed : left.tile ≡ tabulate ram_size (tile_at start entries)
  tile-listed = listed left.tile ram_size (tile_at start entries) sized.tile (λ cell below. viewed start entries (Tile cell) well below)

  colour-listed : left.colour ≡ tabulate ram_size (colour_at start entries)
  colour-listed =
      listed left.colour ram_size (colour_at start entries) sized.colour (λ cell below. viewed start entries (Colour cell) well below)

  attributes-listed : view.sprite_attributes left
      ≡ tabulate attributes_size (λ place. work_at start entries (ram_size - attributes_size + place))
  attributes-listed =
      let long : length (drop 1008 left.work) ≡ 16 = length-drop 1008 left.work ∙ ap (λ n. n - 1008) sized.work in
      listed (drop 1008 left.work) 16 (λ place. work_at start entries (1008 + place)) long (λ place below.
      get_or-drop 1008 left.work place 0 ∙ viewed start entries (Work (1008 + place)) well (omega arith))

  coordinates-listed : left.coordinates ≡ tabulate coordinates_size (coordinate_at start entries)
  coordinates-listed =
      listed left.coordinates coordinates_size (coordinate_at start entries) sized.coordinates (λ place below.
      viewed start entries (Coordinate place) well below)

  registers-listed : left.registers ≡ history_registers start entries
  registers-listed =
      listed left.registers registers_size (register_at start entries) sized.registers (λ register below.
      viewed start entries (Wave register) well below)

-- ---- the latch

bit-written : (view : View) (to : BusPlace) (byte place : ℕ)
    → is_latch_bit_set (view_after_write view to byte).latched place
    ≡ cond (is_latch place to) (lowest byte) (is_latch_bit_set view.latched place)
bit-written view (Latch other) byte place = choose (latch_place other == latch_place place) refl
  where
    choose : (b : Bool) → (latch_place other == latch_place place) ≡ b
        → is_latch_bit_set (latched_after_bit view.latched other (lowest byte)) place
        ≡ cond b (lowest byte) (is_latch_bit_set view.latched place)
    choose true e = grind (arith, is_set-written, nat_tests)
    choose false e = grind (arith, is_set-others, nat_tests)
bit-written view Kick byte place = refl
bit-written view _ byte place = refl

bit-viewed : (start : View) (entries : List Entry) (place : ℕ)
    → is_latch_bit_set (view_after_entries start entries).latched place ≡ bit_at start entries place
bit-viewed start [] place = refl
bit-viewed start (Reset ∷ older) place = search rules
bit-viewed start (Write to byte ∷ older) place =
    bit-written (view_after_entries start older) to byte place
    ∙ ap (cond (is_latch place to) (lowest byte)) (bit-viewed start older place)
    ∙ decided (λ bit. bit) (is_latch place to) (lowest byte) (last_bit place older) (is_latch_bit_set start.latched place)
bit-viewed start (entry ∷ older) place = bit-viewed start older place

vector-viewed : (start : View) (entries : List Entry) → (view_after_entries start entries).latched.vector
    ≡ unwrap_or (last_vector entries) start.latched.vector
vector-viewed start [] = refl
vector-viewed start (Vector byte ∷ older) = refl
vector-viewed start (Write to byte ∷ older) = grind (arith, common_steps, vector-viewed start older)
vector-viewed start (entry ∷ older) = vector-viewed start older

requested-viewed : (start : View) (entries : List Entry) →
    (view_after_entries start entries).latched.request ≡ is_requested start entries
requested-viewed start [] = refl
requested-viewed start (Accept ∷ older) = refl
requested-viewed start (Reset ∷ older) = refl
requested-viewed start (Write to byte ∷ older) = grind (arith, common_steps, requested-viewed start older)
requested-viewed start (Blank frame ∷ older) = λ i. requested-viewed start older i || bit-viewed start older 0 i
requested-viewed start (entry ∷ older) = requested-viewed start older

request-viewed : (start : View) (entries : List Entry) →
    interrupt_request (view_after_entries start entries).latched ≡ history_request start entries
request-viewed start entries = λ i. cond (requested-viewed start entries i) (Some (vector-viewed start entries i)) None

count-viewed : (start : View) (entries : List Entry) → start.latched.count ≤ watchdog_limit
    → (view_after_entries start entries).latched.count ≡ min watchdog_limit (blanks_since start.latched.count entries)
count-viewed start [] low = grind (arith, nat_tests)
count-viewed start (Reset ∷ older) low = refl
count-viewed start (Write Kick byte ∷ older) low = refl
count-viewed start (Write (Latch place) byte ∷ older) low = count-viewed start older low
count-viewed start (Blank frame ∷ older) low = grind (arith, nat_tests, count-viewed start older low)
count-viewed start (entry ∷ older) low = count-viewed start older low

due-viewed : (start : View) (entries : List Entry) → start.latched.count ≤ watchdog_limit
    → latch.is_watchdog_due (view_after_entries start entries).latched ≡ is_reset_due start entries
due-viewed start entries low = grind (arith, count-viewed, nat_tests)

-- ---- the memory of the board is that view: samples and lines change nothing of it

memory-viewed : (set : Parts) (start : BoardView) (entries : List Entry)
    → (board_after_entries set start entries).memory ≡ view_after_entries start.memory entries
memory-viewed set start [] = refl
memory-viewed set start (Sample number ∷ older) = memory-viewed set start older
memory-viewed set start (Line frame line ∷ older) = memory-viewed set start older
memory-viewed set start (entry ∷ older) = ap (λ view. view_after view entry) (memory-viewed set start older)

-- what a sample asks of it, and what a line is composed from
registers-kept : (set : Parts) (start : BoardView) (entries : List Entry) → IsWellFormed start.memory
    → (board_after_entries set start entries).memory.registers ≡ history_registers start.memory entries
registers-kept set start entries well = simp (memory-viewed, registers-listed)

sound-kept : (set : Parts) (start : BoardView) (entries : List Entry)
    → (board_after_entries set start entries).memory.latched.bits.sound_enable ≡ bit_at start.memory entries sound_enable
sound-kept set start entries = cc (memory-viewed set start entries, bit-viewed start.memory entries sound_enable)

video-memory-kept : (set : Parts) (start : BoardView) (entries : List Entry) → IsWellFormed start.memory
    → video_memory (board_after_entries set start entries).memory ≡ memory_at start.memory entries
video-memory-kept set start entries well =
    ap video_memory (memory-viewed set start entries)
    ∙ (λ i. record {
      tile_ram = tile-listed start.memory entries well i;
      colour_ram = colour-listed start.memory entries well i;
      attributes = attributes-listed start.memory entries well i;
      coordinates = coordinates-listed start.memory entries well i;
      flip = bit-viewed start.memory entries flip i;
    })

-- ---- the voices stand where the sums over its samples say

-- a voice after a sample
after-voice : (registers : List ℕ) (on : Bool) (all : Accumulators) (voice : Voice)
    → accumulator (accumulators_after registers on all) voice
    ≡ cond on ((accumulator all voice + frequency registers voice) % 2 ^ 20) (accumulator all voice)
after-voice registers on all voice = search rules

accumulator-fits : (all : Accumulators) (voice : Voice) → Fit20Bits all → accumulator all voice < 2 ^ 20
accumulator-fits all voice fit = search rules

-- one sample more
one-sample : (on : Bool) (now start grown added : ℕ) → now ≡ (start + grown) % 2 ^ 20
    → cond on ((now + added) % 2 ^ 20) now ≡ (start + (grown + cond on added 0)) % 2 ^ 20
one-sample on now start grown added same = search rules

voice-viewed : (set : Parts) (start : BoardView) (entries : List Entry) (voice : Voice) → IsBoard start
    → accumulator (board_after_entries set start entries).accumulators voice ≡ accumulator_at start entries voice
voice-viewed set start [] voice fit = let below = accumulator-fits start.accumulators voice fit.accumulators in omega (arith, below)
voice-viewed set start (Sample number ∷ older) voice fit =
    let registers = registers-kept set start older fit.memory in
    let on = sound-kept set start older in grind (arith, after-voice, one-sample, voice-viewed set start older voice fit)
voice-viewed set start (entry ∷ older) voice fit = voice-viewed set start older voice fit

-- ---- the picture has the lines that the history says

lines-high : (set : Parts) (start : BoardView) (entries : List Entry) → IsBoard start
    → length (board_after_entries set start entries).lines ≡ height
lines-high set start [] fit = fit.lines.high
lines-high set start (Line frame line ∷ older) fit = grind (arith, length-set, lines-high set start older fit)
lines-high set start (entry ∷ older) fit = lines-high set start older fit

-- a line after one is set
line-set : (lines : List (List ℕ)) (line y : ℕ) (composed : ℕ → List ℕ) → y < length lines
    → slice_index_or (slice_set lines line (composed line)) y [] ≡ cond (line == y) (composed y) (slice_index_or lines y [])
line-set lines line y composed below = search rules

line-viewed : (set : Parts) (start : BoardView) (entries : List Entry) (y : ℕ) → IsBoard start → y < height
    → slice_index_or (board_after_entries set start entries).lines y [] ≡ line_at set start entries y
line-viewed set start [] y fit below = refl
line-viewed set start (Line frame line ∷ older) y fit below =
    let kept = video-memory-kept set start older fit.memory in
    grind (arith, line-set, lines-high, line-viewed set start older y fit below)
line-viewed set start (entry ∷ older) y fit below = line-viewed set start older y fit below

lines-viewed : (set : Parts) (start : BoardView) (entries : List Entry) → IsBoard start
    → (board_after_entries set start entries).lines ≡ tabulate height (line_at set start entries)
lines-viewed set start entries fit =
    let line = line_at set start entries in
    ext_get_or [] _ (tabulate height line) (lines-high set start entries fit ∙ sym (length-tabulate height line)) (λ y below.
    grind (arith, get_or-tabulate, line-viewed, lines-high))

-- ---- all of it

pub view-answers : ViewAnswers
view-answers set start entries address fit = grind (arith, memory-viewed, read-viewed)

pub view-tells : ViewTells
view-tells set start entries fit =
    let first = start.memory in
    let well = fit.memory in
    let kept = memory-viewed set start entries in record {
      tile = λ cell below. ap (λ memory. slice_index memory.tile cell) kept ∙ viewed first entries (Tile cell) well below;
      colour = λ cell below. ap (λ memory. slice_index memory.colour cell) kept ∙ viewed first entries (Colour cell) well below;
      work = λ cell below. ap (λ memory. slice_index memory.work cell) kept ∙ viewed first entries (Work cell) well below;
      attributes = ap view.sprite_attributes kept ∙ attributes-listed first entries well;
      coordinates = ap (λ memory. memory.coordinates) kept ∙ coordinates-listed first entries well;
      registers = registers-kept set start entries well;
      held = ap (λ memory. memory.held) kept ∙ held-viewed first entries;
      bits = λ place. ap (λ memory. is_latch_bit_set memory.latched place) kept ∙ bit-viewed first entries place;
      vector = ap (λ memory. memory.latched.vector) kept ∙ vector-viewed first entries;
      request = ap (λ memory. interrupt_request memory.latched) kept ∙ request-viewed first entries;
      count = ap (λ memory. memory.latched.count) kept ∙ count-viewed first entries well.count;
      due = ap (λ memory. latch.is_watchdog_due memory.latched) kept ∙ due-viewed first entries well.count;
      accumulators = λ voice. voice-viewed set start entries voice fit;
      lines = lines-viewed set start entries fit;
    }
