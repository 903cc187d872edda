-- Tiles and sprites by their pixel values, and the numbers that a colour gives these.
use Rattle.pac_picture.proofs.Common.{AreNumbersOf, ArePlaces, AreValues, Each1-from_get_or, List, SwzOk, SwzOk-from_below, VideoRoms}
use Rattle.pac_picture.proofs.Common.{arith, drop, get_or, get_or-chunk, get_or-drop, get_or-swz_l_below, get_or-tabulate, get_or-take}
use Rattle.pac_picture.proofs.Common.{if◌then◌else◌, length, nat_lt, nat_tests, pixel_byte_index, pixel_value, pixel_value-below}
use Rattle.pac_picture.proofs.Common.{sprite_number, sprite_values, swz_l, tabulate, tabulate-is, tile_number, tile_pair, w8, ℕ, ◌%◌, ◌*◌}
use Rattle.pac_picture.proofs.Common.{◌+◌, ◌-◌, ◌/◌, ◌<◌, ◌≡◌, ◌≤◌}
use lib.Lanes.{chunk}
use borrow.Rule.Slice.PartMut.{mid_of}

-- places in a vector of sixteen, and the lanes there
pub swizzle-fits : (places : List ℕ) → length places ≡ 16 → ArePlaces places → SwzOk w8 16 16 0 places
swizzle-fits places long below =
    SwzOk-from_below w8 16 1 16 0 places (omega arith) (omega (arith, long))
    (Each1-from_get_or (λ j. j < 16) places 0 (λ i inside. below i (omega (arith, inside, long))))

pub swizzled-at : (bytes places : List ℕ) → length places ≡ 16 → ArePlaces places → (k : ℕ) → k < 16
    → get_or (swz_l w8 16 bytes 0 places) k 0 ≡ get_or bytes (get_or places k 0) 0
swizzled-at bytes places long are k below = grind (arith, get_or-swz_l_below, are)

pub values-are-places : (values : List ℕ) → AreValues values → ArePlaces values
values-are-places values small k below = omega (arith, small k below)

-- what is decoded are values of two bits
pub pair-below : (rom : List ℕ) (tile pair : ℕ) → AreValues (tile_pair rom tile pair)
unfolding tile_pair
pair-below rom tile pair k below = grind (arith, get_or-tabulate, pixel_value-below)

pub sprite-below : (rom : List ℕ) (code y : ℕ) → AreValues (sprite_values rom code y)
unfolding sprite_values
sprite-below rom code y k below = grind (arith, get_or-tabulate, pixel_value-below)

-- the places of a pair of lines are places, and what stands there are the pixels of these lines
pub are-places : (pair : ℕ) (places : List ℕ) → pair < 4
    → ((k : ℕ) → k < 16 → get_or places k 0 ≡ 2 * pair + k / 8 + (if nat_lt (k % 8) 4 then 8 else 0)) → ArePlaces places
are-places pair places some are k below = grind (arith, nat_tests, are)

pub sixteen-read : (rom : List ℕ) (start k : ℕ) → length rom ≡ 4096 → start + 16 ≤ 4096 → k < 16
    → get_or (chunk 0 16 (mid_of start (4096 - start) rom)) k 0 ≡ get_or rom (start + k) 0
sixteen-read rom start k long room below =
    let place : 0 + k ≡ k = omega arith in
    rw (
      get_or-chunk 0 16 (mid_of start (4096 - start) rom) k 0 below,
      place,
      get_or-take (4096 - start) (drop start rom) k 0 (omega (arith, below, room)),
      get_or-drop,
    )

pub value-is : (bytes places lanes pixels : List ℕ) (pair : ℕ)
    → ((k : ℕ) → k < 16 → get_or places k 0 ≡ 2 * pair + k / 8 + (if nat_lt (k % 8) 4 then 8 else 0))
    → ((k : ℕ) → k < 16 → get_or lanes k 0 ≡ get_or bytes (get_or places k 0) 0)
    → ((k : ℕ) → k < 16 → get_or pixels k 0 ≡ pixel_value (get_or lanes k 0) k)
    → (k : ℕ) → k < 16 → get_or pixels k 0 ≡ pixel_value (get_or bytes (2 * pair + k / 8 + (if nat_lt (k % 8) 4 then 8 else 0)) 0) k
value-is bytes places lanes pixels pair are picked valued k below = rw (valued k below, picked k below, are k below)

pub pair-is : (rom bytes pixels : List ℕ) (code pair : ℕ) → pair < 4 → length pixels ≡ 16
    → ((k : ℕ) → k < 16 → get_or bytes k 0 ≡ get_or rom (16 * code + k) 0)
    → ((k : ℕ) → k < 16 → get_or pixels k 0
    ≡ pixel_value (get_or bytes (2 * pair + k / 8 + (if nat_lt (k % 8) 4 then 8 else 0)) 0) k) → pixels ≡ tile_pair rom code pair
unfolding tile_pair
pair-is rom bytes pixels code pair some long read valued =
    tabulate-is pixels 16 _ 0 long (λ k below. grind (arith, nat_tests, read, valued))

-- and on a line of a sprite
pub sprite-is : (rom : List ℕ) (code y : ℕ) (bytes pixels : List ℕ) → length pixels ≡ 16
    → ((x : ℕ) → x < 16 → get_or bytes x 0 ≡ get_or rom (64 * code + pixel_byte_index x y) 0)
    → ((k : ℕ) → k < 16 → get_or pixels k 0 ≡ pixel_value (get_or bytes k 0) k) → pixels ≡ sprite_values rom code y
unfolding sprite_values
sprite-is rom code y bytes pixels long read valued = tabulate-is pixels 16 _ 0 long (λ k below. rw (valued k below, read k below))

-- a dot of a tile in a colour, and of a sprite
tile-dot : (roms : VideoRoms) (colour tile pair : ℕ) (numbers values both : List ℕ) (k : ℕ) → k < 16
    → values ≡ tile_pair roms.tiles tile pair → AreNumbersOf roms.lookup colour numbers
    → get_or both k 0 ≡ get_or numbers (get_or values k 0) 0
    → get_or both k 0 ≡ tile_number roms colour tile (k % 8) (2 * pair + k / 8)
unfolding tile_pair tile_number
tile-dot roms colour tile pair numbers values both k below is named read = grind (arith, get_or-tabulate, named, pixel_value-below)

pub sprite-line : (roms : VideoRoms) (colour code y : ℕ) (numbers values line : List ℕ) → length line ≡ 16
    → values ≡ sprite_values roms.sprites code y → AreNumbersOf roms.lookup colour numbers
    → ((k : ℕ) → k < 16 → get_or line k 0 ≡ get_or numbers (get_or values k 0) 0)
    → line ≡ tabulate 16 (λ x. sprite_number roms colour code x y)
unfolding sprite_values sprite_number
sprite-line roms colour code y numbers values line long is named read =
    tabulate-is line 16 (λ x. sprite_number roms colour code x y) 0 long
    (λ k below. grind (arith, get_or-tabulate, named, pixel_value-below, read))

-- a pair of a tile's lines
pub pair-dots : (roms : VideoRoms) (colour tile pair : ℕ) (numbers values both : List ℕ) → length both ≡ 16
    → values ≡ tile_pair roms.tiles tile pair → AreNumbersOf roms.lookup colour numbers
    → ((k : ℕ) → k < 16 → get_or both k 0 ≡ get_or numbers (get_or values k 0) 0)
    → both ≡ tabulate 16 (λ k. tile_number roms colour tile (k % 8) (2 * pair + k / 8))
pair-dots roms colour tile pair numbers values both long is named read =
    tabulate-is both 16 (λ k. tile_number roms colour tile (k % 8) (2 * pair + k / 8)) 0 long (λ k below.
    tile-dot roms colour tile pair numbers values both k below is named (read k below))
