-- An image that is made of pieces of one length, of which some are written over.
use Rattle.pac_media.proofs.Common.{AreColours, EachIndex, IsDrawnTo, IsPicture, List, [], append-nil, append_assoc, arith, cases_lt}
use Rattle.pac_media.proofs.Common.{common_steps, drop, drop-append-add, drop-cons, drop-drop, flat_map, flat_map-append, flat_map_more}
use Rattle.pac_media.proofs.Common.{get_or, get_or-append_right, get_or-drop, get_or-take, get_or_append_left, get_or_default, header}
use Rattle.pac_media.proofs.Common.{length, length-append, length-drop, length-take, length-take-le, palette_colour, ppm_of, refl, rules}
use Rattle.pac_media.proofs.Common.{same_lists, set, set_split, slice_index, suc, sym, take, take-add, take-append-add, take-put_mid}
use Rattle.pac_media.proofs.Common.{take_all, take_at, take_more, zero, ℕ, ◌*◌, ◌++◌, ◌+◌, ◌<◌, ◌∙◌, ◌∷◌, ◌≡◌, ◌≤◌}
use borrow.Rule.Slice.PartMut.{put_mid}

-- what each of these gives has one length
abbrev pub ArePieces : {X Y : Type 0} → (X → List Y) → ℕ → X → List X → Type 0
ArePieces f size other xs = (k : ℕ) → k < length xs → length (f (get_or xs k other)) ≡ size

rest-pieces : {X Y : Type 0} (f : X → List Y) (size : ℕ) (other x : X) (xs : List X) → ArePieces f size other (x ∷ xs) →
    ArePieces f size other xs
rest-pieces f size other x xs each k below = each (suc k) (omega (arith, below))

pub length-pieces : {X Y : Type 0} (f : X → List Y) (size : ℕ) (other : X) (xs : List X) → ArePieces f size other xs →
    length (flat_map f xs) ≡ size * length xs
length-pieces f size other [] each = omega arith
length-pieces f size other (x ∷ xs) each =
    let rest = length-pieces f size other xs (rest-pieces f size other x xs each) in
    omega (arith, length-append (f x) (flat_map f xs), each 0 (omega arith), rest)

-- so many of them, and those after
split-pieces : {X Y : Type 0} (f : X → List Y) (size : ℕ) (other : X) (xs : List X) (count : ℕ) → ArePieces f size other xs →
    count ≤ length xs → (take (size * count) (flat_map f xs) ≡ flat_map f (take count xs))
    × (drop (size * count) (flat_map f xs) ≡ flat_map f (drop count xs))
split-pieces f size other xs zero each fits = let none : size * 0 ≡ 0 = omega arith in rw none (refl, refl)
split-pieces f size other [] (suc count) each fits = absurd (omega (arith, fits))
split-pieces f size other (x ∷ xs) (suc count) each fits =
    let sum : size * suc count ≡ length (f x) + size * count = omega (arith, each 0 (omega arith)) in
    let rest = split-pieces f size other xs count (rest-pieces f size other x xs each) (omega (arith, fits)) in
    rw (sum, take-append-add (f x) (flat_map f xs), drop-append-add (f x) (flat_map f xs), rest.0, rest.1) (refl, refl)

-- some pieces written over by others
put-pieces : {X Y : Type 0} (f : X → List Y) (size : ℕ) (other : X) (xs ys : List X) (at count : ℕ) → ArePieces f size other xs →
    at + count ≤ length xs → put_mid (size * at) (size * count) (flat_map f xs) (flat_map f ys) ≡ flat_map f (put_mid at count xs ys)
put-pieces f size other xs ys at count each fits =
    let before = split-pieces f size other xs at each (omega (arith, fits)) in
    let after = split-pieces f size other xs (at + count) each fits in
    grind (arith, flat_map-append, drop-drop)

-- colour numbers
abbrev AreNumbers : List ℕ → Type 0
AreNumbers numbers = EachIndex numbers (λ x. slice_index numbers x < 16)

numbers-append : (xs ys : List ℕ) → AreNumbers xs → AreNumbers ys → AreNumbers (xs ++ ys)
numbers-append xs ys one other k inside = let sum = length-append xs ys in grind (arith, cases_lt, get_or-append_right, get_or_append_left)

numbers-take : (n : ℕ) (xs : List ℕ) → AreNumbers xs → AreNumbers (take n xs)
numbers-take n xs all k inside = grind (arith, length-take, get_or-take, all)

numbers-drop : (n : ℕ) (xs : List ℕ) → AreNumbers xs → AreNumbers (drop n xs)
numbers-drop n xs all k inside = grind (arith, length-drop, get_or-drop, all)

-- the colours of a line have three bytes each
pub line-pieces : (palette : List (List ℕ)) (numbers : List ℕ) → AreColours palette → AreNumbers numbers →
    ArePieces (palette_colour palette) 3 0 numbers
line-pieces palette numbers three below k inside = three (get_or numbers k 0) (below k inside)

-- a part written over by another of its length
put-long : (at part : ℕ) (xs ys : List ℕ) → at + part ≤ length xs → length ys ≡ part → length (put_mid at part xs ys) ≡ length xs
put-long at part xs ys fits long = grind (arith, common_steps)

-- a block of a line drawn again and kept
pub block-drawn : (palette : List (List ℕ)) (numbers pixels kept block piece : List ℕ) (start part size : ℕ) → length numbers ≡ 288 →
    length kept ≡ 288 → start + 16 ≤ 288 → part ≡ 48 → size ≡ 16 →
    IsDrawnTo palette start numbers pixels kept → block ≡ take 16 (drop start numbers) → piece ≡ flat_map (palette_colour palette) block →
    IsDrawnTo palette (start + 16) numbers (put_mid (3 * start) part pixels piece) (put_mid start size kept block)
block-drawn palette numbers pixels kept block piece start part size long same inside is_part is_size was is coloured =
    let left = length-drop start numbers in
    let whole : length block ≡ 16 = rw is (length-take-le 16 (drop start numbers) (omega (arith, left, long, inside))) in
    let threes : part ≡ 3 * 16 = omega (arith, is_part) in
    let within : start + 16 ≤ length kept = omega (arith, same, inside) in
    let block_below : AreNumbers block = rw is (numbers-take 16 _ (numbers-drop start numbers was.new)) in
    let pieces = length-pieces (palette_colour palette) 3 0 block (line-pieces palette block was.colours block_below) in
    let wide : length piece ≡ part = rw coloured (omega (arith, pieces, whole, is_part)) in
    record {
      colours = was.colours;
      size = put-long (3 * start) part pixels piece (omega (arith, inside, is_part, was.size)) wide ∙ was.size;
      new = was.new;
      below = rw is_size
          (numbers-append _ _ (numbers-take start kept was.below) (numbers-append block (drop 16 (drop start kept)) block_below
          (numbers-drop 16 (drop start kept) (numbers-drop start kept was.below))));
      drawn = rw (threes, is_size, was.drawn, coloured)
          (put-pieces (palette_colour palette) 3 0 kept block start 16 (line-pieces palette kept was.colours was.below) within);
      same = grind (arith, take-add, take-put_mid);
    }

-- a part of a line that is the same
pub part-same : (palette : List (List ℕ)) (numbers pixels kept : List ℕ) (start count : ℕ) →
    take count (drop start numbers) ≡ take count (drop start kept) → IsDrawnTo palette start numbers pixels kept →
    IsDrawnTo palette (start + count) numbers pixels kept
part-same palette numbers pixels kept start count equal was = grind (arith, take-add)

-- all of a line
pub all-kept : (palette : List (List ℕ)) (numbers pixels kept : List ℕ) (count : ℕ) → count ≡ 288 → length numbers ≡ 288 →
    IsDrawnTo palette count numbers pixels kept → kept ≡ numbers
all-kept palette numbers pixels kept count all long is =
    let pieces = length-pieces (palette_colour palette) 3 0 kept (line-pieces palette kept is.colours is.below) in
    grind (arith, take_all)

-- each line of a picture has 864 bytes
pub picture-pieces : (palette lines : List (List ℕ)) → AreColours palette → IsPicture lines →
    ArePieces (flat_map (palette_colour palette)) 864 [] lines
picture-pieces palette lines three picture y inside =
    let high : y < 224 = omega (arith, inside, picture.high) in
    let long =
    length-pieces (palette_colour palette) 3 0 (get_or lines y []) (line-pieces palette _ three (λ x _. picture.below x y)) in
    omega (arith, long, picture.wide y high)

pub image-length : (palette lines : List (List ℕ)) → AreColours palette → IsPicture lines → length (ppm_of lines palette) ≡ 193551
unfolding ppm_of
image-length palette lines three picture =
    let long = length-pieces (flat_map (palette_colour palette)) 864 [] lines (picture-pieces palette lines three picture) in
    rw length-append (omega (arith, long, picture.high))

-- the pixels of a line in an image
pub line-part : (palette lines : List (List ℕ)) (y : ℕ) → AreColours palette → IsPicture lines → y < 224 →
    take 864 (drop (15 + 864 * y) (ppm_of lines palette)) ≡ flat_map (palette_colour palette) (get_or lines y [])
unfolding ppm_of
line-part palette lines y three picture below =
    let each = picture-pieces palette lines three picture in
    let inside : y < length lines = omega (arith, below, picture.high) in
    rw (
      drop-append-add header,
      (split-pieces (flat_map (palette_colour palette)) 864 [] lines y each (omega (arith, inside))).1,
      drop-cons lines y [] inside,
    ) (take_at (flat_map (palette_colour palette) (get_or lines y [])) _ 864 (each y inside))

-- a line written over in an image
pub line-drawn : (palette lines : List (List ℕ)) (image pixels numbers : List ℕ) (y part : ℕ) → AreColours palette → IsPicture lines →
    y < 224 → part ≡ 864 → image ≡ ppm_of lines palette → pixels ≡ flat_map (palette_colour palette) numbers →
    put_mid (15 + 864 * y) part image pixels ≡ ppm_of (set lines y numbers) palette
unfolding ppm_of
line-drawn palette lines image pixels numbers y part three picture below is drawn coloured =
    let f : List ℕ → List ℕ = flat_map (palette_colour palette) in
    let inside : y < length lines = omega (arith, below, picture.high) in
    let next : y + 1 ≡ suc y = omega arith in
    let put = put-pieces f 864 [] lines (numbers ∷ []) y 1 (picture-pieces palette lines three picture) (omega (arith, inside)) in
    let front = take-append-add header (flat_map f lines) (864 * y) in
    let back = drop-append-add header (flat_map f lines) (864 * y) in
    let written : put_mid (864 * y) 864 (flat_map f lines) pixels ≡ flat_map f (set lines y numbers) =
    cc (coloured, append-nil (f numbers), put, drop-drop 1 y lines, next, set_split lines y numbers inside) in grind (arith, common_steps)

-- a line appended to an image
pub line-more : (palette lines : List (List ℕ)) (image numbers : List ℕ) (y : ℕ) → y < length lines → numbers ≡ get_or lines y [] →
    image ≡ header ++ flat_map (flat_map (palette_colour palette)) (take y lines) →
    image ++ flat_map (palette_colour palette) numbers ≡ header ++ flat_map (flat_map (palette_colour palette)) (take (y + 1) lines)
line-more palette lines image numbers y inside read drawn =
    rw (
      drawn,
      read,
      flat_map_more (flat_map (palette_colour palette)) header (take y lines) (get_or lines y []),
      take_more lines y [] inside,
    )

-- a block's pixels appended to those of the blocks before it
pub part-more : (f : ℕ → List ℕ) (numbers image new start pixels : List ℕ) (count stop : ℕ) → new ≡ image ++ pixels →
    stop ≡ 16 → pixels ≡ flat_map f (take stop (drop (16 * count) numbers)) → image ≡ start ++ flat_map f (take (16 * count) numbers) →
    new ≡ start ++ flat_map f (take (16 * (count + 1)) numbers)
part-more f numbers image new start pixels count stop appended is coloured drawn =
    let next : 16 * (count + 1) ≡ 16 * count + 16 = omega arith in
    rw (appended, coloured, is, drawn, next, take-add, flat_map-append, append_assoc)

-- one line more is kept
pub lines-step : (kept new lines : List (List ℕ)) (numbers : List ℕ) (y : ℕ) → length kept ≡ 224 → y < 224 → new ≡ set kept y numbers →
    numbers ≡ get_or lines y [] → ((k : ℕ) → k < y → get_or kept k [] ≡ get_or lines k []) →
    (k : ℕ) → k < y + 1 → get_or new k [] ≡ get_or lines k []
lines-step kept new lines numbers y high below is read so_far = search rules

-- all lines are kept
pub all-lines : (kept lines : List (List ℕ)) (y : ℕ) → y ≡ 224 → length kept ≡ 224 → length lines ≡ 224 →
    ((k : ℕ) → k < y → get_or kept k [] ≡ get_or lines k []) → kept ≡ lines
all-lines kept lines y all one other same = same_lists kept lines (one ∙ sym other) (λ k d inside. grind (arith, get_or_default))
