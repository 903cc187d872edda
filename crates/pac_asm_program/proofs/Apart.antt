-- Items that share no address lie in their ROM, and where no item lies it holds 0.
use Rattle.pac_asm_program.proofs.Common.{All, All-head, All-tail, ApartItemsLie, AreApart, IsZeroElsewhere, Item, List, [], and_from, ap}
use Rattle.pac_asm_program.proofs.Common.{arith, bytes_of, cases_Bool, cond-false, cond-true, covers, drop, ext_get_or, false, get_or}
use Rattle.pac_asm_program.proofs.Common.{get_or-drop, get_or-map-range_with_len, get_or-take, le-leb, length, length-drop}
use Rattle.pac_asm_program.proofs.Common.{length-map-range_with_len, length-take-le, lt-ltb, map, range_with_len, refl, rom_byte_at, rom_of}
use Rattle.pac_asm_program.proofs.Common.{rom_size, slice_index, suc, sym, take, true, true≢false, zero, ℕ, ⊎_elim, ◌+◌, ◌-◌, ◌<◌, ◌∙◌, ◌∷◌}
use Rattle.pac_asm_program.proofs.Common.{◌≡◌}

-- the byte at an address is that of the item that covers it
byte-is : (items : List Item) → AreApart items → (k : ℕ) (d : Item) → k < length items → (cell : ℕ) → covers (get_or items k d) cell ≡ true
    → rom_byte_at items cell ≡ slice_index (bytes_of (get_or items k d)) (cell - (get_or items k d).at)
byte-is [] apart k d below cell h = absurd (omega arith)
byte-is (x ∷ xs) apart zero d below cell h = cond-true _ _ _ h
byte-is (x ∷ xs) apart (suc k) d below cell h =
    ⊎_elim
    (λ (yes : covers x cell ≡ true). absurd (true≢false (sym h ∙ apart.0 k d (omega arith) cell yes)))
    (λ (no : covers x cell ≡ false). cond-false _ _ _ no ∙ byte-is xs apart.1 k d (omega arith) cell h)
    (cases_Bool (covers x cell))

pub apart_items_lie : ApartItemsLie
unfolding rom_of
apart_items_lie items apart fit k d below =
    let item = get_or items k d in
    let bytes = bytes_of item in
    let rom = map (rom_byte_at items) (range_with_len 0 rom_size) in
    let size : length rom ≡ rom_size = length-map-range_with_len (rom_byte_at items) 0 rom_size in
    let inside = (fit k d below).inside in
    let long : length (take (length bytes) (drop item.at rom)) ≡ length bytes =
    length-take-le (length bytes) (drop item.at rom) (omega (arith, size, inside, length-drop item.at rom)) in
    record {
      valid = (fit k d below).valid;
      inside = omega (arith, size, inside);
      bytes = ext_get_or 0 (take (length bytes) (drop item.at rom)) bytes long
          (λ j lt.
          let within : j < length bytes = omega (arith, lt, long) in
          let same : item.at + j - item.at ≡ j = omega arith in
          get_or-take (length bytes) (drop item.at rom) j 0 within
          ∙ get_or-drop item.at rom j 0
          ∙ get_or-map-range_with_len (rom_byte_at items) 0 rom_size (item.at + j) (item.at + j) 0 (omega (arith, inside)) (omega arith)
          ∙ byte-is items apart k d below (item.at + j)
          (and_from _ _ (le-leb item.at (item.at + j) (omega arith)) (lt-ltb (item.at + j) (item.at + length bytes) (omega arith)))
          ∙ ap (λ n. get_or bytes n 0) same);
    }

-- the byte at an address that no item covers
byte-zero : (items : List Item) (cell : ℕ) → All (λ item. covers item cell ≡ false) items → rom_byte_at items cell ≡ 0
byte-zero [] cell none = refl
byte-zero (x ∷ xs) cell none =
    cond-false _ _ _ (All-head (λ item. covers item cell ≡ false) x xs none)
    ∙ byte-zero xs cell (All-tail (λ item. covers item cell ≡ false) x xs none)

pub zero-elsewhere : (items : List Item) → IsZeroElsewhere (rom_of items) items
unfolding rom_of
zero-elsewhere items cell below none =
    get_or-map-range_with_len (rom_byte_at items) 0 rom_size cell cell 0 below (omega arith) ∙ byte-zero items cell none
