-- Believed: names of files. Which names in a manifest are those of files of its folder, and how a name is told, in one
-- line of any terminal (this profile).
use Rattle.std.specs.Prelude.{ℕ, Bool, false, not, ◌&&◌, ◌==◌, if◌then◌else◌, List, [], ◌∷◌, ◌++◌, codes, chars, flat_map}
use Rattle.std.specs.Char.{encode_utf8, is_ascii_control}
use Rattle.std.specs.List.{list_any}
use Rattle.std.specs.Str.{bytes_eq}
use Rattle.pac_num.specs.Hexadecimal.{hex_byte}

abbrev pub slash : ℕ
slash = 47

-- ---- the parts of a name, which slashes part

-- parts whose first is a byte longer
abbrev pub lengthen : ℕ → List (List ℕ) → List (List ℕ)
lengthen byte [] = []
lengthen byte (part ∷ more) = (byte ∷ part) ∷ more

abbrev pub name_parts : List ℕ → List (List ℕ)
name_parts [] = [] ∷ []
name_parts (byte ∷ name) = if byte == slash then [] ∷ name_parts name else lengthen byte (name_parts name)

-- one of the parts is the folder above
abbrev pub climbs : List ℕ → Bool
climbs name = list_any (λ part. bytes_eq part (codes "..")) (name_parts name)

-- a name has a byte before its first slash
abbrev pub begins_below : List ℕ → Bool
begins_below [] = false
begins_below (byte ∷ name) = not (byte == slash)

-- The name of a file of the folder, or of a folder below it. An empty name, one that begins with a slash, and one with a part `..` are
-- none.
abbrev pub is_within_folder : List ℕ → Bool
is_within_folder name = begins_below name && not (climbs name)

-- ---- telling a name

-- a control character, below 20H or 7FH, as `\x` and two hexadecimal digits; each other as it is
abbrev pub told_character : ℕ → List ℕ
told_character character = if is_ascii_control character then codes "\\x" ++ hex_byte character else encode_utf8 character

abbrev pub told_name : List ℕ → List ℕ
told_name name = flat_map told_character (chars name)
