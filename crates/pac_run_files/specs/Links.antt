-- Believed: where the name of a file leads from a folder on, whose links are followed as long as they stay below that folder, as Linux does
-- it for RESOLVE_BENEATH of openat2 (this profile).
use Rattle.std.specs.Prelude.{◌≡◌, ℕ, zero, suc, ◌||◌, if◌then◌else◌, List, [], ◌∷◌, ◌++◌, codes, Option, Some, None, option_map}
use Rattle.std.specs.Str.{bytes_eq}
use Rattle.pac_run_files.specs.Names.{name_parts, begins_below}

-- What is found at a name of a folder: no link, or the text of a link. What can't be looked at counts as a link whose text is empty.
abbrev pub FindsLink : Type 1
FindsLink = (folder name : List ℕ) → (link : Option (List ℕ)) → Type 0

-- the most links that one name may lead through (Linux, path_resolution(7))
abbrev pub most_links : ℕ
most_links = 40

-- how far a name was followed: the path so far, how many folders it is below the first one, the parts of the name that are left, and how
-- many links it may yet lead through
pub record Way : Type 0 where
  pub path : List ℕ
  pub depth : ℕ
  pub parts : List (List ℕ)
  pub links : ℕ

-- the name as it is, from its folder on
abbrev pub way_from : (folder name : List ℕ) → Way
way_from folder name = record { path = folder; depth = 0; parts = name_parts name; links = most_links }

-- how far below the first folder it is past a part: `..` leads up, though not from the first folder itself; `.` and no text lead nowhere
abbrev pub depth_above : ℕ → Option ℕ
depth_above zero = None
depth_above (suc depth) = Some depth

abbrev pub depth_after : (depth : ℕ) (part : List ℕ) → Option ℕ
depth_after depth part =
    if bytes_eq part (codes "..") then depth_above depth
    else if bytes_eq part (codes ".") || bytes_eq part [] then Some depth
    else Some (suc depth)

-- past a part that is no link; none where it leads out
abbrev pub way_past : Way → (part : List ℕ) (parts : List (List ℕ)) → Option Way
way_past way part parts = option_map
    (λ depth. record { path = way.path ++ codes "/" ++ part; depth = depth; parts = parts; links = way.links })
    (depth_after way.depth part)

-- past a link, whose text takes its part's place; none where that is empty or begins with a slash, or where it is one link too many
abbrev pub way_along : (links : ℕ) → Way → (text : List ℕ) (parts : List (List ℕ)) → Option Way
way_along zero way text parts = None
way_along (suc links) way text parts =
    if begins_below text then Some (record { path = way.path; depth = way.depth; parts = name_parts text ++ parts; links = links }) else
    None

abbrev pub way_by : Way → (part : List ℕ) (parts : List (List ℕ)) → (link : Option (List ℕ)) → Option Way
way_by way part parts None = way_past way part parts
way_by way part parts (Some text) = way_along way.links way text parts

-- one part further, or out
abbrev pub PassesPart : FindsLink → Way → (parts : List (List ℕ)) → Option Way → Type 0
PassesPart finds way [] next = ⊥
PassesPart finds way (part ∷ parts) next = (link : Option (List ℕ)) × finds way.path part link × (next ≡ way_by way part parts link)

abbrev pub LeadsOn : FindsLink → Way → Option Way → Type 0
LeadsOn finds way next = PassesPart finds way way.parts next

-- so far in so many steps
abbrev pub IsReachedIn : FindsLink → (steps : ℕ) → (from to : Way) → Type 0
IsReachedIn finds zero from to = to ≡ from
IsReachedIn finds (suc steps) from to = (before : Way) × IsReachedIn finds steps from before × LeadsOn finds before (Some to)

-- a name ends at the path where no part of it is left, or leads out
abbrev pub EndsAt : FindsLink → Way → (place : Option (List ℕ)) → Type 0
EndsAt finds way (Some path) = (way.parts ≡ []) × (path ≡ way.path)
EndsAt finds way None = LeadsOn finds way None

-- the path to which a name leads from a folder on; none where it leads out
pub record Leads (finds : FindsLink) (folder name : List ℕ) (place : Option (List ℕ)) : Type 0 where
  pub steps : ℕ
  pub last : Way
  pub reached : IsReachedIn finds steps (way_from folder name) last
  pub ends : EndsAt finds last place
