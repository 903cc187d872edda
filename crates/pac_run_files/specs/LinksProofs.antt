-- For proofs: what proofs say of the definitions of Links.antt.
use Rattle.std.specs.Prelude.{◌≡◌, ℕ, List, [], ◌∷◌, ◌++◌, codes, if◌then◌else◌, Option, Some, None, string_bytes, String}
use Rattle.std.specs.Borrow.{Bor}
use Rattle.std.specs.declared.alloc.Global.{Global}
use Rattle.pac_run_files.specs.Names.{slash, name_parts, begins_below}
use Rattle.pac_run_files.specs.Links.{FindsLink, Way, IsReachedIn, LeadsOn, depth_above, depth_after}
use Rattle.pac_run_files.specs.declared.links.PlaceReached.{PlaceReached}
use Rattle.pac_run_files.specs.declared.links.Met.{Met}
use Rattle.pac_run_files.specs.declared.links.Met.TheVariants as met
use Rattle.pac_run_files.specs.declared.links.Rest.{Rest}
use Rattle.pac_run_files.specs.declared.links.Rest.TheVariants as rest

-- the way of a place, with these parts left
abbrev pub way_of_place : PlaceReached → (parts : List (List ℕ)) (links : ℕ) → Way
way_of_place place parts links = record { path = string_bytes place.path; depth = place.depth; parts = parts; links = links }

abbrev pub IsReached : FindsLink → (from to : Way) → Type 0
IsReached finds from to = (steps : ℕ) × IsReachedIn finds steps from to

-- what looking at one part leaves
abbrev pub MeetsPart : FindsLink → (old : PlaceReached) → (part : List ℕ) → Met → (new : PlaceReached) → Type 0
MeetsPart finds old part met.Past new = finds (string_bytes old.path) part None × (depth_after old.depth part ≡ Some new.depth)
    × (string_bytes new.path ≡ string_bytes old.path ++ codes "/" ++ part)
MeetsPart finds old part met.Out new = finds (string_bytes old.path) part None × (depth_after old.depth part ≡ None)
MeetsPart finds old part (met.Link text) new = finds (string_bytes old.path) part (Some (string_bytes text)) × (new ≡ old)

-- the parts of what is left, if something is
abbrev pub parts_left : Option (Bor (List ℕ)) → List (List ℕ)
parts_left None = []
parts_left (Some more) = name_parts more.now

-- what following parts leaves, however many links may be followed
abbrev pub Follows : FindsLink → (old : PlaceReached) → (parts : List (List ℕ)) → Rest → (new : PlaceReached) → Type 0
Follows finds old parts rest.End new = (links : ℕ) → IsReached finds (way_of_place old parts links) (way_of_place new [] links)
Follows finds old parts rest.Out new =
    (links : ℕ) → (last : Way) × IsReached finds (way_of_place old parts links) last × LeadsOn finds last None
Follows finds old parts (rest.Link text more) new = (part : List ℕ) × finds (string_bytes new.path) part (Some (string_bytes text))
    × ((links : ℕ) → IsReached finds (way_of_place old parts links) (way_of_place new (part ∷ parts_left more) links))

-- a link's text, and what follows it
abbrev pub is_joined : String Global → Option (Bor (List ℕ)) → (joined : List ℕ) → Type 0
is_joined link None joined = joined ≡ string_bytes link
is_joined link (Some more) joined = joined ≡ string_bytes link ++ slash ∷ more.now

-- how many links there may be past one with this text; none where it can't be followed
abbrev pub links_past : (links : ℕ) (text : List ℕ) → Option ℕ
links_past links text = if begins_below text then depth_above links else None
