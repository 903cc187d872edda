-- Names that are followed part by part.
use Rattle.pac_run_files.proofs.Common.{Bool, Bor, FindsLink, Follows, Global, IsReached, Leads, LeadsOn, List, MeetsPart, None, Option}
use Rattle.pac_run_files.proofs.Common.{PlaceReached, Some, String, Way, [], ap, append-nil, false, if◌then◌else◌, is_joined, lengthen}
use Rattle.pac_run_files.proofs.Common.{links_past, name_parts, option_map, parts_left, refl, rules, slash, string_bytes, suc, sym, true}
use Rattle.pac_run_files.proofs.Common.{way_along, way_from, way_of_place, zero, ℕ, ◌++◌, ◌==◌, ◌∙◌, ◌∷◌, ◌≡◌}
use Rattle.pac_run_files.specs.declared.links.Met.TheVariants as met
use Rattle.pac_run_files.specs.declared.links.Rest.TheVariants as rest

module _ (finds : FindsLink) where
  -- one step more
  pub one-on : (from before to : Way) → IsReached finds from before → LeadsOn finds before (Some to) → IsReached finds from to
  one-on from before to reached goes = (suc reached.0, (before, reached.1, goes))

  -- the parts that are left, told otherwise
  pub at-parts : (from : Way) (place : PlaceReached) (parts same : List (List ℕ)) (links : ℕ) → parts ≡ same
      → IsReached finds from (way_of_place place parts links) → IsReached finds from (way_of_place place same links)
  at-parts from place parts same links equal reached = rw equal at reached

  -- past a part
  pub part-on : (from : Way) (old : PlaceReached) (part : List ℕ) (parts : List (List ℕ)) (links : ℕ) (new : PlaceReached)
      → IsReached finds from (way_of_place old (part ∷ parts) links) → MeetsPart finds old part met.Past new
      → IsReached finds from (way_of_place new parts links)
  part-on from old part parts links new reached meets =
      one-on from (way_of_place old (part ∷ parts) links) (way_of_place new parts links) reached (None, meets.0, rw (meets.1, meets.2))

  -- at a part that leads out
  pub part-out : (old : PlaceReached) (part : List ℕ) (parts : List (List ℕ)) (links : ℕ) (new : PlaceReached)
      → MeetsPart finds old part met.Out new → LeadsOn finds (way_of_place old (part ∷ parts) links) None
  part-out old part parts links new meets = (None, meets.0, rw meets.1)

  -- at a link
  pub at-link : (from : (links : ℕ) → Way) (old new : PlaceReached) (part : List ℕ) (parts : List (List ℕ)) (text : String Global)
      → ((links : ℕ) → IsReached finds (from links) (way_of_place old (part ∷ parts) links)) → MeetsPart finds old part (met.Link text) new
      → (one : List ℕ) × finds (string_bytes new.path) one (Some (string_bytes text))
      × ((links : ℕ) → IsReached finds (from links) (way_of_place new (one ∷ parts) links))
  at-link from old new part parts text reached meets = (part, rw meets.1 meets.0, λ links. rw meets.1 (reached links))

  -- one stretch after another
  pub both : (from mid to : Way) → IsReached finds from mid → IsReached finds mid to → IsReached finds from to
  both from mid to first (zero, reached) = rw reached first
  both from mid to first (suc steps, (before, reached, goes)) = one-on from before to (both from mid before first (steps, reached)) goes

-- a text has a first part
first-by : (byte : ℕ) (parts : List (List ℕ)) (is_slash : Bool) → (part : List ℕ) × (more : List (List ℕ)) × (parts ≡ part ∷ more)
    → (part : List ℕ) × (more : List (List ℕ)) × ((if is_slash then [] ∷ parts else lengthen byte parts) ≡ part ∷ more)
first-by byte parts true first = ([], parts, refl)
first-by byte parts false first = (byte ∷ first.0, first.1, ap (lengthen byte) first.2)

first-part : (text : List ℕ) → (part : List ℕ) × (more : List (List ℕ)) × (name_parts text ≡ part ∷ more)
first-part [] = ([], [], refl)
first-part (byte ∷ text) = first-by byte (name_parts text) (byte == slash) (first-part text)

lengthen-on : (byte : ℕ) (parts : List (List ℕ)) (more : List (List ℕ)) → (part : List ℕ) × (rest : List (List ℕ)) × (parts ≡ part ∷ rest)
    → lengthen byte (parts ++ more) ≡ lengthen byte parts ++ more
lengthen-on byte parts more first = rw first.2 (refl)

joined-by : (byte : ℕ) (parts all more : List (List ℕ)) (is_slash : Bool) → (part : List ℕ) × (rest : List (List ℕ)) × (parts ≡ part ∷ rest)
    → all ≡ parts ++ more
    → (if is_slash then [] ∷ all else lengthen byte all) ≡ (if is_slash then [] ∷ parts else lengthen byte parts) ++ more
joined-by byte parts all more true first joined = ap (λ rest. [] ∷ rest) joined
joined-by byte parts all more false first joined = ap (lengthen byte) joined ∙ lengthen-on byte parts more first

-- the parts of a text, a slash and another
pub parts-joined : (text more : List ℕ) → name_parts (text ++ slash ∷ more) ≡ name_parts text ++ name_parts more
parts-joined [] more = refl
parts-joined (byte ∷ text) more =
    joined-by byte (name_parts text) (name_parts (text ++ slash ∷ more)) (name_parts more) (byte == slash) (first-part text)
    (parts-joined text more)

-- the parts of a link's text and of what follows it
pub parts-of-joined : (link : String Global) (more : Option (Bor (List ℕ))) (joined : List ℕ) → is_joined link more joined
    → name_parts joined ≡ name_parts (string_bytes link) ++ parts_left more
parts-of-joined link None joined is = ap name_parts is ∙ sym (append-nil (name_parts (string_bytes link)))
parts-of-joined link (Some more) joined is = ap name_parts is ∙ parts-joined (string_bytes link) more.now

-- the way past a link, if there may be one
along-is : (links : ℕ) (way : Way) (text : List ℕ) (parts : List (List ℕ))
    → way_along links way text parts ≡ option_map (λ left. record {
      path = way.path;
      depth = way.depth;
      parts = name_parts text ++ parts;
      links = left;
    }) (links_past links text)
along-is zero way text parts = search rules
along-is (suc links) way text parts = search rules

module _ (finds : FindsLink) (folder name : List ℕ) (place new : PlaceReached) (text : List ℕ) (links : ℕ)
    (reached : IsReached finds (way_from folder name) (way_of_place place (name_parts text) links)) where
  pub lead-end : Follows finds place (name_parts text) rest.End new → Leads finds folder name (Some (string_bytes new.path))
  lead-end follows =
      let all = both finds (way_from folder name) _ (way_of_place new [] links) reached (follows links) in
      record { steps = all.0; last = way_of_place new [] links; reached = all.1; ends = (refl, refl) }

  pub lead-out : Follows finds place (name_parts text) rest.Out new → Leads finds folder name None
  lead-out follows =
      let one = follows links in
      let all = both finds (way_from folder name) _ one.0 reached one.1 in
      record { steps = all.0; last = one.0; reached = all.1; ends = one.2 }

  module _ (link : String Global) (more : Option (Bor (List ℕ)))
      (follows : Follows finds place (name_parts text) (rest.Link link more) new) where
    pub to-link : IsReached finds (way_from folder name) (way_of_place new (follows.0 ∷ parts_left more) links)
    to-link = both finds (way_from folder name) _ (way_of_place new (follows.0 ∷ parts_left more) links) reached (follows.2 links)

    pub lead-none : None ≡ links_past links (string_bytes link) → Leads finds folder name None
    lead-none none = record {
      steps = to-link.0;
      last = way_of_place new (follows.0 ∷ parts_left more) links;
      reached = to-link.1;
      ends = (Some (string_bytes link), follows.1, rw (along-is links, ← none) refl);
    }

    pub link-on : (joined : List ℕ) (left : ℕ) → is_joined link more joined → Some left ≡ links_past links (string_bytes link)
        → IsReached finds (way_from folder name) (way_of_place new (name_parts joined) left)
    link-on joined left is past =
        at-parts finds (way_from folder name) new _ _ left (sym (parts-of-joined link more joined is)) (one-on finds (way_from folder name)
        (way_of_place new (follows.0 ∷ parts_left more) links) (way_of_place new (name_parts (string_bytes link) ++ parts_left more) left)
        to-link (Some (string_bytes link), follows.1, rw (along-is links, ← past) refl))
