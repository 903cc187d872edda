use Rattle.pac_run_files.proofs.Common.{None, Some, [], ap, arith, name_parts, rules, slash, split_parts, way_of_place, ◌∙◌, ◌∷◌}
use Rattle.pac_run_files.proofs.NameParts.{parts-split, parts-none}
use Rattle.pac_run_files.proofs.Following.{part-on, part-out, at-parts, at-link}
use Rattle.pac_run_files.proofs.links.follow.Goals as goal

pub parts-preserved : goal.parts-preserved
parts-preserved g c =
    let finds = (g.D.FileSystem.finds c.args.disk.now).link in
    let part = c.in-Some.part.now in
    let more = c.in-Some.more.now in
    let split = split_parts slash c.parts.left.now (Some (c.in-Some.part, c.in-Some.more)) c.in-Some.ensures.cases (omega arith) in (
      search rules,
      λ links. part-on finds (way_of_place c.args.place.now (name_parts c.args.text.now) links) c.parts.place part (name_parts more)
          links c.meet.new.place
          (at-parts finds _ c.parts.place _ _ links (ap name_parts split.0 ∙ parts-split part more split.1) (c.parts.invariant.1 links))
          (rw c.in-Past.is at c.in_ok-meet.ensures),
    )

pub returns-in-Out : goal.returns-in-Out
returns-in-Out g c = λ links.
    let finds = (g.D.FileSystem.finds c.args.disk.now).link in
    let part = c.in-Some.part.now in
    let more = c.in-Some.more.now in
    let split = split_parts slash c.parts.left.now (Some (c.in-Some.part, c.in-Some.more)) c.in-Some.ensures.cases (omega arith) in (
      way_of_place c.parts.place (part ∷ name_parts more) links,
      at-parts finds _ c.parts.place _ _ links (ap name_parts split.0 ∙ parts-split part more split.1) (c.parts.invariant.1 links),
      part-out finds c.parts.place part (name_parts more) links c.meet.new.place (rw c.in-Out.is at c.in_ok-meet.ensures),
    )

pub returns-in-Link : goal.returns-in-Link
returns-in-Link g c =
    let finds = (g.D.FileSystem.finds c.args.disk.now).link in
    let part = c.in-Some.part.now in
    let more = c.in-Some.more.now in
    let split = split_parts slash c.parts.left.now (Some (c.in-Some.part, c.in-Some.more)) c.in-Some.ensures.cases (omega arith) in
    let meets = rw c.in-Link.is at c.in_ok-meet.ensures in
    at-link finds (λ links. way_of_place c.args.place.now (name_parts c.args.text.now) links) c.parts.place c.meet.new.place part
    (name_parts more) c.in-Link.link
    (λ links. at-parts finds _ c.parts.place _ _ links (ap name_parts split.0 ∙ parts-split part more split.1) (c.parts.invariant.1 links))
    meets

pub returns-in-Past-2 : goal.returns-in-Past-2
returns-in-Past-2 g c = λ links.
    let finds = (g.D.FileSystem.finds c.args.disk.now).link in
    let none = split_parts slash c.parts.left.now None c.in_default.ensures.cases (omega arith) in
    part-on finds (way_of_place c.args.place.now (name_parts c.args.text.now) links) c.parts.place c.parts.left.now [] links
    c.meet-2.new.place (at-parts finds _ c.parts.place _ _ links (parts-none c.parts.left.now none) (c.parts.invariant.1 links))
    (rw c.in-Past-2.is at c.in_ok-meet-2.ensures)

pub returns-in-Out-2 : goal.returns-in-Out-2
returns-in-Out-2 g c = λ links.
    let finds = (g.D.FileSystem.finds c.args.disk.now).link in
    let none = split_parts slash c.parts.left.now None c.in_default.ensures.cases (omega arith) in (
      way_of_place c.parts.place (c.parts.left.now ∷ []) links,
      at-parts finds _ c.parts.place _ _ links (parts-none c.parts.left.now none) (c.parts.invariant.1 links),
      part-out finds c.parts.place c.parts.left.now [] links c.meet-2.new.place (rw c.in-Out-2.is at c.in_ok-meet-2.ensures),
    )

pub returns-in-Link-2 : goal.returns-in-Link-2
returns-in-Link-2 g c =
    let finds = (g.D.FileSystem.finds c.args.disk.now).link in
    let part = c.parts.left.now in
    let none = split_parts slash c.parts.left.now None c.in_default.ensures.cases (omega arith) in
    let meets = rw c.in-Link-2.is at c.in_ok-meet-2.ensures in
    at-link finds (λ links. way_of_place c.args.place.now (name_parts c.args.text.now) links) c.parts.place c.meet-2.new.place part []
    c.in-Link-2.link (λ links. at-parts finds _ c.parts.place _ _ links (parts-none part none) (c.parts.invariant.1 links)) meets
