use Rattle.pac_run_files.proofs.Common.{FirstUnread, Global, HasParts, IsPart, IsUnread, NamedFile, Vec, [], drop, get_or, map}
use Rattle.pac_run_files.proofs.Common.{map-one-more, map-split, part_files, rules, standing_by, take, ◌++◌, ◌+◌, ◌∷◌, ◌≡◌}
use Rattle.pac_run_files.proofs.Reading.{as-first, part-more, unread-after}
use Rattle.pac_run_files.proofs.parts.read_all.Goals as goal

pub loop-name-preserved : goal.loop-name-preserved
loop-name-preserved g c =
    let finds = g.D.FileSystem.finds c.args.disk.now in
    let names = c.args.names.now in
    let i = c.loop-name.name-index in
    let name = (get_or names i (record { ref_ptr = (0, 0); now = [] })).now in
    let files : c.loop-name.parts.items ++ c.in-Ok.part ∷ [] ≡ c.push.new.self.items = search rules in
    rw (← map-one-more (λ name. name.now) names i (record { ref_ptr = (0, 0); now = [] }) c.loop-name-test.true, ← files) (part-more finds
    c.args.set.now (map (λ name. name.now) (take i names)) c.loop-name.parts.items name c.in-Ok.part c.loop-name.invariant c.in-Ok.ensures)

pub returns-in-Err : goal.returns-in-Err
returns-in-Err g c =
    let finds = g.D.FileSystem.finds c.args.disk.now in
    let set = c.args.set.now in
    let names = c.args.names.now in
    let i = c.loop-name.name-index in
    let name = (get_or names i (record { ref_ptr = (0, 0); now = [] })).now in
    as-first {A = NamedFile} {B = Vec NamedFile Global} (IsPart finds set name)
    (λ parts. HasParts finds set (map (λ name. name.now) names) parts.items)
    (IsUnread finds (standing_by set name)) (FirstUnread finds (part_files set (map (λ name. name.now) names))) c.in-Err.fault
    (λ told unread. rw (map-split (λ name. name.now) names i (record { ref_ptr = (0, 0); now = [] }) c.loop-name-test.true) at
    (unread-after finds set (map (λ name. name.now) (take i names)) c.loop-name.parts.items name
    (map (λ name. name.now) (drop (i + 1) names)) told c.loop-name.invariant unread)) c.in-Err.ensures
