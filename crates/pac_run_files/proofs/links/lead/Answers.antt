use Rattle.pac_run_files.proofs.Common.{rules, string_bytes}
use Rattle.pac_run_files.proofs.Following.{lead-end, lead-out, lead-none, link-on}
use Rattle.pac_run_files.proofs.links.lead.Goals as goal

pub returns-in-End : goal.returns-in-End
returns-in-End g c =
    lead-end _ _ _ c.links.place c.follow.new.place (string_bytes c.links.text) c.links.links c.links.invariant
    (rw (c.as_str.ensures.value, c.in-End.is) at c.in_ok-follow.ensures)

pub returns-in-Out : goal.returns-in-Out
returns-in-Out g c =
    lead-out _ _ _ c.links.place c.follow.new.place (string_bytes c.links.text) c.links.links c.links.invariant
    (rw (c.as_str.ensures.value, c.in-Out.is) at c.in_ok-follow.ensures)

pub returns-in_default : goal.returns-in_default
returns-in_default g c =
    lead-none _ _ _ c.links.place c.follow.new.place (string_bytes c.links.text) c.links.links c.links.invariant c.in-Link.link
    c.in-Link.more (rw (c.as_str.ensures.value, c.in-Link.is) at c.in_ok-follow.ensures) (search rules)

pub links-preserved : goal.links-preserved
links-preserved g c =
    link-on (g.D.FileSystem.finds c.args.disk.now).link c.args.folder.now c.args.name.now c.links.place c.follow.new.place
    (string_bytes c.links.text) c.links.links c.links.invariant c.in-Link.link c.in-Link.more
    (rw (c.as_str.ensures.value, c.in-Link.is) at c.in_ok-follow.ensures) (string_bytes c.in_ok-text-in-Link.text) _
    c.in_ok-text-in-Link.ensures (search rules)
