use Rattle.std.proofs.Common.{rules}
use Rattle.pac_run_files.proofs.Folders.{split-at-slash}
use Rattle.pac_run_files.proofs.parts.folder_of.Goals as goal

pub returns-in-Some : goal.returns-in-Some
returns-in-Some c = rw (split-at-slash c.args.path.now _ c.rsplit_once.ensures.cases) (grind rules)

pub returns-in-None : goal.returns-in-None
returns-in-None c = rw (split-at-slash c.args.path.now _ c.rsplit_once.ensures.cases) (grind rules)
