use Rattle.pac_run_files.proofs.Common.{Global, Leads, List, Option, Some, String, folder_of, option_map, rules, string_bytes, subst, sym}
use Rattle.pac_run_files.proofs.Common.{ℕ}
use Rattle.pac_run_files.proofs.Reading.{placed-reads}

pub returns-in-Ok-Some : Rattle.pac_run_files.proofs.parts.read_bytes.Goals.returns-in-Ok-Some
returns-in-Ok-Some g c =
    let finds = g.D.FileSystem.finds c.args.disk.now in
    let set = c.args.set.now in
    let name = c.args.name.now in
    let some = subst (λ (found : Option (String Global)). Leads finds.link c.folder_of.result.now name (option_map string_bytes found))
    c.in-Ok-Some.field-0-is c.in-Ok-Some.ensures in
    let from = subst (λ (folder : List ℕ). Leads finds.link folder name (Some (string_bytes c.in-Ok-Some.path))) c.folder_of.ensures some in
    let leads = subst (λ (path : List ℕ). Leads finds.link (folder_of set) name (Some path)) (sym c.as_str.ensures.value) from in
    placed-reads finds set name c.as_str.result.now (search rules) leads c.read_path.result c.read_path.ensures.read
