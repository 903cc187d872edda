-- Believed: what reading the files of a run comes to: those that the command line names, and then those that the manifest
-- names.
use Rattle.std.specs.Prelude.{◌≡◌, ⊤, ℕ, List, [], ◌∷◌, ◌++◌, map, filter_map, Vec, string_bytes, Option, Some, None}
use Rattle.std.specs.Result.{result_ok}
use Rattle.std.specs.declared.alloc.Global.{Global}
use Rattle.pac_roms_manifest.specs.Manifests.{manifest_of, file_of_part}
use Rattle.pac_roms_manifest.specs.Parts.{parts_in_order}
use Rattle.pac_roms_manifest.specs.declared.manifest.Manifest.{Manifest}
use Rattle.pac_roms_manifest.specs.declared.part.Part.{Part}
use Rattle.pac_run_options.specs.CommandLine.{AskedRun, AskedPlay, AskedDebug}
use Rattle.pac_run_files.specs.declared.given.Given.{Given}
use Rattle.pac_run_files.specs.declared.parts.NamedFile.{NamedFile}
use Rattle.pac_run_files.specs.declared.files.FileKind.TheVariants.{Any}
use Rattle.pac_run_files.specs.Files.{FindsFile, WantedFile, as_given, standing_by, MayFind, FirstUnread}

-- a file that the command line may name
abbrev pub files_if_named : Option (List ℕ) → List WantedFile
files_if_named None = []
files_if_named (Some name) = as_given name ∷ []

-- the files of a run that the command line names, in the order in which they are read: source, manifest, script
abbrev pub given_files : AskedRun → List WantedFile
given_files asked = files_if_named asked.source ++ as_given asked.set ∷ as_given asked.script ∷ []

-- the files that the command line of `run` names: those of a run, and then the state that it begins with
abbrev pub played_files : AskedPlay → List WantedFile
played_files asked = given_files asked.run ++ files_if_named asked.load

-- the files that the command line of `debug` names: those of a run, and then the commands
abbrev pub watched_files : AskedDebug → List WantedFile
watched_files asked = given_files asked.run ++ as_given asked.commands ∷ []

-- what was read of a file that the command line may name
abbrev pub HasIfNamed : FindsFile → Option (List ℕ) → Option (Vec ℕ Global) → Type 0
HasIfNamed finds None None = ⊤
HasIfNamed finds (Some name) (Some bytes) = finds.bytes Any name (Some bytes.items)
HasIfNamed finds name bytes = ⊥

-- what was read of the files of a run that the command line names
pub record HasGivenFiles (finds : FindsFile) (asked : AskedRun) (given : Given) : Type 0 where
  pub source : HasIfNamed finds asked.source given.source
  pub manifest : finds.bytes Any asked.set (Some given.manifest.items)
  pub script : finds.bytes Any asked.script (Some given.script.items)

-- the names that a manifest gives, in the order of its parts; none where there is no manifest
abbrev pub manifest_part_names : Option Manifest → List (List ℕ)
manifest_part_names None = []
manifest_part_names (Some manifest) = filter_map (file_of_part manifest) parts_in_order

abbrev pub part_names : (manifest : List ℕ) → List (List ℕ)
part_names manifest = manifest_part_names (result_ok (manifest_of manifest))

-- the plain files of these names, which stand in the manifest's folder or below
abbrev pub part_files : (set : List ℕ) → List (List ℕ) → List WantedFile
part_files set names = map (standing_by set) names

-- what was read of a part: it has the name, and the bytes of the file that this names
pub record IsPart (finds : FindsFile) (set name : List ℕ) (part : NamedFile) : Type 0 where
  pub name_is : string_bytes part.name ≡ name
  pub found : MayFind finds (standing_by set name) (Some part.bytes.items)

abbrev pub HasParts : FindsFile → (set : List ℕ) → List (List ℕ) → List NamedFile → Type 0
HasParts finds set [] [] = ⊤
HasParts finds set (name ∷ names) (part ∷ parts) = IsPart finds set name part × HasParts finds set names parts
HasParts finds set names parts = ⊥

-- what all files of a run have
pub record HasRead (finds : FindsFile) (asked : AskedRun) (given : Given) (parts : List NamedFile) : Type 0 where
  pub given_are : HasGivenFiles finds asked given
  pub parts_are : HasParts finds asked.set (part_names given.manifest.items) parts

-- all that the command line names was read, and this is the name of the first part that can't be
pub record PartUnread (finds : FindsFile) (asked : AskedRun) (name : List ℕ) : Type 0 where
  pub given : Given
  pub given_are : HasGivenFiles finds asked given
  pub first : FirstUnread finds (part_files asked.set (part_names given.manifest.items)) name

-- the name and the bytes of a part
abbrev pub told_part : Part → List ℕ × List ℕ
told_part part = (part.name.now, part.bytes.now)

abbrev pub told_file : NamedFile → List ℕ × List ℕ
told_file part = (string_bytes part.name, part.bytes.items)
