-- Believed: what reading the files of a command line comes to, and beginning its outputs. A file system says by relations what a read of
-- a path may find, and what each call that changes it leaves.
use Rattle.std.specs.Prelude.{◌≡◌, ◌≤◌, ◌⊎◌, ⊤, ℕ, Bool, true, false, List, [], ◌∷◌, length, codes, unwrap_or}
use Rattle.std.specs.Prelude.{if◌then◌else◌, ◌==◌}
use Rattle.std.specs.Prelude.{Vec, Option, Some, None, IfSome, Result, Ok, Err}
use Rattle.std.specs.declared.alloc.Global.{Global}
use Rattle.pac_out.specs.declared.WriteFault.{WriteFault}
use Rattle.pac_run_files.specs.Names.{slash, is_within_folder}
use Rattle.pac_run_files.specs.Links.{FindsLink, Leads}
use Rattle.pac_run_files.specs.declared.files.FileKind.{FileKind}
use Rattle.pac_run_files.specs.declared.files.FileKind.TheVariants.{Any, Plain}
use Rattle.pac_run_files.specs.declared.files.ReadError.{ReadError}
use Rattle.pac_run_files.specs.declared.files.ReadError.TheVariants as reading

-- the most bytes of a file that is read, 16 MiB (this profile)
abbrev pub most_read : ℕ
most_read = 16777216

-- What may be found in one state of the files: by a read of a path, where any kind of file will do or a plain one is wanted; and of the
-- links among the names of a folder.
pub record FindsFile : Type 1 where
  pub bytes : FileKind → (path : List ℕ) → Option (List ℕ) → Type 0
  pub link : FindsLink

-- one read, by its answer; for want of memory anything may be there
abbrev pub IsFound : (found : Option (List ℕ) → Type 0) → Result (Vec ℕ Global) ReadError → Type 0
IsFound found (Ok bytes) = found (Some bytes.items) × (length bytes.items ≤ most_read)
IsFound found (Err reading.Memory) = ⊤
IsFound found (Err other) = found None

-- What a read of a file of the machine may find: the bytes that an opened file had left, as far as they are known. No contract says
-- which file a path opens.
abbrev pub IsOfMachine : {File : Type 0} → (left : File → Option (List ℕ)) → Option (List ℕ) → Type 0
IsOfMachine {File} left (Some bytes) = (file : File) × IfSome (left file) (λ known. bytes ≡ known)
IsOfMachine left None = ⊤

-- no contract says which links there are
abbrev pub found_on_machine : {File : Type 0} → (left : File → Option (List ℕ)) → FindsFile
found_on_machine left = record {
  bytes = λ kind path found. IsOfMachine left found;
  link = λ folder name found. ⊤;
}

-- ---- paths

-- what stands before the last slash of a path, if it has one
abbrev pub put_before : ℕ → Option (List ℕ) → Option (List ℕ)
put_before byte (Some front) = Some (byte ∷ front)
put_before byte None = if byte == slash then Some [] else None

abbrev pub before_slash : List ℕ → Option (List ℕ)
before_slash [] = None
before_slash (byte ∷ path) = put_before byte (before_slash path)

-- the folder of a file: what stands before its last slash, or the present folder
abbrev pub folder_of : List ℕ → List ℕ
folder_of path = unwrap_or (before_slash path) (codes ".")

-- ---- reading

-- A file that is to be read: its kind, the folder that it has to be in, if there is one, and its path, or its name from that folder on. A
-- fault tells it by this name.
pub record WantedFile : Type 0 where
  pub kind : FileKind
  pub within : Option (List ℕ)
  pub name : List ℕ

-- a file of any kind, whose path is the name that was given
abbrev pub as_given : List ℕ → WantedFile
as_given name = record { kind = Any; within = None; name = name }

-- a plain file that a manifest names, in the folder of the manifest or below
abbrev pub standing_by : (manifest name : List ℕ) → WantedFile
standing_by manifest name = record { kind = Plain; within = Some (folder_of manifest); name = name }

-- The path of a file, if it has one. In a folder that is where its name leads, if it is the name of a file of the folder.
abbrev pub LeadsIf : (is_within : Bool) → FindsLink → (folder name : List ℕ) → Option (List ℕ) → Type 0
LeadsIf true finds folder name place = Leads finds folder name place
LeadsIf false finds folder name place = place ≡ None

abbrev pub IsPlaced : FindsLink → (within : Option (List ℕ)) → (name : List ℕ) → Option (List ℕ) → Type 0
IsPlaced finds None name place = place ≡ Some name
IsPlaced finds (Some folder) name place = LeadsIf (is_within_folder name) finds folder name place

-- what reading a path may find; without a path there is nothing
abbrev pub FindsAt : FindsFile → FileKind → (path : Option (List ℕ)) → Option (List ℕ) → Type 0
FindsAt finds kind (Some path) found = finds.bytes kind path found
FindsAt finds kind None None = ⊤
FindsAt finds kind None (Some bytes) = ⊥

-- what reading a file may find
pub record MayFind (finds : FindsFile) (file : WantedFile) (found : Option (List ℕ)) : Type 0 where
  pub path : Option (List ℕ)
  pub placed : IsPlaced finds.link file.within file.name path
  pub found_there : FindsAt finds file.kind path found

-- a file that can be read
pub record IsReadable (finds : FindsFile) (file : WantedFile) : Type 0 where
  pub bytes : List ℕ
  pub found : MayFind finds file (Some bytes)

-- a file of this name that can't be read
pub record IsUnread (finds : FindsFile) (file : WantedFile) (name : List ℕ) : Type 0 where
  pub name_is : name ≡ file.name
  pub found : MayFind finds file None

-- this is the name of the first of these files that can't be read
abbrev pub FirstUnread : FindsFile → List WantedFile → List ℕ → Type 0
FirstUnread finds [] name = ⊥
FirstUnread finds (file ∷ more) name = IsUnread finds file name ⊎ (IsReadable finds file × FirstUnread finds more name)

-- ---- writing

-- what beginning a file of a path, or failing to, leaves
abbrev pub BeginsFile : (Disk File : Type 0) → Type 1
BeginsFile Disk File = Disk → (path : List ℕ) → Option File → Disk → Type 0

-- What a file system leaves by each call that changes it: where a file of a path was created, or couldn't be; where it is closed as it
-- is; where a draft for a path was begun, or couldn't be; where the system wrote a draft out, or couldn't; where a draft took the place of
-- the path's file, or couldn't; where a draft was thrown away. A fault has the count of the bytes that the draft took.
pub record Handling (Disk File : Type 0) : Type 1 where
  pub creates : BeginsFile Disk File
  pub closes : Disk → File → Disk → Type 0
  pub drafts : BeginsFile Disk File
  pub syncs : Disk → File → Result Unit WriteFault → Disk → Type 0
  pub publishes : Disk → (path : List ℕ) → File → Result Unit WriteFault → Disk → Type 0
  pub discards : Disk → (path : List ℕ) → File → Disk → Type 0

-- a file system of which no contract says what its calls leave
abbrev pub nothing_known : {Disk File : Type 0} → Handling Disk File
nothing_known = record {
  creates = λ old path file new. ⊤;
  closes = λ old file new. ⊤;
  drafts = λ old path draft new. ⊤;
  syncs = λ old draft done new. ⊤;
  publishes = λ old path draft done new. ⊤;
  discards = λ old path draft new. ⊤;
}

-- an output that is to be begun: which it is, its path, and whether it is begun as a draft
pub record WantedOutput (Which : Type 0) : Type 0 where
  pub output : Which
  pub path : List ℕ
  pub is_draft : Bool

-- one that is created, or emptied; and one whose draft takes its place once it is whole
abbrev pub created_empty : {Which : Type 0} → Which → (path : List ℕ) → WantedOutput Which
created_empty output path = record { output = output; path = path; is_draft = false }

abbrev pub drafted : {Which : Type 0} → Which → (path : List ℕ) → WantedOutput Which
drafted output path = record { output = output; path = path; is_draft = true }

-- what beginning it, or failing to, leaves
abbrev pub begins_by : {Disk File : Type 0} → Handling Disk File → (is_draft : Bool) → BeginsFile Disk File
begins_by handling true = handling.drafts
begins_by handling false = handling.creates

abbrev pub IsBegun : {Disk File Which : Type 0} → Handling Disk File → Disk → WantedOutput Which → Option File → Disk → Type 0
IsBegun handling old wanted file new = begins_by handling wanted.is_draft old wanted.path file new

-- these outputs were begun, one after another
abbrev pub AllBegun : {Disk File Which : Type 0} → Handling Disk File → Disk → List (WantedOutput Which) → List File → Disk → Type 0
AllBegun handling old [] [] new = new ≡ old
AllBegun {Disk} handling old (wanted ∷ more) (file ∷ files) new =
    (between : Disk) × IsBegun handling old wanted (Some file) between × AllBegun handling between more files new
AllBegun handling old wanted files new = ⊥

-- these files were closed, one after another
abbrev pub AllClosed : {Disk File : Type 0} → Handling Disk File → Disk → List File → Disk → Type 0
AllClosed handling old [] new = new ≡ old
AllClosed {Disk} handling old (file ∷ files) new =
    (between : Disk) × handling.closes old file between × AllClosed handling between files new

-- an output that was begun is let go: a draft is thrown away, and a file that was created is closed as it is
abbrev pub lets_go_by : {Disk File : Type 0} → Handling Disk File → (is_draft : Bool) → Disk → (path : List ℕ) → File → Disk → Type 0
lets_go_by handling true old path file new = handling.discards old path file new
lets_go_by handling false old path file new = handling.closes old file new

abbrev pub IsLetGo : {Disk File Which : Type 0} → Handling Disk File → Disk → WantedOutput Which → File → Disk → Type 0
IsLetGo handling old wanted file new = lets_go_by handling wanted.is_draft old wanted.path file new

-- this is the first of these outputs that couldn't be begun; those before it were, and are let go, the last one first
abbrev pub FirstUnbegun : {Disk File Which : Type 0} → Handling Disk File → Disk → List (WantedOutput Which) → Which → Disk → Type 0
FirstUnbegun handling old [] output new = ⊥
FirstUnbegun {Disk} {File} handling old (wanted ∷ more) output new =
    ((output ≡ wanted.output) × IsBegun {File = File} handling old wanted None new)
    ⊎ ((file : File) × (begun : Disk) × IsBegun handling old wanted (Some file) begun
    × (left : Disk) × FirstUnbegun handling begun more output left × IsLetGo handling left wanted file new)
