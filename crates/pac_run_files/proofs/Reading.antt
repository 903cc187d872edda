-- Files that are read one after another.
use Rattle.pac_run_files.proofs.Common.{Err, FindsFile, FirstUnread, Global, HasParts, IsPart, IsUnread, Leads, List, MayFind, Memory}
use Rattle.pac_run_files.proofs.Common.{NamedFile, None, Ok, Option, Plain, ReadFault, ReadsFiles, Result, Some, Unreadable, Vec, []}
use Rattle.pac_run_files.proofs.Common.{folder_of, inl, inr, is_within_folder, part_files, standing_by, true, ℕ, ◌++◌, ◌∷◌, ◌≡◌}

module _ (finds : FindsFile) where
  -- after files that can be read, one that can't is the first
  pub unread-after : (set : List ℕ) (names : List (List ℕ)) (parts : List NamedFile) (name : List ℕ) (more : List (List ℕ)) (told : List ℕ)
      → HasParts finds set names parts → IsUnread finds (standing_by set name) told
      → FirstUnread finds (part_files set (names ++ name ∷ more)) told
  unread-after set [] [] name more told read unread = inl unread
  unread-after set (one ∷ names) (part ∷ parts) name more told read unread =
      inr ((record { bytes = part.bytes.items; found = read.0.found }), unread-after set names parts name more told read.1 unread)
  unread-after set _ _ name more told read unread = absurd read

  -- one part more
  pub part-more : (set : List ℕ) (names : List (List ℕ)) (parts : List NamedFile) (name : List ℕ) (part : NamedFile)
      → HasParts finds set names parts → IsPart finds set name part → HasParts finds set (names ++ name ∷ []) (parts ++ part ∷ [])
  part-more set [] [] name part read last = (last, tt)
  part-more set (one ∷ names) (file ∷ parts) name part read last = (read.0, part-more set names parts name part read.1 last)
  part-more set _ _ name part read last = absurd read

-- a fault of one file, as that of all
pub as-first : {A B : Type 0} (one : A → Type 0) (all : B → Type 0) (unread first : List ℕ → Type 0) (fault : ReadFault)
    → ((told : List ℕ) → unread told → first told) → ReadsFiles one unread (Err fault) → ReadsFiles all first (Err fault)
as-first one all unread first (Unreadable name) onward reads = onward name.now reads
as-first one all unread first Memory onward reads = tt

module _ (finds : FindsFile) (set name path : List ℕ) (within : is_within_folder name ≡ true)
    (leads : Leads finds.link (folder_of set) name (Some path)) where
  -- what is found at the path to which a name leads is what the name's file may have
  found-there : (found : Option (List ℕ)) → finds.bytes Plain path found → MayFind finds (standing_by set name) found
  found-there found there = record {
    path = Some path;
    placed = rw within leads;
    found_there = there;
  }

  pub placed-reads : (result : Result (Vec ℕ Global) ReadFault)
      → ReadsFiles (λ bytes. finds.bytes Plain path (Some bytes.items)) (λ told. (told ≡ name) × finds.bytes Plain path None) result
      → ReadsFiles (λ bytes. MayFind finds (standing_by set name) (Some bytes.items)) (IsUnread finds (standing_by set name)) result
  placed-reads (Ok bytes) read = found-there (Some bytes.items) read
  placed-reads (Err (Unreadable told)) read = record { name_is = read.0; found = found-there None read.1 }
  placed-reads (Err Memory) read = tt
