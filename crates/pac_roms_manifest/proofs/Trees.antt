-- A document's table, by what its reader says of it.
use Rattle.pac_roms_manifest.proofs.Common.{IsUtf8, IsUtf8-from_is_utf8, List, Members, None, Some, arith, cases_Bool, document_table}
use Rattle.pac_roms_manifest.proofs.Common.{is_utf8-from_IsUtf8, parse_document, ℕ, ◌≡◌}

pub tree_found : (text : List ℕ) (tree : Members) → IsUtf8 text → parse_document text ≡ Some tree → document_table text ≡ Some tree
tree_found text tree utf8 found = rw (is_utf8-from_IsUtf8 text utf8) found

pub no_tree : (text : List ℕ) → (IsUtf8 text → parse_document text ≡ None) → document_table text ≡ None
no_tree text none = grind (arith, IsUtf8-from_is_utf8, cases_Bool)
