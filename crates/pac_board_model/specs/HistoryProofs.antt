-- For proofs: what proofs say of the definitions of History.antt.
use Rattle.pac_map.specs.View.{View}
use Rattle.std.specs.Prelude.{List, [], ◌∷◌}
use Rattle.pac_map.specs.Entry.{Entry, view_after}

abbrev pub view_after_entries : View → List Entry → View
view_after_entries start [] = start
view_after_entries start (entry ∷ older) = view_after (view_after_entries start older) entry
