-- Which vector bytes mode 0 takes: computed for each byte.
use Rattle.pac_cpu_vectors.proofs.Common.{Bool, List, OnlyTheseAreRestarts, ap, false, get_or, get_or-tabulate, is_restart, list_any, refl}
use Rattle.pac_cpu_vectors.proofs.Common.{restart_codes, sym, tabulate, ℕ, ◌==◌, ◌∙◌, ◌≡◌}

abbrev is_listed : ℕ → Bool
is_listed byte = list_any (λ code. code == byte) restart_codes

computed : tabulate 256 is_restart ≡ tabulate 256 is_listed
unfolding tabulate
computed = refl

pub only-restarts : OnlyTheseAreRestarts
only-restarts byte below =
    sym (get_or-tabulate 256 is_restart byte false below)
    ∙ ap (λ (list : List Bool). get_or list byte false) computed
    ∙ get_or-tabulate 256 is_listed byte false below
