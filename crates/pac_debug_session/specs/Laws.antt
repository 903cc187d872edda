-- Law: laws of what a session gives, each proved on a public function of the crate.
use Rattle.std.specs.Prelude.{◌≡◌, ◌≤◌, ℕ, ◌++◌}
use Rattle.pac_debug_session.specs.Running.{Setting, outputs_between}
use Rattle.pac_debug_session.specs.RunningLaws.{whole_run, outputs_from}

-- From the first index on all of a run's outputs are given.
abbrev pub AllIsGiven : Type 0
AllIsGiven = (setting : Setting) → outputs_from setting 0 ≡ (whole_run setting).outputs

-- What is given up to an index, and from there to a later one or to the end, is what is given at once: no output is left out, and none
-- is given twice.
pub record IsGivenOnce (setting : Setting) (from index later : ℕ) : Type 0 where
  pub between : outputs_between setting from index ++ outputs_between setting index later ≡ outputs_between setting from later
  pub to_end : outputs_between setting from index ++ outputs_from setting index ≡ outputs_from setting from

abbrev pub EachIsGivenOnce : Type 0
EachIsGivenOnce = (setting : Setting) (from index later : ℕ) → from ≤ index → index ≤ later → IsGivenOnce setting from index later
