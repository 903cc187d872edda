-- From what clap's getters answer to the rows.
use Rattle.pac_run_options.proofs.Common.{ArgMatches, Bool, Bor, Box, CommandLine, DefaultValue, Found, List, None, Option, Row, Some}
use Rattle.pac_run_options.proofs.Common.{SubCommand, Text, ValueSource, arith, box_value, false, found_of, is_given, is_some, matched_of}
use Rattle.pac_run_options.proofs.Common.{option_and_then, option_map, out-SubCommand, present_row, rows_of, rules, subcommand_rows, true}
use Rattle.pac_run_options.proofs.Common.{◌≡◌}

-- whether the words give an option, by where its values came from and whether there are any
abbrev pub given_by : Option ValueSource → Bool → Bool
given_by (Some DefaultValue) there = false
given_by (Some CommandLine) there = true
given_by None there = there

pub given_by-source : (f : Found) (id : Text) (source : Option ValueSource) → source ≡ option_and_then (λ a. a.source) (matched_of f id)
    → given_by source (is_some (matched_of f id)) ≡ is_given id (rows_of f)
given_by-source f id source is = grind (arith, present_row)

module _ {Z : Type 0} where
  pub entered_rows : (sub : Option (Box SubCommand Z)) (name : Bor Text) (values : Bor ArgMatches)
      → Some name.now ≡ option_map (λ b. (out-SubCommand (box_value b)).name.now) sub
      → Some (rows_of (found_of values.now)) ≡ option_map (λ (p : Text × List Row). p.1) (subcommand_rows sub)
      → subcommand_rows sub ≡ Some (name.now, rows_of (found_of values.now))
  entered_rows sub name values named rows = search rules
