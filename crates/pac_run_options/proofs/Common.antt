-- The words that proofs here, and those of crates above, import of definitions, of std and of the crates below.

pub use Rattle.clap.proofs.FaultLemmas.{failed_up}
pub use Rattle.clap.proofs.TakesLemmas.{present_row}
pub use Rattle.clap.proofs.ValueTestLemmas.{Accepts-accepts, accepts-Accepts}
pub use Rattle.clap.proofs.WalkLemmas.{both, first_value-rows, one_text-rows}
pub use Rattle.clap.specs.Kinds.{or_else}
pub use Rattle.clap.specs.Matches.{ReadsOne, matched_of, one_text}
pub use Rattle.clap.specs.Simple.{app_of_fields, shape_of, subcommand_rows, with_subcommand}
pub use Rattle.clap.specs.Takes.{is_given}
pub use Rattle.clap.specs.ValueTests.{is_unsigned_in}
pub use Rattle.clap.specs.Walk.{Row, Text, is_simple_arg, one_of, rows_of}
pub use Rattle.clap.specs.Words.{AddsArg, AddsInTurn, AddsSubcommand, App, FailsBy, HasKind, HasMatchesOf, Kinds, Rule, app_of, fault_of}
pub use Rattle.clap.specs.Words.{found_of, is_simple, is_simple_and_free, rule_of, subcommand_of, subcommand_rows_of, with_rule}
pub use Rattle.clap.specs.declared.builder.arg.Arg.{Arg}
pub use Rattle.clap.specs.declared.builder.command.Command.{Command}
pub use Rattle.clap.specs.declared.builder.command.Command.TheViews.{out-Command}
pub use Rattle.clap.specs.declared.error.Error.{Error}
pub use Rattle.clap.specs.declared.parser.matches.ArgMatches.{ArgMatches}
pub use Rattle.clap.specs.declared.parser.matches.ArgMatches.TheViews.{out-SubCommand}
pub use Rattle.clap.specs.declared.parser.matches.Found.{Found}
pub use Rattle.clap.specs.declared.parser.matches.SubCommand.{SubCommand}
pub use Rattle.clap.specs.declared.parser.matches.ValueSource.{ValueSource}
pub use Rattle.clap.specs.declared.parser.matches.ValueSource.TheVariants.{CommandLine, DefaultValue}
pub use Rattle.pac_run_options.specs.CommandLine.{Asked, AskedDebug, AskedPlay, AskedRun, asked_command, byte_of_text, command, conflict_of}
pub use Rattle.pac_run_options.specs.CommandLine.{own_faults_of}
unfoldable pub use Rattle.pac_run_options.specs.CommandLine.{faults_of, pacboard, request_of}
pub use Rattle.pac_run_options.specs.CommandLineProofs.{app_of_command, told_request}
pub use Rattle.pac_run_options.specs.Rows.{told_argument}
pub use Rattle.pac_run_options.specs.declared.command.Argument.{Argument}
pub use Rattle.pac_run_options.specs.declared.request.Request.{Request}
pub use Rattle.std.proofs.Common.{Bool, Err, IfOk, List, None, Ok, Option, Result, Some, [], add-one, ap, append-nil, append_assoc, ap₂}
pub use Rattle.std.proofs.Common.{arith, codes, cond, drop, drop-cons, false, fold, get_or, is_some, length, map, option_map, refl, rules}
pub use Rattle.std.proofs.Common.{sym, true, ℕ, ◌++◌, ◌+◌, ◌<◌, ◌^◌, ◌∙◌, ◌∷◌, ◌≡◌}
pub use Rattle.std.proofs.lemmas.Grind.{common_steps}
pub use Rattle.std.proofs.lemmas.List.{map-append}
pub use Rattle.std.proofs.lemmas.Result.{IfOk-weaker}
pub use Rattle.std.specs.Borrow.{Bor}
pub use Rattle.std.specs.Box.{box_value}
pub use Rattle.std.specs.List.{list_all}
pub use Rattle.std.specs.Prelude.{Box, option_and_then, pos}
pub use Rattle.std.specs.Str.Parse.{ExplainsUnsignedError, HasUnsignedDigitsIfOk, IsNumeral, ParsesUnsigned, digits_value}
pub use Rattle.std.specs.Str.Parse.{without_leading_plus}
