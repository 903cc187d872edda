-- For proofs: the rule that a row of the code states of an argument.
use Rattle.clap.specs.Words.{Rule}
use Rattle.pac_run_options.specs.CommandLine.{dip_option, flag, option, required_option, required_place}
use Rattle.pac_run_options.specs.declared.command.Argument.{Argument}
use Rattle.pac_run_options.specs.declared.command.Argument.TheVariants as argument

abbrev pub told_argument : Argument → Rule
told_argument (argument.Place name value help) = required_place name.now
told_argument (argument.Required name help) = required_option name.now
told_argument (argument.Optional name help) = option name.now
told_argument (argument.Flag name help) = flag name.now
told_argument argument.Switches = dip_option
