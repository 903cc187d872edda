-- Believed: the command line of the program as `clap` knows it, and what its words ask for.
use Rattle.std.specs.Prelude.{ℕ, Bool, true, false, pos, List, [], ◌∷◌, ◌++◌, ◌&&◌, Option, Some, None}
use Rattle.std.specs.Prelude.{if◌then◌else◌, codes, is_some, option_map, option_and_then}
use Rattle.std.specs.Option.{option_map_or}
use Rattle.std.specs.Str.{bytes_eq}
use Rattle.std.specs.Str.Parse.{digits_value, without_leading_plus}
use Rattle.clap.specs.Words.{App, Kinds, Row, Rule, Shape, Text, fault_of, first_of, new_rule, one_of, subcommand_of}
use Rattle.clap.specs.Simple.{new_shape}
use Rattle.clap.specs.Kinds.{or_else}
use Rattle.clap.specs.Takes.{is_given}
use Rattle.clap.specs.ValueTests.{is_unsigned_in}
use Rattle.clap.specs.declared.builder.action.ArgAction.TheVariants.{SetTrue}
use Rattle.clap.specs.declared.error.kind.ErrorKind.TheVariants.{ArgumentConflict, MissingRequiredArgument}
use Rattle.clap.specs.declared.builder.value_parser.ValueParser.TheVariants as parser

-- ---- what may be said

-- an argument with one value, whose name in the help is one word
abbrev pub argument : Text → Rule
argument name = record (new_rule name) { value_names = 1 }

-- `--name VALUE`, which may be left out
abbrev pub option : Text → Rule
option name = record (argument name) { long = Some name }

abbrev pub required_option : Text → Rule
required_option name = record (option name) { required = true }

-- `--name` alone
abbrev pub flag : Text → Rule
flag name = record (new_rule name) { long = Some name; action = Some SetTrue }

-- a word that stands by itself, and has to be there
abbrev pub required_place : Text → Rule
required_place name = record (argument name) { required = true }

-- the byte of the DIP switches, C9H where it is not given
abbrev pub dip_option : Rule
dip_option = record (option (codes "dip")) {
  parser = Some (parser.Signed (pos 0) (pos 255));
  defaults = codes "201" ∷ [];
}

abbrev pub run_rules : List Rule
run_rules = required_option (codes "set") ∷ required_option (codes "script") ∷ required_option (codes "frames")
    ∷ required_option (codes "wave") ∷ required_option (codes "listing") ∷ option (codes "source") ∷ flag (codes "whole") ∷ dip_option
    ∷ []

-- a run, and the states that it begins and ends with
abbrev pub play_rules : List Rule
play_rules = run_rules ++ option (codes "load") ∷ option (codes "save") ∷ []

abbrev pub debug_rules : List Rule
debug_rules = run_rules ++ required_option (codes "commands") ∷ []

abbrev pub asm_rules : List Rule
asm_rules = required_place (codes "source") ∷ required_option (codes "rom") ∷ required_option (codes "listing") ∷ []

abbrev pub dis_rules : List Rule
dis_rules = required_place (codes "file") ∷ []

abbrev pub command : Text → List Rule → Shape
command name rules = record (new_shape name) { rules = rules }

abbrev pub asm_command : Shape
asm_command = command (codes "asm") asm_rules

abbrev pub run_command : Shape
run_command = command (codes "run") play_rules

abbrev pub debug_command : Shape
debug_command = command (codes "debug") debug_rules

abbrev pub dis_command : Shape
dis_command = command (codes "dis") dis_rules

-- the program: one of four subcommands has to be there
unfoldable pub pacboard : App
pacboard = record {
  top = record (new_shape (codes "pacboard")) {
    is_leaf = false;
    has_version = true;
    subcommand_required = true;
    disable_help_subcommand = true;
  };
  subs = asm_command ∷ run_command ∷ debug_command ∷ dis_command ∷ [];
}

-- ---- what was said

pub record AskedAsm : Type 0 where
  pub source : Text
  pub rom : Text
  pub listing : Text

-- a run; `whole` says that its outputs take their places once all of them are whole
pub record AskedRun : Type 0 where
  pub set : Text
  pub script : Text
  pub frames : Text
  pub wave : Text
  pub listing : Text
  pub source : Option Text
  pub whole : Bool
  pub dip : ℕ

-- a run, and the names of the states that it begins and ends with
pub record AskedPlay : Type 0 where
  pub run : AskedRun
  pub load : Option Text
  pub save : Option Text

pub record AskedDebug : Type 0 where
  pub run : AskedRun
  pub commands : Text

pub data Asked : Type 0 where
  asm : AskedAsm → Asked
  run : AskedPlay → Asked
  debug : AskedDebug → Asked
  dis : Text → Asked

-- the number from 0 to 255 that a text spells in decimal, where it spells one
abbrev pub byte_of_text : Text → Option ℕ
byte_of_text text = if is_unsigned_in 0 255 text then Some (digits_value 10 (without_leading_plus text)) else None

abbrev pub asked_asm : List Row → Option AskedAsm
asked_asm rows =
    option_and_then (λ source.
    option_and_then (λ rom.
    option_map (λ listing. record { source = source; rom = rom; listing = listing })
    (first_of (codes "listing") rows))
    (first_of (codes "rom") rows))
    (first_of (codes "source") rows)

abbrev pub asked_run : List Row → Option AskedRun
asked_run rows =
    option_and_then (λ set.
    option_and_then (λ script.
    option_and_then (λ frames.
    option_and_then (λ wave.
    option_and_then (λ listing.
    option_map (λ dip. record {
      set = set;
      script = script;
      frames = frames;
      wave = wave;
      listing = listing;
      source = first_of (codes "source") rows;
      whole = is_given (codes "whole") rows;
      dip = dip;
    })
    (option_and_then byte_of_text (one_of (codes "dip") rows)))
    (first_of (codes "listing") rows))
    (first_of (codes "wave") rows))
    (first_of (codes "frames") rows))
    (first_of (codes "script") rows))
    (first_of (codes "set") rows)

abbrev pub asked_play : List Row → Option AskedPlay
asked_play rows =
    option_map (λ run. record { run = run; load = first_of (codes "load") rows; save = first_of (codes "save") rows })
    (asked_run rows)

abbrev pub asked_debug : List Row → Option AskedDebug
asked_debug rows =
    option_and_then (λ run.
    option_map (λ commands. record { run = run; commands = commands })
    (first_of (codes "commands") rows))
    (asked_run rows)

abbrev pub asked_dis : List Row → Option Text
asked_dis rows = first_of (codes "file") rows

-- what a subcommand asks for with the values of its words
abbrev pub asked_command : Text × List Row → Option Asked
asked_command p =
    if bytes_eq p.0 (codes "asm") then option_map asm (asked_asm p.1)
    else (if bytes_eq p.0 (codes "run") then option_map run (asked_play p.1)
    else (if bytes_eq p.0 (codes "debug") then option_map debug (asked_debug p.1)
    else (if bytes_eq p.0 (codes "dis") then option_map dis (asked_dis p.1) else None)))

-- ---- what is refused

-- the words give both a state to begin with and the DIP switches, which stand in that state
abbrev pub has_conflict : List Row → Bool
has_conflict rows = is_given (codes "load") rows && is_given (codes "dip") rows

-- the kinds of error of a subcommand with the values of its words, where `clap` finds none
abbrev pub conflict_of : Option (Text × List Row) → Kinds
conflict_of chosen =
    if option_map_or (λ p. bytes_eq p.0 (codes "run") && has_conflict p.1) chosen false then ArgumentConflict ∷ [] else []

-- and where the words don't say all that a subcommand needs
abbrev pub lack_of : Option Asked → Kinds
lack_of asked = if is_some asked then [] else MissingRequiredArgument ∷ []

-- those of our own: that one, and then this one
abbrev pub own_faults_of : Option (Text × List Row) → Kinds
own_faults_of chosen = or_else (conflict_of chosen) (lack_of (option_and_then asked_command chosen))

-- the kinds of error that a command line may have, by its words, the program's name first: those of `clap`, and then our own
unfoldable pub faults_of : List Text → Kinds
faults_of words = or_else (fault_of pacboard words) (own_faults_of (subcommand_of pacboard words))

-- what is asked for where nothing is refused
abbrev pub unless_refused : Kinds → Option Asked → Option Asked
unless_refused [] asked = asked
unless_refused (kind ∷ more) asked = None

-- what a command line asks for, by its words, the program's name first
unfoldable pub request_of : List Text → Option Asked
request_of words = unless_refused (faults_of words) (option_and_then asked_command (subcommand_of pacboard words))

-- ---- what the code tells
