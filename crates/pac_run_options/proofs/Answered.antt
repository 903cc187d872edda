-- What the words of a command line ask for, or what is wrong with them, from what clap says of them.
use Rattle.pac_run_options.proofs.Common.{App, ArgMatches, Asked, Err, Error, FailsBy, HasKind, HasMatchesOf, IfOk, Kinds, List, Ok, Option}
use Rattle.pac_run_options.proofs.Common.{Request, Result, Row, Some, Text, [], ap, arith, asked_command, fault_of, faults_of, is_simple}
use Rattle.pac_run_options.proofs.Common.{is_simple_and_free, option_and_then, or_else, own_faults_of, pacboard, refl, request_of, rules}
use Rattle.pac_run_options.proofs.Common.{subcommand_of, subcommand_rows_of, sym, told_request, true, ◌∙◌, ◌≡◌}

-- ---- from the command as it was made

simple : is_simple pacboard ≡ true
unfolding pacboard
simple = refl

free : is_simple_and_free pacboard ≡ true
unfolding pacboard
free = refl

pub no_fault : (app : App) (words : List Text) → app ≡ pacboard → (is_simple_and_free app ≡ true → fault_of app words ≡ [])
    → fault_of pacboard words ≡ []
no_fault app words is h = ap (λ (a : App). fault_of a words) (sym is) ∙ h (ap is_simple_and_free is ∙ free)

pub its_command : (app : App) (words : List Text) (m : ArgMatches) → app ≡ pacboard → HasMatchesOf app words m
    → subcommand_rows_of m ≡ subcommand_of pacboard words
its_command app words m is h = (h (ap is_simple is ∙ simple)).1 ∙ ap (λ (a : App). subcommand_of a words) is

-- an error of the first kinds is one of both
pub of_first : (e : Error) (kinds more : Kinds) → HasKind kinds e → HasKind (or_else kinds more) e
of_first e kinds more h = search rules

-- an error of clap is one of the command line
pub its_fault : (app : App) (words : List Text) (e : Error) → app ≡ pacboard
    → (is_simple_and_free app ≡ true → HasKind (fault_of app words) e) → HasKind (faults_of words) e
unfolding faults_of
its_fault app words e is h = grind (arith, free, of_first)

-- ---- where clap finds no fault

module _ (words : List Text) (command : Option (Text × List Row)) (none : fault_of pacboard words ≡ [])
    (is : command ≡ subcommand_of pacboard words) where
  -- the errors are our own
  own_left : faults_of words ≡ own_faults_of command
  unfolding faults_of
  own_left = ap (λ (kinds : Kinds). or_else kinds (own_faults_of (subcommand_of pacboard words))) none ∙ ap own_faults_of (sym is)

  pub its_refusal : (r : Result Request Error) → FailsBy (own_faults_of command) r → FailsBy (faults_of words) r
  its_refusal r fails = rw own_left fails

  -- and the request is what the words ask for
  its_request : (x : Asked) → own_faults_of command ≡ [] → option_and_then asked_command command ≡ Some x → request_of words ≡ Some x
  unfolding request_of
  its_request x fine asked = grind (arith, own_left)

  pub its_answer : (r : Result Request Error) → IfOk r (λ request. option_and_then asked_command command ≡ Some (told_request request))
      → FailsBy (own_faults_of command) r → IfOk r (λ request. request_of words ≡ Some (told_request request))
  its_answer (Ok request) asked fine = its_request (told_request request) fine asked
  its_answer (Err e) asked fails = tt
