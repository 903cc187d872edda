-- What building a command makes of what clap reads of it.
use Rattle.pac_run_options.proofs.Common.{AddsArg, AddsInTurn, AddsSubcommand, App, Arg, Argument, Command, IfOk, IfOk-weaker, List, Ok}
use Rattle.pac_run_options.proofs.Common.{Result, Rule, Text, [], add-one, ap, app_of, app_of_command, append-nil, append_assoc, ap₂, arith}
use Rattle.pac_run_options.proofs.Common.{both, command, common_steps, drop, drop-cons, false, fold, get_or, is_simple_arg, length}
use Rattle.pac_run_options.proofs.Common.{list_all, map, map-append, out-Command, rule_of, rules, shape_of, sym, told_argument, true}
use Rattle.pac_run_options.proofs.Common.{with_rule, with_subcommand, ℕ, ◌++◌, ◌+◌, ◌<◌, ◌∙◌, ◌∷◌, ◌≡◌}

-- ---- what holds for no subcommand

-- an argument that is simple isn't global
local-arg : (a : Arg) → is_simple_arg a ≡ true → a.global ≡ false
local-arg a e = search rules

-- and a command that is plain has none that is
local-command : (c : Command) → (shape_of c).is_plain ≡ true → (out-Command c).has_globals ≡ false
local-command c e = search rules

-- ---- arguments

told-simple : (row : Argument) → (told_argument row).is_simple ≡ true
told-simple row = search rules

-- one more argument, of those that are to be added by their rows
pub one-fewer : (rows : List Argument) (i : ℕ) (d : Argument) (args new : List Arg) (a : Arg) (total : List Rule)
    → map rule_of args ++ map told_argument (drop i rows) ≡ total → new ≡ args ++ a ∷ [] → rule_of a ≡ told_argument (get_or rows i d)
    → i < length rows → map rule_of new ++ map told_argument (drop (i + 1) rows) ≡ total
one-fewer rows i d args new a total before joined is below =
    rw (joined, map-append rule_of args (a ∷ []), append_assoc, is) (rw (← before, drop-cons rows i d below, add-one i))

-- the arguments of some rows, added in turn to a command with others
added : (rows : List Argument) (args : List Arg) (old new : Command) (name : Text) (first : List Rule)
    → map rule_of args ≡ map told_argument rows → app_of old ≡ app_of_command (command name first) → AddsInTurn AddsArg old args new
    → app_of new ≡ app_of_command (command name (first ++ map told_argument rows))
added [] [] old new name first is before same = rw (append-nil first, ← same) before
added (row ∷ rows) (a ∷ args) old new name first is before h =
    let rule : rule_of a ≡ told_argument row = cc in
    let rest : map rule_of args ≡ map told_argument rows = cc in
    let local = local-arg a (ap (λ (r : Rule). r.is_simple) rule ∙ told-simple row) in
    let with_one : app_of h.0 ≡ app_of_command (command name (first ++ told_argument row ∷ [])) =
    h.1.shape local ∙ ap₂ with_rule before rule in
    grind (arith, common_steps, added rows args h.0 new name (first ++ told_argument row ∷ []) rest with_one h.2)
added rows args old new name first is before h = absurd (cc)

-- the rules of some arguments and others, added to none
pub both-added : (none first all : List Arg) (shared own : List Argument) → none ≡ []
    → map rule_of first ≡ map rule_of none ++ map told_argument shared → map rule_of all ≡ map rule_of first ++ map told_argument own
    → map rule_of all ≡ map told_argument shared ++ map told_argument own
both-added none first all shared own is some more = search rules

-- a command with what others take too, and then its own
pub with-rows : (shared own : List Argument) (args : List Arg) (old new : Command) (name : Text)
    → map rule_of args ≡ map told_argument shared ++ map told_argument own → app_of old ≡ app_of_command (command name [])
    → AddsInTurn AddsArg old args new → app_of new ≡ app_of_command (command name (map told_argument shared ++ map told_argument own))
with-rows shared own args old new name is before h =
    let joined = map-append told_argument shared own in
    added (shared ++ own) args old new name [] (is ∙ sym joined) before h ∙ ap (λ rules. app_of_command (command name rules)) joined

-- ---- subcommands

-- a list with one more, where both were made
pub one-more : {L E : Type 0} (items : L → List Command) (before : Result L E) (made : Result Command E) (after : Result L E)
    (apps : List App) (app : App)
    → IfOk after (λ r. (old : L) × (new : Command) × (before ≡ Ok old) × (made ≡ Ok new) × (items r ≡ items old ++ new ∷ []))
    → IfOk before (λ v. map app_of (items v) ≡ apps) → IfOk made (λ c. app_of c ≡ app)
    → IfOk after (λ v. map app_of (items v) ≡ apps ++ app ∷ [])
one-more items before made after apps app joined some one = IfOk-weaker after _ _ (λ r h. grind (arith, map-append)) joined

-- subcommands added in turn to a program that has some
pub added-commands : (apps : List App) (subs : List Command) (old new : Command) (app : App)
    → list_all (λ below. below.top.is_plain) apps ≡ true → map app_of subs ≡ apps → app_of old ≡ app
    → AddsInTurn AddsSubcommand old subs new → app_of new ≡ fold (λ top below. with_subcommand top below.top) app apps
added-commands [] [] old new app plain is before same = rw (← same) before
added-commands (below ∷ apps) (sub ∷ subs) old new app plain is before h =
    let parts = both below.top.is_plain _ plain in
    let same : app_of sub ≡ below = cc in
    let rest : map app_of subs ≡ apps = cc in
    let local = local-command sub (ap (λ (a : App). a.top.is_plain) same ∙ parts.0) in
    let with_one : app_of h.0 ≡ with_subcommand app below.top =
    h.1.shape local ∙ ap₂ with_subcommand before (ap (λ (a : App). a.top) same) in
    added-commands apps subs h.0 new (with_subcommand app below.top) parts.1 rest with_one h.2
added-commands apps subs old new app plain is before h = absurd (cc)
