use Rattle.pac_run_options.proofs.Common.{IfOk-weaker, ap, app_of_fields, ◌∙◌}
use Rattle.pac_run_options.proofs.Commands.{both-added, with-rows}

pub returns : Rattle.pac_run_options.proofs.command.subcommand.Goals.returns
returns c =
    let shared = c.args.shared.now in
    let own = c.args.own.now in
    let all = c.add_arguments-2.new.arguments.items in
    let rules = both-added c.new-arguments.result.items c.add_arguments.new.arguments.items all shared own c.new-arguments.ensures.items
    c.in_ok-add_arguments.ensures c.in_ok-add_arguments-2.ensures in
    let begun = ap app_of_fields c.about.ensures ∙ c.new.ensures.app in
    IfOk-weaker c.args-2.result _ _ (λ r h. with-rows shared own all c.about.result r c.args.name.now rules begun h) c.args-2.ensures
