use Rattle.pac_run_options.proofs.Common.{Rule, Some, [], ap, codes, pos, rule_of, rules, ◌∷◌, ◌≡◌}
use Rattle.clap.specs.declared.builder.value_parser.ValueParser.TheVariants as parser
use Rattle.pac_run_options.specs.CommandLine as line

pub returns : Rattle.pac_run_options.proofs.command.dip_option.Goals.returns
returns c =
    let before : rule_of c.value_parser-2.result ≡ record (line.option (codes "dip")) { parser = Some (parser.Signed (pos 0) (pos 255)) } =
    search rules in
    rw c.default_value.ensures (ap (λ (r : Rule). record r { defaults = codes "201" ∷ [] }) before)
