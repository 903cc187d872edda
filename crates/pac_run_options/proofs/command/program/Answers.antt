use Rattle.pac_run_options.proofs.Common.{App, ap, true}

pub returns : Rattle.pac_run_options.proofs.command.program.Goals.returns
returns c =
    rw (c.disable_help_subcommand.ensures, c.subcommand_required.ensures, c.about.ensures, c.version.ensures)
    (ap (λ (a : App). record a { top = record a.top { has_version = true; subcommand_required = true; disable_help_subcommand = true } })
    c.new.ensures.app)
