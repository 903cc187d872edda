use Rattle.pac_run_options.proofs.Common.{first_value-rows, found_of, ◌∙◌}

pub returns : Rattle.pac_run_options.proofs.reading.text.Goals.returns
returns c = c.get_str.ensures ∙ first_value-rows (found_of c.args.values.now) c.args.id.now
