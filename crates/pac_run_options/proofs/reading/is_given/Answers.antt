use Rattle.pac_run_options.proofs.Common.{Some, ValueSource, ap, found_of, sym, ◌∙◌}
use Rattle.pac_run_options.proofs.Rows.{given_by-source}
use Rattle.pac_run_options.proofs.reading.is_given.Goals as goal

pub returns-in-Some-DefaultValue : goal.returns-in-Some-DefaultValue
returns-in-Some-DefaultValue c =
    given_by-source (found_of c.args.values.now) c.args.id.now _
    (sym (ap (λ (s : ValueSource). Some s) c.in-Some-DefaultValue.field-0-is) ∙ sym c.in-Some-DefaultValue.is ∙ c.value_source.ensures)

pub returns-in-Some-CommandLine : goal.returns-in-Some-CommandLine
returns-in-Some-CommandLine c =
    given_by-source (found_of c.args.values.now) c.args.id.now _
    (sym (ap (λ (s : ValueSource). Some s) c.in-Some-CommandLine.field-0-is) ∙ sym c.in-Some-CommandLine.is ∙ c.value_source.ensures)

pub returns-in-None : goal.returns-in-None
returns-in-None c =
    cc (c.contains_id.ensures, given_by-source (found_of c.args.values.now) c.args.id.now _ (sym c.in-None.is ∙ c.value_source.ensures))
