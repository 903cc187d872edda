use Rattle.pac_table_names.proofs.Common.{List, Name, ap, find, is_written, sym, text_of_name, ◌∙◌}
use Rattle.pac_table_names.proofs.Letters.{no-letter, with-letter}
use Rattle.pac_table_names.proofs.Longer.{no-name}
use Rattle.pac_table_names.proofs.names.name_of.Goals as goal

pub returns-in_err-first : goal.returns-in_err-first
returns-in_err-first c = c.from_residual.ensures ∙ no-letter c.args.word.now c.in_err-first.ensures.value

pub returns : goal.returns
returns c =
    c.name_among.ensures ∙ ap (λ (xs : List Name). find (λ some. is_written c.args.word.now (text_of_name some)) xs) c.names_with.ensures ∙
    with-letter c.args.word.now c.in_ok-first.first.now c.in_ok-first.ensures.value

pub returns-then-word-gt-LONGEST : goal.returns-then-word-gt-LONGEST
returns-then-word-gt-LONGEST c = sym (no-name c.args.word.now c.if-word-gt-LONGEST.true)
