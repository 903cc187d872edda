use Rattle.pac_table_names.proofs.Common.{List, Word, ap, find, is_text, option_copied, sym, ◌∙◌}
use Rattle.pac_table_names.proofs.Index.{first-none, first-some}
use Rattle.pac_table_names.proofs.Longer.{no-word}
use Rattle.pac_table_names.proofs.by_name.word_of.Goals as goal

pub returns-in_err-first : goal.returns-in_err-first
returns-in_err-first c = ap option_copied c.from_residual.ensures ∙ first-none c.args.bytes.now c.in_err-first.ensures.value

pub returns : goal.returns
returns c =
    c.named.ensures ∙ ap (λ (xs : List Word). find (is_text c.args.bytes.now) xs) c.words_with.ensures ∙
    first-some c.args.bytes.now c.in_ok-first.first.now c.in_ok-first.ensures.value

pub returns-then-bytes-gt-LONGEST : goal.returns-then-bytes-gt-LONGEST
returns-then-bytes-gt-LONGEST c = sym (no-word c.args.bytes.now c.if-bytes-gt-LONGEST.true)
