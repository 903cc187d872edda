use Rattle.std.proofs.Common.{rules}
use Rattle.pac_asm_operation.proofs.form.are_forms.Goals as goal

pub returns-then-is_form : goal.returns-then-is_form
returns-then-is_form g c = search rules

pub returns-else-is_form : goal.returns-else-is_form
returns-else-is_form g c = search rules
