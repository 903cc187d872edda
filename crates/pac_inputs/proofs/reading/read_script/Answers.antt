use Rattle.pac_inputs.proofs.Common.{ScriptGives, subst}
use Rattle.pac_inputs.proofs.Laws.{read-is-script, told-is-fault, script-again, fault-again}
use Rattle.pac_inputs.proofs.reading.read_script.Goals as goal

pub returns-clause-read : goal.returns-clause-read
returns-clause-read c = read-is-script c.args.text.now c.read.result c.read.ensures

pub returns-clause-only : goal.returns-clause-only
returns-clause-only c = λ said h. subst (ScriptGives c.read.result) (script-again c.args.text.now said h) c.read.ensures

pub returns-clause-fault : goal.returns-clause-fault
returns-clause-fault c = told-is-fault c.args.text.now c.read.result c.read.ensures

pub returns-clause-refused : goal.returns-clause-refused
returns-clause-refused c = λ fault h. subst (ScriptGives c.read.result) (fault-again c.args.text.now fault h) c.read.ensures
