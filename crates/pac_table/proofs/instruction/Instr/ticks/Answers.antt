use Rattle.pac_table.proofs.TableRules.{ticks-in-range}
use Rattle.pac_table.proofs.instruction.Instr.ticks.Goals as goal

pub returns-clause-at_least : goal.returns-clause-at_least
returns-clause-at_least c = (ticks-in-range _ _ c.row_numbered-row.ensures c.self.invariant.row).at_least

pub returns-clause-at_most : goal.returns-clause-at_most
returns-clause-at_most c = (ticks-in-range _ _ c.row_numbered-row.ensures c.self.invariant.row).at_most
