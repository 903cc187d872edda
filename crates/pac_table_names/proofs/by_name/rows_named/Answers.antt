use Rattle.pac_table_names.proofs.Common.{AreNamed, List, ap, arith, get_or, length, row_count, row_list, slice_range, subst, sym, ℕ, ◌<◌}
use Rattle.pac_table_names.proofs.Common.{◌∙◌}
use Rattle.pac_table_names.proofs.Index.{rows-none, family-none, found-rows, all-below}
use Rattle.pac_table_names.proofs.by_name.rows_named.Goals as goal

pub part-requires-clause-order : goal.part-requires-clause-order
part-requires-clause-order c = λ _.
    let found = found-rows c.args.word.now c.in-Some.name.now (sym c.in-Some.ensures) in
    omega (arith, found.order, c.from.ensures, c.from-in-Some.ensures)

pub part-requires-clause-within : goal.part-requires-clause-within
part-requires-clause-within c = λ _.
    let found = found-rows c.args.word.now c.in-Some.name.now (sym c.in-Some.ensures) in
    omega (arith, found.within, c.from-in-Some.ensures, ap length c.row_list.ensures)

pub returns-in-None-clause-rows : goal.returns-in-None-clause-rows
returns-in-None-clause-rows c = sym (rows-none c.args.word.now (sym c.in-None.ensures))

pub returns-in-None-clause-family : goal.returns-in-None-clause-family
returns-in-None-clause-family c = sym (family-none c.args.word.now (sym c.in-None.ensures))

pub returns-in-Some-clause-rows : goal.returns-in-Some-clause-rows
returns-in-Some-clause-rows c =
    let found = found-rows c.args.word.now c.in-Some.name.now (sym c.in-Some.ensures) in
    rw (c.part.ensures, c.row_list.ensures, c.from.ensures, c.from-in-Some.ensures) (sym found.rows)

pub returns-in-Some-clause-family : goal.returns-in-Some-clause-family
returns-in-Some-clause-family c = sym (found-rows c.args.word.now c.in-Some.name.now (sym c.in-Some.ensures)).family

pub returns-in-Some-clause-bound : goal.returns-in-Some-clause-bound
returns-in-Some-clause-bound c =
    let found = found-rows c.args.word.now c.in-Some.name.now (sym c.in-Some.ensures) in
    rw (c.part.ensures, c.row_list.ensures, c.from.ensures, c.from-in-Some.ensures) (all-below row_count _ found.bound)

pub returns-in-Some-clause-named : goal.returns-in-Some-clause-named
returns-in-Some-clause-named c =
    let found = found-rows c.args.word.now c.in-Some.name.now (sym c.in-Some.ensures) in
    rw (c.part.ensures, c.row_list.ensures, c.from.ensures, c.from-in-Some.ensures) found.named
