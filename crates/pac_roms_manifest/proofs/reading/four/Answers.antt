use Rattle.pac_roms_manifest.proofs.Common.{arith, array, err_from_is_err_and, items_view, program_form, refl, view, ◌≡◌}
use Rattle.pac_roms_manifest.proofs.Misreadings.{unread}
use Rattle.pac_roms_manifest.proofs.Tables.{four_forms, four_tables}
use Rattle.pac_roms_manifest.proofs.reading.four.Goals as goal

pub returns-in_err-entry : goal.returns-in_err-entry
returns-in_err-entry c =
    let all : program_form (array (items_view c.args.tables.now))
    ≡ four_forms (view c.first-item.result) (view c.second-item.result) (view c.third-item.result) (view c.fourth-item.result) =
    four_tables _ _ _ _ _ c.in-len4.len_at_least c.in-len4.len_below c.first-item.is c.second-item.is c.third-item.is c.fourth-item.is in
    let told = err_from_is_err_and c.from_residual.result c.from_residual.ensures.1 in
    rw all (unread _ told.0 _ _ _ told.1 told.2 c.in_err-entry.ensures)

pub returns-in_err-entry-2 : goal.returns-in_err-entry-2
returns-in_err-entry-2 c =
    let all : program_form (array (items_view c.args.tables.now))
    ≡ four_forms (view c.first-item.result) (view c.second-item.result) (view c.third-item.result) (view c.fourth-item.result) =
    four_tables _ _ _ _ _ c.in-len4.len_at_least c.in-len4.len_below c.first-item.is c.second-item.is c.third-item.is c.fourth-item.is in
    let told = err_from_is_err_and c.from_residual-in_err-entry-2.result c.from_residual-in_err-entry-2.ensures.1 in
    rw (all, c.in_ok-entry.ensures) (unread _ told.0 _ _ _ told.1 told.2 c.in_err-entry-2.ensures)

pub returns-in_err-entry-3 : goal.returns-in_err-entry-3
returns-in_err-entry-3 c =
    let all : program_form (array (items_view c.args.tables.now))
    ≡ four_forms (view c.first-item.result) (view c.second-item.result) (view c.third-item.result) (view c.fourth-item.result) =
    four_tables _ _ _ _ _ c.in-len4.len_at_least c.in-len4.len_below c.first-item.is c.second-item.is c.third-item.is c.fourth-item.is in
    let told = err_from_is_err_and c.from_residual-in_err-entry-3.result c.from_residual-in_err-entry-3.ensures.1 in
    rw (all, c.in_ok-entry.ensures, c.in_ok-entry-2.ensures) (unread _ told.0 _ _ _ told.1 told.2 c.in_err-entry-3.ensures)

pub returns-in_err-entry-4 : goal.returns-in_err-entry-4
returns-in_err-entry-4 c =
    let all : program_form (array (items_view c.args.tables.now))
    ≡ four_forms (view c.first-item.result) (view c.second-item.result) (view c.third-item.result) (view c.fourth-item.result) =
    four_tables _ _ _ _ _ c.in-len4.len_at_least c.in-len4.len_below c.first-item.is c.second-item.is c.third-item.is c.fourth-item.is in
    let told = err_from_is_err_and c.from_residual-in_err-entry-4.result c.from_residual-in_err-entry-4.ensures.1 in grind (arith, unread)

pub returns : goal.returns
returns c =
    let all : program_form (array (items_view c.args.tables.now))
    ≡ four_forms (view c.first-item.result) (view c.second-item.result) (view c.third-item.result) (view c.fourth-item.result) =
    four_tables _ _ _ _ _ c.in-len4.len_at_least c.in-len4.len_below c.first-item.is c.second-item.is c.third-item.is c.fourth-item.is in
    rw (all, c.in_ok-entry.ensures, c.in_ok-entry-2.ensures, c.in_ok-entry-3.ensures, c.in_ok-entry-4.ensures) refl
