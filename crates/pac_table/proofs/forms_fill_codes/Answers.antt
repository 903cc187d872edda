use Rattle.pac_table.proofs.Common.{fills_code, list_all, refl, table, true, ◌≡◌}
use Rattle.pac_table.proofs.TableRules.{row-passes}

are-filled : list_all fills_code table ≡ true
unfolding table
are-filled = refl

pub returns : Rattle.pac_table.proofs.forms_fill_codes.Goals.returns
returns c = row-passes fills_code are-filled
