use Rattle.pac_cpu_vectors.proofs.Common.{cpu_step, field_condition, is_met, reads_by, refl, row_at, row_of, table}
use lib.Count.{ones}

pub returns : Rattle.pac_cpu_vectors.proofs.manual.data_reads.Goals.returns
unfolding ones table row_at row_of field_condition is_met reads_by cpu_step
returns c = refl
