-- Outputs join.
use Rattle.pac_debug_session.proofs.Forwards.{between-joined, joined-to-end}

pub returns : Rattle.pac_debug_session.proofs.laws.each_is_given_once.Goals.returns
returns c setting from index later less more =
    record { between = between-joined setting from index later less more; to_end = joined-to-end setting from index less }
