use Rattle.std.proofs.Common.{Err, Ok}
use Rattle.pac_state.proofs.Files.{accepts, reads}

pub returns : Rattle.pac_state.proofs.laws.reading_is_accepting.Goals.returns
returns c set bytes fits =
    record {
      accepted = λ board. accepts set bytes fits (Ok board);
      read = reads set bytes;
      refused = λ fault. accepts set bytes fits (Err fault);
    }
