use Rattle.std.proofs.Common.{rules}
use Rattle.pac_run_files.proofs.Whole.{few}

pub returns-in-Ok : Rattle.pac_run_files.proofs.files.read_up_to.Goals.returns-in-Ok
returns-in-Ok g c =
    let read = rw (c.take.ensures.limit, c.take.ensures.inner, c.new-bytes.ensures.items) at c.in-Ok.ensures.bytes in
    (few c.args.most c.read_to_end.new.buf.items (g.R.Read.remaining c.args.reader) read (search rules), search rules)
