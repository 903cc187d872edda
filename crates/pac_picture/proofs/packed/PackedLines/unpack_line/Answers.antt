use Rattle.std.proofs.Common.{rules}
use Rattle.pac_picture.proofs.Unpacked.{unpacked-line}
use Rattle.pac_picture.proofs.packed.PackedLines.unpack_line.Goals as goal

pub returns-clause-line : goal.returns-clause-line
returns-clause-line c =
    rw c.self.view_is at
    (unpacked-line c.self.inside.pairs c.args.y c.put_half.new.out _ (search rules) c.requires c.put_half.ensures.size
    c.put_half.ensures.numbers)
