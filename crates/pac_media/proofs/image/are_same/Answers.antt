use Rattle.std.proofs.Common.{arith}
use Rattle.pac_media.proofs.Words.{is-word, four-same}

pub returns : Rattle.pac_media.proofs.image.are_same.Goals.returns
returns c =
    four-same c.args.one.now c.args.other.now c.args.start c.word_at.result c.word_at-3.result c.word_at-5.result c.word_at-7.result
    c.word_at-2.result c.word_at-4.result c.word_at-6.result c.word_at-8.result
    (is-word _ _ (omega arith) c.word_at.ensures) (is-word _ _ (omega arith) c.word_at-2.ensures)
    (is-word _ _ (omega arith) c.word_at-3.ensures) (is-word _ _ (omega arith) c.word_at-4.ensures)
    (is-word _ _ (omega arith) c.word_at-5.ensures) (is-word _ _ (omega arith) c.word_at-6.ensures)
    (is-word _ _ (omega arith) c.word_at-7.ensures) (is-word _ _ (omega arith) c.word_at-8.ensures)
