-- `put_words`: the numbers put and those that are left are all (`Words`).
use Rattle.std.proofs.Common.{arith}
use Rattle.writer.proofs.Going as Going
use Rattle.std.specs.Int.{w64}
use Rattle.entry_image.proofs.Bytes.{number}
use Rattle.image.proofs.Words.{next_word, no_word}
use Rattle.image.proofs.put_words.Goals as goal

pub loop-w-preserved : goal.loop-w-preserved
loop-w-preserved c =
    let l = c.loop-w in
    Going.within (omega arith) (Going.then (Going.as_rest (next_word c.args.ws.now l.w-index c.loop-w-test.true) l.invariant) (number w64 _ c.to_le_bytes.ensures c.bytes.ensures))

pub returns : goal.returns
returns c =
    let l = c.loop-w in
    Going.ended (Going.within (omega arith) (Going.as_rest (no_word c.args.ws.now l.w-index c.loop-w-test.false) l.invariant))
