-- `put_words`: the numbers put and those that are left are all (`Words`).
use Rattle.std.proofs.Common.{◌*◌, drop}
use Rattle.writer.proofs.Going as Going
use Rattle.image.specs.Image.{words_image}
use Rattle.image.proofs.put_words.Given as goal

abbrev pub invariant-loop-w : goal.invariant-loop-w
invariant-loop-w l = Going.Going (8 * l.w-index) l.initial.out l.out (words_image (drop l.w-index l.ws)) (words_image l.ws)
