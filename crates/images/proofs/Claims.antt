-- Each claim of specs/Claims.antt.
use Prim.Native.Nat.{ℕ, ◌+◌, ◌≤◌}
use native.Mathlib.Omega.{arith}
use mathlib.Core.List.{List}
use lib.ListN.{length, drop}
use lib.Seq.{sets, sets-eq}
use borrow.Author.Tests.{leb-true}
use Rattle.image.specs.Image.{image_of, put_state}
use Rattle.image_read.specs.Reading.{state_read}
use Rattle.images.specs.Claims.{ReadBack, ReadFromBuffer, ImageIsGood, ImageIsRead, GoodIsImage}
use Rattle.images.proofs.Holds.{Holds, whole}
use Rattle.images.proofs.Back.{state_back}
use Rattle.images.proofs.Good.{length_image, image_good}
use Rattle.images.proofs.Exact.{image_exact}

pub read_back : ReadBack
read_back m k = state_back m (whole (image_of m)) k

-- bytes stored at the start of a buffer stand there
stored : (out ys : List ℕ) → length ys ≤ length out → Holds (sets out 0 ys) 0 ys
stored out ys h =
    let room : 0 + length ys ≤ length out = omega arith in
    record { rest = drop (0 + length ys) out; here = sets-eq ys out 0 room }

pub read_from_buffer : ReadFromBuffer
unfolding put_state
read_from_buffer m out k room =
    let enough : length (image_of m) ≤ length out = rw (length_image m k) (leb-true 3416 (length out) room) in
    rw room (state_back m (stored out (image_of m) enough) k)

pub image_is_good : ImageIsGood
image_is_good m k = image_good m k

pub image_is_read : ImageIsRead
unfolding state_read
image_is_read m k = rw (image_good m k, read_back m k)

pub good_is_image : GoodIsImage
good_is_image s bytes e = image_exact s bytes e
