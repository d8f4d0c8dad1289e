-- A sample by std's conversion of its two bytes. Assumes nothing.
use Rattle.std.proofs.Common.{ℕ, ◌+◌, ◌*◌, ◌<◌, ◌≡◌, w16, to_z, arith}
use Rattle.std.proofs.lemmas.Int.{ints}
use borrow.Author.Tests.{lt-ltb, le-ltb}
use native.Mathlib.Decide.{dec_lt}
use Rattle.wavefile.specs.Samples.{signed}

-- a number of 16 bits
signed_of : (v : ℕ) → v < 65536 → to_z w16 v ≡ signed v
signed_of v h = go (dec_lt v 32768)
  where
    go : Dec (v < 32768) → to_z w16 v ≡ signed v
    go (yes y) = rw (lt-ltb v 32768 y) (omega (arith, ints))
    go (no n) = rw (le-ltb v 32768 (omega (arith, n))) (omega (arith, ints))

pub signed_bytes : (low high : ℕ) → low < 256 → high < 256 → to_z w16 (low + high * 256) ≡ signed (low + 256 * high)
signed_bytes low high a b =
    let same : low + high * 256 ≡ low + 256 * high = omega arith in
    rw same (signed_of (low + 256 * high) (omega arith))
