-- Four numbers that are those of the indices k - 1 to k + 2 are the support of place k, and as small as each of them; and the support of a row that is a
-- part of a buffer. Assumes nothing.
use mathlib.Core.List.{List}
use mathlib.Core.Path.{◌≡◌, ap, ◌∙◌}
use Prim.Native.Nat.{ℕ, ◌+◌, ◌-◌, ◌≤◌, ◌<◌}
use native.Mathlib.Omega.{arith}
use borrow.Rule.Slice.PartMut.{mid_of, mid_len}
use lib.IntN.{ℤ, pos, ◌-ℤ◌}
use lib.ListN.{length}
use Rattle.integers.specs.Bound.{Within}
use Rattle.bspline.specs.Bounds.{AllWithin}
use Rattle.bspline.specs.Lists.{at}
use Rattle.bspline.specs.Mirror.{mirror}
use Rattle.bspline.specs.Values.{support}
use Rattle.bspline.proofs.Bounds.{four_within}
use Rattle.bspline.proofs.FilledLists.{part_at}
use Rattle.bspline.proofs.Lists.{tabulate_same}
use Rattle.bspline.proofs.Mirror.{mirror_below}
use Rattle.bspline.proofs.Weights.{support_is}
use Rattle.sums.specs.declared.four.Four.{Four}
use Rattle.sums.specs.Sums.{listed}

-- the number of the index i - 1, no further than B from 0
abbrev pub Read : ℕ → (ℕ → ℤ) → ℕ → ℕ → ℤ → Type 0
Read n f B i x = (x ≡ f (mirror n (pos i -ℤ pos 1))) × Within B x

pub supported : (n k : ℕ) (f : ℕ → ℤ) {B : ℕ} (r : Four ℤ) →
    Read n f B k r.before → Read n f B (k + 1) r.here → Read n f B (k + 2) r.after → Read n f B (k + 3) r.beyond →
    (listed r ≡ support n f k) × AllWithin B (listed r)
supported n k f r p q s t = (support_is n k f p.0 q.0 s.0 t.0, four_within p.1 q.1 s.1 t.1)

-- the support of the n numbers from a place on, read in the whole buffer: an index continued past both ends reads one of the n
pub support_of_part : (n from k : ℕ) (c : List ℤ) → 0 < n → from + n ≤ length c →
    support (length (mid_of from (from + n - from) c)) (at (mid_of from (from + n - from) c)) k ≡ support n (λ i. at c (from + i)) k
support_of_part n from k c some inside =
    let part : List ℤ = mid_of from (from + n - from) c in
    let size : length part ≡ n = mid_len from (from + n) c inside ∙ omega arith in
    ap (λ n. support n (at part) k) size
    ∙ tabulate_same _ _ 0 4 (λ i h.
    let place = pos (k + i) -ℤ pos 1 in
    part_at c from (from + n - from) (mirror n place) (omega (arith, mirror_below n place some)))
