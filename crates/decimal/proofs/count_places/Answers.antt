-- The first limit above the number tells how many places it has, and a number that has nine limits below it has ten.
use Rattle.std.proofs.Common.{◌≡◌, ◌-◌, ◌≤◌, ◌^◌, arith}
use Rattle.decimal.proofs.Places.{found}
use Rattle.decimal.proofs.count_places.Goals as goal

pub returns-then-n-limit : goal.returns-then-n-limit
returns-then-n-limit c = let l = c.loop-k in found l.k c.args.n (omega arith) (omega arith) (omega arith) l.invariant.big

pub returns : goal.returns
returns c =
    let l = c.loop-k in
    let last : l.k ≡ 10 = omega arith in
    let big : 10 ^ (l.k - 1) ≤ c.args.n = l.invariant.big (omega arith) in
    found 10 c.args.n (omega arith) (omega arith) c.requires (λ h. rw last at big)
