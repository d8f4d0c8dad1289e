-- Where a value misses the threshold the scan goes on behind it.
use Rattle.std.proofs.Common.{rules, ◌+◌, ◌-◌, sym, subst, arith}
use mir.Facts.{to_z-of_z}
use mir.Syntax.{w32}
use mir.Val.{SFits}
use Rattle.integers.proofs.Linear.{reify, read, show}
use Rattle.bspline.specs.Lists.{at}
use Rattle.onset.proofs.Scans.{Scanned, scanned_none, scanned_miss, scan_found, scan_ended}
use Rattle.onset.proofs.runs.first.Goals as goal

pub returns-in_err-last-clause-first : goal.returns-in_err-last-clause-first
returns-in_err-last-clause-first c = rw c.from_residual.ensures (sym (scan_ended (scanned_none _ _) (omega (arith, c.in_err-last.ensures))))

pub scan-preserved : goal.scan-preserved
scan-preserved c =
    let m = c.loop-left.invariant in
    let s = subst (Scanned _ _) (sym m.0) c.scan.invariant in
    let f : SFits w32 c.args.threshold = c.ranges.threshold in
    let g : SFits w32 (at c.args.values.now (c.loop-left.at + (c.loop-left.left - 1))) = search rules in
    scanned_miss (c.loop-left.left - 1) s (omega (arith, c.in_ok-last.ensures)) (omega (arith, m.1.few)) (show (simp reify tt) (omega (arith, read c.if-values-at.true (simp reify tt))))

pub returns-then-last-at-clause-first : goal.returns-then-last-at-clause-first
returns-then-last-at-clause-first c = sym (rw (to_z-of_z {w = w32} c.ranges.threshold) at (scan_ended c.scan.invariant (omega (arith, c.in_ok-last.ensures))))

pub returns-after-loop-left-clause-first : goal.returns-after-loop-left-clause-first
returns-after-loop-left-clause-first c =
    let s = subst (Scanned _ _) (sym c.loop-left.invariant.0) c.scan.invariant in
    sym (rw (to_z-of_z {w = w32} c.ranges.threshold) at (scan_found s (omega (arith, c.in_ok-last.ensures)) c.loop-left.invariant.1 c.loop-left-test.false))
