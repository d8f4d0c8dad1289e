-- The constant is the cast of 256.
use Rattle.std.proofs.Common.{◌≡◌, refl, ℤ, pos, ap₂}
use lib.Ieee.{Float, binary64, of_bits, of_int, div}
use mir.Facts.{to_z-of_z}
use mir.Syntax.{w32}
use Rattle.onset.specs.Measures.{height}
use Rattle.onset.proofs.measures.height.Goals as goal

units : of_bits binary64 4643211215818981376 ≡ of_int binary64 (pos 256)
unfolding of_bits of_int
units = refl

pub returns : goal.returns
unfolding height
returns c = ap₂ (λ (v : ℤ) (d : Float). div binary64 (of_int binary64 v) d) (to_z-of_z {w = w32} c.ranges.v) units
