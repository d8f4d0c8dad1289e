-- The answers and structs of the code, read as the answers and descriptions of the specification: "Who can be refused". Assumes nothing.
use Rattle.std.specs.Prelude.{Bool, true, false, ℕ, ℤ, Result, Ok, Err}
use Rattle.bspline.specs.Refusals.{Answer, count, value, refusal}
use Rattle.bspline.specs.PictureLayout as layout
use Rattle.bspline.specs.Values as values
use Rattle.answers.specs.declared.Position.{Position}
use Rattle.answers.specs.declared.Refusal.{Refusal}
use Rattle.answers.specs.declared.Refusal.TheVariants.{EmptyRow, LongRow, BadSide, WrongLayout, ShortWork, ShortCoefficients, BadFactor, BadNumerator, ShortValues, BadText, BadFile, OtherFormat, UnfitSamples, PastEnd, PastBottom, ManyValues}
use Rattle.answers.specs.declared.Shape.{Shape}

-- the number of each refusal
abbrev pub number : Refusal → ℕ
number EmptyRow = 1
number LongRow = 2
number BadSide = 3
number WrongLayout = 4
number ShortWork = 5
number ShortCoefficients = 6
number BadFactor = 7
number BadNumerator = 8
number ShortValues = 9
number BadText = 10
number BadFile = 11
number OtherFormat = 12
number UnfitSamples = 13
number PastEnd = 14
number PastBottom = 15
number ManyValues = 16

-- what a transform, row zoom and enlarging answer: how many numbers were written, or the refusal
abbrev pub written : Result ℕ Refusal → Answer
written (Ok n) = count n
written (Err r) = refusal (number r)

-- what row value and picture value answer: the value in units of 1/256 of a count, or the refusal
abbrev pub valued : Result ℤ Refusal → Answer
valued (Ok v) = value v
valued (Err r) = refusal (number r)

-- what a test answers: the refusal if its condition holds
abbrev pub tested : Bool → Refusal → Result Unit Refusal
tested true r = Err r
tested false r = Ok tt

-- what is promised of an accepted call
abbrev pub Promised : Answer → Type 0 → Type 0
Promised (count n) P = P
Promised (value v) P = P
Promised (refusal k) P = Unit

-- the picture that a struct describes
abbrev pub described : Shape → layout.Shape
described s = record { width = s.width; height = s.height; pitch = s.pitch }

-- the position that a struct gives
abbrev pub placed : Position → values.Position
placed p = record { k = p.k; j = p.j }
