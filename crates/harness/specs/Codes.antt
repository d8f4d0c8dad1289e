-- Answers as signed numbers, as the functions for C return them, beside the buffers that they leave. Assumes nothing.
use Rattle.std.specs.Prelude.{Bool, List, ℕ, ◌+◌, ◌-◌, ◌*◌, ◌^◌, min, ℤ, pos, neg_ℤ, Float}
use Rattle.std.proofs.Math.Option.{Option, none, some}
use Rattle.bspline.specs.Outcomes.{Transformed, Evaluated}
use Rattle.bspline.specs.Refusals.{Answer, count, value, refusal}
use Rattle.onset.specs.Outcomes.{Answer as Search, onset, quiet, refusal as unsearched}
use Rattle.turns.specs.Outcomes.{Announcement, Reply, accepted, refusal as unannounced, Turn}
use Rattle.wavefile.specs.Outcomes.{Read, Answer as Reading, clip, refusal as unread}

-- a count as itself, as far as 64 bits with a sign go; a refusal's number negated
abbrev pub code : Answer → ℤ
code (count n) = pos (min n (2 ^ 63 - 1))
code (value v) = v
code (refusal k) = neg_ℤ (pos k)

-- a value as itself, a refusal's number above 2^32, which no value is
abbrev pub value_code : Answer → ℤ
value_code (count n) = pos n
value_code (value v) = v
value_code (refusal k) = pos (2 ^ 32 + k)

-- a clip as its rate and, in the low 16 bits, the count of its samples; a refusal's number negated
abbrev pub clip_code : Reading → ℤ
clip_code (clip n r) = pos (r * 2 ^ 16 + min n (2 ^ 16 - 1))
clip_code (unread k) = neg_ℤ (pos k)

-- the outcome of a transform, with the code of its answer
pub record CodedTransform : Type 0 where
  pub answer : ℤ
  pub coefficients : List ℤ
  pub work : List ℤ

abbrev pub coded_transform : Transformed → CodedTransform
coded_transform o = record { answer = code o.answer; coefficients = o.coefficients; work = o.work }

-- the outcome of row zoom or enlarging, with the code of its answer
pub record CodedValues : Type 0 where
  pub answer : ℤ
  pub values : List ℤ

abbrev pub coded_values : Evaluated → CodedValues
coded_values o = record { answer = code o.answer; values = o.values }

-- the outcome of reading a file, with the code of its answer
pub record CodedRead : Type 0 where
  pub answer : ℤ
  pub samples : List ℤ

abbrev pub coded_read : Read → CodedRead
coded_read o = record { answer = clip_code o.answer; samples = o.samples }

-- the outcome of a search: how many floating-point numbers its answer has, which are written in their places, or a refusal's number negated
pub record CodedSearch : Type 0 where
  pub answer : ℤ
  pub position : Float
  pub height : Float

abbrev pub coded_search : Float → Float → Search → CodedSearch
coded_search x h (onset p q) = record { answer = pos 2; position = p; height = q }
coded_search x h (quiet q) = record { answer = pos 1; position = x; height = q }
coded_search x h (unsearched k) = record { answer = neg_ℤ (pos k); position = x; height = h }

-- the outcome of an announcement or of a turn, with the code of its answer, which is a number from 0 up
pub record CodedTurn : Type 0 where
  pub answer : ℕ
  pub waiting : List Bool
  pub last : ℕ

-- an announcement that is accepted as 0, a refusal as its number
abbrev pub reply_code : Reply → ℕ
reply_code accepted = 0
reply_code (unannounced k) = k

abbrev pub coded_announcement : Announcement → CodedTurn
coded_announcement a = record { answer = reply_code a.answer; waiting = a.next.waiting; last = a.next.last }

-- the station that a turn names as itself, and none as 64 ones
abbrev pub name_code : Option ℕ → ℕ
name_code (some k) = k
name_code none = 2 ^ 64 - 1

abbrev pub coded_turn : Turn → CodedTurn
coded_turn t = record { answer = name_code t.answer; waiting = t.next.waiting; last = t.next.last }
