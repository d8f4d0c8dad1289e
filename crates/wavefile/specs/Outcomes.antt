-- What reading a file answers and what it leaves in the sample buffer, for every input: "Clips as WAVE files". Assumes nothing.
use Rattle.std.specs.Prelude.{◌||◌, not, List, [], ◌∷◌, ℕ, ◌%◌, eqb, ltb, ℤ, length}
use Rattle.bspline.specs.Limits.{longest_row}
use Rattle.bspline.specs.Outcomes.{overwrite}
use Rattle.bspline.specs.Refusals.{Test, ◌when◌, refusal_1, refusal_2, judged}
use Rattle.wavefile.specs.Chunks.{found, format_of, content_of, legal}
use Rattle.wavefile.specs.Formats.{plain, rate}
use Rattle.wavefile.specs.Samples.{samples, sample_count}

-- An answer: a clip, by the count of its samples and its rate, or the refusal by its number
pub data Answer : Type 0 where
  clip : ℕ → ℕ → Answer
  refusal : ℕ → Answer

-- the answer, and the sample buffer afterwards
pub record Read : Type 0 where
  pub answer : Answer
  pub samples : List ℤ

-- a file in which something is missing or cut off
abbrev pub refusal_11 : List ℕ → Test
refusal_11 bytes = 11 when not (legal bytes)

-- another format
abbrev pub refusal_12 : List ℕ → Test
refusal_12 f = 12 when not (plain f)

-- data of odd length, or more samples than the buffer holds
abbrev pub refusal_13 : List ℕ → List ℤ → Test
refusal_13 d buffer = 13 when (eqb (length d % 2) 1 || ltb (length buffer) (sample_count d))

-- it tests 11, 12, 13, 1, 2; a refused call changes nothing
unfoldable pub wav_read : List ℕ → List ℤ → Read
wav_read bytes buffer =
    let f = format_of (found bytes) in
    let d = content_of (found bytes) in
    judged (refusal_11 bytes ∷ refusal_12 f ∷ refusal_13 d buffer ∷ refusal_1 (sample_count d) ∷ refusal_2 longest_row (sample_count d) ∷ [])
    (λ k. record { answer = refusal k; samples = buffer })
    (record { answer = clip (sample_count d) (rate f); samples = overwrite (samples d) buffer })
