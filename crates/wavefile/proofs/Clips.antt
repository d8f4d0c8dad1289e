-- What reading a file answers and leaves, by the tests that lead there. Assumes nothing.
use mathlib.Core.Bool.{true, false}
use mathlib.Core.List.{List, [], ◌∷◌, ◌++◌}
use mathlib.Core.Path.{◌≡◌, ◌∙◌}
use Prim.Native.Nat.{ℕ, ◌/◌, ◌%◌, ◌≤◌, ◌<◌}
use native.Mathlib.Omega.{arith}
use borrow.Author.Tests.{lt-ltb, le-ltb, eq-eqb, ne_eqb}
use lib.IntN.{ℤ}
use lib.ListN.{length, drop}
use Rattle.bspline.specs.Limits.{longest_row}
use Rattle.bspline.specs.Outcomes.{overwrite}
use Rattle.bspline.specs.Refusals.{refusal_1, refusal_2, judged}
use Rattle.wavefile.specs.Chunks.{found, format_of, content_of, legal}
use Rattle.wavefile.specs.Formats.{plain, rate}
use Rattle.wavefile.specs.Outcomes.{Read, clip, refusal, refusal_12, refusal_13, wav_read}
use Rattle.wavefile.specs.Samples.{samples, sample_count}
use Rattle.wavefile.proofs.Samples.{samples_length}

-- a legal file, with its format and its data of n bytes
pub record Legal (bytes f d : List ℕ) (n : ℕ) : Type 0 where
  pub accepted : legal bytes ≡ true
  pub format : format_of (found bytes) ≡ f
  pub content : content_of (found bytes) ≡ d
  pub count : length d ≡ n

module _ (bytes : List ℕ) (buffer : List ℤ) where
  abbrev refused : ℕ → Read
  refused k = record { answer = refusal k; samples = buffer }

  pub bad_file : legal bytes ≡ false → refused 11 ≡ wav_read bytes buffer
  unfolding wav_read
  bad_file e = rw e

  module _ {f d : List ℕ} {n : ℕ} (g : Legal bytes f d n) where
    -- the tests that are left
    outcome : wav_read bytes buffer
        ≡ judged (refusal_12 f ∷ refusal_13 d buffer ∷ refusal_1 (sample_count d) ∷ refusal_2 longest_row (sample_count d) ∷ [])
        refused
        (record { answer = clip (sample_count d) (rate f); samples = overwrite (samples d) buffer })
    unfolding wav_read
    outcome = rw (g.accepted, g.format, g.content)

    pub other_format : plain f ≡ false → refused 12 ≡ wav_read bytes buffer
    other_format e = rw (outcome, e)

    module _ (p : plain f ≡ true) where
      pub odd_length : n % 2 ≡ 1 → refused 13 ≡ wav_read bytes buffer
      odd_length e = rw (outcome, p, g.count, eq-eqb (n % 2) 1 e)

      module _ (even : n % 2 ≡ 1 → ⊥) where
        pub short_buffer : length buffer < n / 2 → refused 13 ≡ wav_read bytes buffer
        short_buffer h = rw (outcome, p, g.count, ne_eqb (n % 2) 1 even, lt-ltb (length buffer) (n / 2) h)

        module _ (fits : n / 2 ≤ length buffer) where
          pub no_samples : n / 2 ≡ 0 → refused 1 ≡ wav_read bytes buffer
          no_samples e = rw (outcome, p, g.count, ne_eqb (n % 2) 1 even, le-ltb (length buffer) (n / 2) fits, eq-eqb (n / 2) 0 e)

          module _ (some : n / 2 ≡ 0 → ⊥) where
            pub many_samples : longest_row < n / 2 → refused 2 ≡ wav_read bytes buffer
            many_samples h =
                rw (outcome, p, g.count, ne_eqb (n % 2) 1 even, le-ltb (length buffer) (n / 2) fits, ne_eqb (n / 2) 0 some, lt-ltb longest_row (n / 2) h)

            pub read_clip : n / 2 ≤ longest_row → record { answer = clip (n / 2) (rate f); samples = samples d ++ drop (n / 2) buffer } ≡ wav_read bytes buffer
            read_clip h =
                let half : length (samples d) ≡ n / 2 = samples_length (n / 2) d (g.count ∙ omega (arith, even)) in
                rw
                (outcome, p, g.count, ne_eqb (n % 2) 1 even, le-ltb (length buffer) (n / 2) fits, ne_eqb (n / 2) 0 some, le-ltb longest_row (n / 2) h, half)
