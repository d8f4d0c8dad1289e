-- What a "fmt " chunk says: "Clips as WAVE files". Its byte rate and block alignment are not looked at. Assumes nothing.
use Rattle.std.specs.Prelude.{Bool, ◌&&◌, List, ℕ, eqb}
use Rattle.wavefile.specs.Bytes.{number}

-- ---- the fields that are looked at, by their places in its body
abbrev pub tag : List ℕ → ℕ
tag f = number 0 2 f

abbrev pub channels : List ℕ → ℕ
channels f = number 2 2 f

abbrev pub rate : List ℕ → ℕ
rate f = number 4 4 f

abbrev pub bits : List ℕ → ℕ
bits f = number 14 2 f

-- ---- linear PCM (tag 1), one channel, 16 bits to a sample
abbrev pub plain : List ℕ → Bool
plain f = eqb (tag f) 1 && eqb (channels f) 1 && eqb (bits f) 16
