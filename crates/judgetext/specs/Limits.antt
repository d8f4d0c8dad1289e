-- The limit of a text: "The program rowzoom". Assumes nothing.
use Rattle.std.specs.Prelude.{ℕ}

-- the longest text, in bytes
abbrev pub longest_text : ℕ
longest_text = 65536
