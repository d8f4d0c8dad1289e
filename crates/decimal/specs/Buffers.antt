-- Bytes in a buffer, from a place of it on. Assumes nothing.
use Rattle.std.specs.Prelude.{List, ◌++◌, ◌≡◌, ℕ, ◌+◌, length, take, drop}

-- bytes from a place of a buffer on; every other byte stays
abbrev pub put : ℕ → List ℕ → List ℕ → List ℕ
put at bytes buffer = take at buffer ++ (bytes ++ drop (at + length bytes) buffer)

-- a function has put bytes there, and answers where they end
pub record Put (at : ℕ) (bytes before after : List ℕ) (end : ℕ) : Type 0 where
  pub all : after ≡ put at bytes before
  pub ends : end ≡ at + length bytes
