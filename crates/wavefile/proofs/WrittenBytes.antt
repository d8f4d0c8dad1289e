-- What is written of samples are bytes, numbers below 256, so that it can be lent as a file. Assumes nothing.
use mathlib.Core.List.{List, [], ◌∷◌, ◌++◌}
use mathlib.Mathlib.Data.List.Basic.{Forall-cons, Forall-append}
use mathlib.Mathlib.Data.List.Defs.{Forall}
use Prim.Native.Nat.{ℕ, zero, suc, ◌+◌, ◌*◌, ◌/◌, ◌%◌, ◌<◌}
use native.Mathlib.Nat.{mod-lt}
use lib.Dec.{lit<}
use lib.IntN.{ℤ}
use lib.ListN.{length, replicate}
use Rattle.wavefile.specs.Writing.{little_bytes, chunk_bytes, file_of, plain_format, unsigned, sample_bytes, format_chunk, data_chunk, written}

record Bytes (l : List ℕ) : Type 0 where
  below : Forall (λ b. b < 256) l

none : Bytes []
unfolding Forall
none = record { below = tt }

before : {b : ℕ} {l : List ℕ} → b < 256 → Bytes l → Bytes (b ∷ l)
before {b} {l} h f = record { below = (Forall-cons (λ b. b < 256) b l).1 (h, f.below) }

join : {a b : List ℕ} → Bytes a → Bytes b → Bytes (a ++ b)
join {a} {b} f g = record { below = (Forall-append (λ b. b < 256) a b).1 (f.below, g.below) }

number : (n v : ℕ) → Bytes (little_bytes n v)
number zero v = none
number (suc n) v = before (mod-lt v (lit< tt)) (number n (v / 256))

pad : (n : ℕ) → Bytes (replicate n 0)
pad zero = none
pad (suc n) = before (lit< tt) (pad n)

-- the marks and names
name : {a b c d : ℕ} → a < 256 → b < 256 → c < 256 → d < 256 → Bytes (a ∷ b ∷ c ∷ d ∷ [])
name a b c d = before a (before b (before c (before d none)))

samples : (s : List ℤ) → Bytes (sample_bytes s)
unfolding sample_bytes
samples [] = none
samples (z ∷ zs) = join (number 2 (unsigned z)) (samples zs)

format : (r : ℕ) → Bytes (plain_format r)
format r = join (join (join (join (join (number 2 1) (number 2 1)) (number 4 r)) (number 4 (2 * r))) (number 2 2)) (number 2 16)

chunk : {n : List ℕ} {content : List ℕ} → Bytes n → Bytes content → Bytes (chunk_bytes (record { name = n; content = content; pad = 0 }))
unfolding chunk_bytes
chunk {content = content} n c = join (join (join n (number 4 (length content))) c) (pad (length content % 2))

pub written_bytes : (r : ℕ) (s : List ℤ) → Forall (λ b. b < 256) (written r s)
unfolding written file_of
written_bytes r s =
    let chunks = join (chunk (name (lit< tt) (lit< tt) (lit< tt) (lit< tt)) (format r)) (chunk (name (lit< tt) (lit< tt) (lit< tt) (lit< tt)) (samples s)) in
    let size = number 4 (4 + length (chunk_bytes (format_chunk r) ++ chunk_bytes (data_chunk s))) in
    (join (join (join (name (lit< tt) (lit< tt) (lit< tt) (lit< tt)) size) (name (lit< tt) (lit< tt) (lit< tt) (lit< tt))) chunks).below
