-- A name is compared as the number of its four bytes. Assumes nothing.
use Rattle.std.proofs.Common.{List, [], ◌∷◌, ◌≡◌, ℕ, ◌+◌, ◌≤◌, ◌<◌, ◌*◌, length, get_or, nat_eq, arith}
use Rattle.std.specs.Int.{w32, from_le_bytes}
use Rattle.wavefile.specs.Bytes.{number}
use Rattle.wavefile.specs.Chunks.{named}
use Rattle.wavefile.proofs.Parts.{name_test}

pub name_number : (l name : List ℕ) → 4 ≤ length l → length name ≡ 4 → ((i : ℕ) → get_or l i 0 < 256) → ((i : ℕ) → get_or name i 0 < 256) →
    nat_eq (number 0 4 l) (from_le_bytes w32 name) ≡ named name l
name_number l [] h e bytes names = absurd (omega arith)
name_number l (a ∷ []) h e bytes names = absurd (omega arith)
name_number l (a ∷ b ∷ []) h e bytes names = absurd (omega arith)
name_number l (a ∷ b ∷ c ∷ []) h e bytes names = absurd (omega arith)
name_number l (a ∷ b ∷ c ∷ d ∷ []) h e bytes names =
    let worth : from_le_bytes w32 (a ∷ b ∷ c ∷ d ∷ []) ≡ a + 256 * b + 65536 * c + 16777216 * d = omega arith in
    rw worth (name_test 0 l a b c d h bytes (names 0) (names 1) (names 2))
name_number l (a ∷ b ∷ c ∷ d ∷ x ∷ name) h e bytes names = absurd (omega arith)
