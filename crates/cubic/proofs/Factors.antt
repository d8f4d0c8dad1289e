-- A factor that is none of those from 1 to 15 is 16: the last arm of a match on the factors. Assumes nothing.
use mathlib.Core.Path.{◌≡◌}
use Prim.Native.Nat.{ℕ, ◌+◌, ◌≤◌}
use native.Mathlib.Omega.{arith}
use Rattle.answers.specs.Limits.{Factor}

-- five keys from k on that m is not
abbrev Missed : Type 0 → ℕ → ℕ → Type 0
Missed A k m = ((((A × (m ≡ k → ⊥)) × (m ≡ k + 1 → ⊥)) × (m ≡ k + 2 → ⊥)) × (m ≡ k + 3 → ⊥)) × (m ≡ k + 4 → ⊥)

past : {A : Type 0} (k : ℕ) {m : ℕ} → k ≤ m → Missed A k m → k + 5 ≤ m
past k h missed = omega (arith, missed.0.0.0.0.1, missed.0.0.0.1, missed.0.0.1, missed.0.1, missed.1)

pub last_factor : {A : Type 0} (m : ℕ) → Factor m → Missed (Missed (Missed A 1 m) 6 m) 11 m → m ≡ 16
last_factor m factor missed =
    let six = past 1 factor.some missed.0.0.0.0.0.0.0.0.0.0 in
    omega (arith, past 11 (past 6 six missed.0.0.0.0.0) missed, factor.small)
