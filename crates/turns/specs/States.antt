-- Who waits, who was served last, and who comes next: "Sixteen stations". Assumes nothing.
use Rattle.std.specs.Prelude.{Bool, true, false, cond, List, ◌≡◌, ℕ, zero, suc, ◌+◌, ◌-◌, ◌%◌, ◌<◌, ltb, get_or, replicate}
use Rattle.std.proofs.Math.Option.{Option, none, some}

-- how many stations there are
abbrev pub stations : ℕ
stations = 16

-- A state: whether each station waits, and which one was served last
pub record State : Type 0 where
  pub waiting : List Bool
  pub last : ℕ

-- at first nobody waits, and a turn begins with 0
abbrev pub fresh : State
fresh = record { waiting = replicate stations false; last = stations - 1 }

-- whether a station waits
abbrev pub waits : State → ℕ → Bool
waits s k = get_or s.waiting k false

-- the station after one, going round: after the last comes 0
abbrev pub station_after : ℕ → ℕ
station_after k = cond (ltb k (stations - 1)) (k + 1) 0

-- of n stations, from k on and going round, the first that waits, or none
unfoldable pub first_waiting : List Bool → ℕ → ℕ → Option ℕ
first_waiting waiting k zero = none
first_waiting waiting k (suc n) = cond (get_or waiting k false) (some k) (first_waiting waiting (station_after k) n)

-- ---- the same by numbers, for the theorem about whom a turn names
-- of the sixteen stations after the one served last, in their order modulo 16, the first that waits
pub record FirstAfter (s : State) (k : ℕ) : Type 0 where
  pub steps : ℕ
  pub near : steps < stations
  pub comes : (s.last + 1 + steps) % stations ≡ k
  pub waiting : waits s k ≡ true
  pub skipped : (e : ℕ) → e < steps → waits s ((s.last + 1 + e) % stations) ≡ false
