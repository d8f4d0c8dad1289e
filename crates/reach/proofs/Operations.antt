-- How far one sample reaches in what accepted calls leave: two row transforms of rows that differ at one sample, each with buffers of its own, and the
-- values that are asked of them. Whoever has the two clauses of the row transform's contract, for both rows, cites one of these laws. Assumes nothing.
use mathlib.Core.List.{List}
use mathlib.Core.Path.{◌≡◌, sym, ap, ◌∙◌}
use Prim.Native.Nat.{ℕ, ◌*◌, ◌≤◌, ◌<◌}
use native.Mathlib.Nat.{div-add-mod'}
use native.Mathlib.Omega.{arith}
use lib.IntN.{ℤ, pos, ◌*ℤ◌}
use lib.ListN.{take}
use Rattle.bspline.specs.Exact.{RowAccurate}
use Rattle.bspline.specs.Limits.{greatest_factor}
use Rattle.bspline.specs.Lists.{at}
use Rattle.bspline.specs.Outcomes.{row_transform, row_zoom, row_value}
use Rattle.bspline.specs.Refusals.{count, value}
use Rattle.bspline.specs.Values.{Position, zoom_position, zoom_count}
use Rattle.bspline.proofs.Operations.{RowTaken, row_taken, taken_length, row_value_on, row_value_near, row_value_returns, zoom_left, row_zoom_values}
use Rattle.reach.specs.Reach.{DifferAt, apart, Away, CoefficientsNear, ValuesNear}
use Rattle.reach.proofs.Delivered.{accurate_near, accurate_values_near}

-- two rows that differ at place i by d; of each, that its transform has answered a count, and that what it has left is accurate
module _ (i : ℕ) (d : ℤ) (s t : List ℤ) (differ : DifferAt i d s t) (buffer work C W buffer' work' C' W' : List ℤ) (n n' : ℕ)
    (left : record { answer = count n; coefficients = C; work = W } ≡ row_transform s buffer work) (accurate : RowAccurate s C)
    (left' : record { answer = count n'; coefficients = C'; work = W' } ≡ row_transform t buffer' work') (accurate' : RowAccurate t C') where
  taken : RowTaken s C n
  taken = row_taken s buffer work C W n left accurate

  taken' : RowTaken t C' n'
  taken' = row_taken t buffer' work' C' W' n' left' accurate'

  -- the coefficients at place k differ by at most 4096 × 2|d| / 2^|k - i| and 3 units
  pub coefficients_near : (k : ℕ) → k < n → CoefficientsNear i d C C' k
  coefficients_near k l = accurate_near i d s t differ C C' accurate accurate' k (omega (arith, taken.count))

  -- at every sample but that at i row value answers the same of them
  pub other_samples_same : (m k : ℕ) → 0 < m → m ≤ greatest_factor → k < n → (k ≡ i → ⊥) →
      row_value m (take n' C') (record { k = k; j = 0 }) ≡ row_value m (take n C) (record { k = k; j = 0 })
  other_samples_same m k some small l other =
      row_value_returns t C' n' taken' m k some small (omega (arith, taken.count, taken'.count, differ.long))
      ∙ ap (λ z. value (pos 256 *ℤ z)) (differ.elsewhere k other)
      ∙ sym (row_value_returns s C n taken m k some small l)

  -- whatever row value answers of them at a position that is at least g places from i differs by at most 256 × 4/3 × |d| / 2^g and 19/16 units
  pub row_values_near : (m : ℕ) (p : Position) (v v' : ℤ) → row_value m (take n C) p ≡ value v → row_value m (take n' C') p ≡ value v' →
      (g : ℕ) → Away m p i g → ValuesNear g d v v'
  row_values_near m p v v' answer answer' =
      let on = row_value_on m (take n C) p v answer in
      accurate_values_near i d s t differ m p v v' (omega (arith, taken.some, taken.count)) on.0 (rw (taken_length s C n taken) at on.1)
      (row_value_near s C n taken m p v answer) (row_value_near t C' n' taken' m p v' answer')

  -- and so do the values that row zoom lists
  pub row_zooms_near : (m : ℕ) (values vs values' vs' : List ℤ) (q q' : ℕ) →
      record { answer = count q; values = vs } ≡ row_zoom m (take n C) values →
      record { answer = count q'; values = vs' } ≡ row_zoom m (take n' C') values' →
      (l : ℕ) → l < q → (g : ℕ) → g * m ≤ apart l (i * m) → ValuesNear g d (at vs l) (at vs' l)
  row_zooms_near m values vs values' vs' q q' f f' l h g away =
      row_values_near m (zoom_position m l) (at vs l) (at vs' l) (row_zoom_values m (take n C) values vs q f l h)
      (row_zoom_values m (take n' C') values' vs' q' f' l (omega (arith, count))) g (rw (div-add-mod' l m) away)
    where
      -- they are as many
      count : q' ≡ q
      count =
          (zoom_left m (take n' C') values' vs' q' f').2
          ∙ ap (zoom_count m) (taken_length t C' n' taken' ∙ differ.long ∙ sym (taken_length s C n taken))
          ∙ sym (zoom_left m (take n C) values vs q f).2
