-- Laws of a test, for what is chosen by it: what follows from either outcome holds, and what holds of both sides of a choice holds of the one that
-- is taken. Assumes nothing.
use mathlib.Core.Bool.{Bool, true, false, not, cond}
use lib.Dec.{T}

pub by_test : (b : Bool) {Q : Type 0} → (T b → Q) → (T (not b) → Q) → Q
by_test true f g = f tt
by_test false f g = g tt

pub either : {A : Type 0} (P : A → Type 0) (b : Bool) {x y : A} → P x → P y → P (cond b x y)
either P true p q = p
either P false p q = q
