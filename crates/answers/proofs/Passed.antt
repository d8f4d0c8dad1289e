-- A test that does not refuse has a condition that does not hold. Assumes nothing.
use Rattle.std.proofs.Common.{◌≡◌, refl, Bool, true, false, Result, Ok}
use Rattle.answers.specs.declared.Refusal.{Refusal}
use Rattle.answers.specs.Answers.{tested}

pub passed : (b : Bool) (r : Refusal) (answer : Result Unit Refusal) (u : Unit) → answer ≡ tested b r → answer ≡ Ok u → b ≡ false
passed true r answer u e f = absurd (cc)
passed false r answer u e f = refl
