-- From an operation's own clause to that of its function for C: the answer is replaced by its code. Assumes nothing.
use mathlib.Core.List.{List}
use mathlib.Core.Path.{◌≡◌, sym, ap, ◌∙◌}
use lib.IntN.{ℤ}
use mir.Facts.{to_z-of_z}
use mir.Syntax.{w64}
use mir.Val.{SFits, to_z, of_z}
use Rattle.bspline.specs.Outcomes.{Transformed, Evaluated}
use Rattle.bspline.specs.Refusals.{Answer}
use Rattle.wavefile.specs.Outcomes.{Read, Answer as Reading}
use Rattle.harness.specs.Codes.{CodedTransform, CodedValues, CodedRead, code, clip_code, coded_transform, coded_values, coded_read}

pub coded_transform_lem : (a : Answer) {x : ℤ} {C work : List ℤ} {o : Transformed} → x ≡ code a →
    record { answer = a; coefficients = C; work = work } ≡ o → ◌≡◌ {A = CodedTransform} (record { answer = x; coefficients = C; work = work }) (coded_transform o)
coded_transform_lem a {C = C} {work} e f =
    ap (λ (x : ℤ). record { answer = x; coefficients = C; work = work }) e ∙ ap coded_transform f

pub coded_values_lem : (a : Answer) {x : ℤ} {v : List ℤ} {o : Evaluated} → x ≡ code a →
    record { answer = a; values = v } ≡ o → ◌≡◌ {A = CodedValues} (record { answer = x; values = v }) (coded_values o)
coded_values_lem a {v = v} e f = ap (λ (x : ℤ). record { answer = x; values = v }) e ∙ ap coded_values f

pub coded_read_lem : (a : Reading) {x : ℤ} {s : List ℤ} {o : Read} → x ≡ clip_code a →
    record { answer = a; samples = s } ≡ o → ◌≡◌ {A = CodedRead} (record { answer = x; samples = s }) (coded_read o)
coded_read_lem a {s = s} e f = ap (λ (x : ℤ). record { answer = x; samples = s }) e ∙ ap coded_read f

-- a number that is the code of one case of an enum, answered where the enum is that case
pub case_code : {A : Type 0} (coded : A → ℤ) {a b : A} {x : ℤ} → SFits w64 x → x ≡ coded b → a ≡ b → to_z w64 (of_z w64 x) ≡ coded a
case_code coded f e g = to_z-of_z f ∙ e ∙ sym (ap coded g)
