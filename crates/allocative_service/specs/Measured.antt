-- The bytes that are counted of a value.
use Rattle.std.specs.Prelude.{◌≡◌, ℕ, Bool, Option, Result, IfErr, MatchResult}
use Rattle.allocative.specs.Strict.{MayRefuseProfile}
use Rattle.allocative.specs.Refusal.{Refusal}
use Rattle.allocative.specs.Shows.{Showing}
use Rattle.allocative.specs.SizeOf.{IsSizeOfOwned, IsSizeOfUnique, MayRefuseOwned, MayRefuseSize, AnswersOwned}
use Rattle.allocative.specs.SizeOf.{AnswersSize, AnswersVisit, IsSizeOfShown, RefusesShown}
use Rattle.allocative.specs.Visited.{Effect}
use Rattle.allocative_service.specs.declared.book.rejection.Rejection.{Rejection}
use Rattle.allocative_service.specs.declared.book.rejection.Rejection.TheVariants.{NotMeasured}
use Rattle.allocative_service.specs.declared.measure.Measure.{Measure}
use Rattle.allocative_service.specs.declared.measure.Measure.TheVariants.{Owned, Shown, Unique}

-- By the measure, a value of a declared size that may show what p allows declares these bytes.
abbrev pub Declares : Measure → Option ℕ → Showing → ℕ → Type 0
Declares Owned size p bytes = IsSizeOfOwned p bytes
Declares Shown size p bytes = IsSizeOfShown p bytes
Declares Unique size p bytes = IsSizeOfUnique size p bytes

-- Why a value is not measured. One of a strict type is refused as `size_of_owned`
-- of it, as a profile of it, or as `size_of_unique` of it.
abbrev pub MayRefuseMeasure : Measure → Bool → Option ℕ → Showing → Refusal → Type 0
MayRefuseMeasure Owned is_strict size p e = MayRefuseOwned is_strict p e
MayRefuseMeasure Shown is_strict size p e = MayRefuseProfile is_strict p e
MayRefuseMeasure Unique is_strict size p e = MayRefuseSize is_strict size p e

-- What measuring a value comes to: bytes that it declares, or why it could not be measured, as the rejection says.
abbrev pub Measures : Measure → Bool → Option ℕ → Showing → Result ℕ Rejection → Type 0
Measures measure is_strict size p result = MatchResult result (Declares measure size p)
    (λ r. (e : Refusal) × (r ≡ NotMeasured e) × MayRefuseMeasure measure is_strict size p e)

-- What is answered, by the measure, of a value of a declared size after a visit of this effect, which shows p: that of
-- `size_of_owned`, of `size_of_shown`, or of `size_of_unique`.
abbrev pub AnswersMeasure : Measure → Option ℕ → Showing → Effect → Result ℕ Refusal → Type 0
AnswersMeasure Owned size p effect result = AnswersOwned p effect result
AnswersMeasure Shown size p effect result = IfErr result (RefusesShown p effect)
AnswersMeasure Unique size p effect result = AnswersVisit p effect (AnswersSize size) result
