-- What the calls of sizes return, and why they are refused.
use Rattle.std.specs.Prelude.{◌≡◌, ℕ, ◌+◌, ◌<◌, ◌≤◌, ◌^◌, ◌⊎◌, Bool, IsTrue, Option, Some, Result, Ok, Err}
use Rattle.allocative_graph.specs.declared.refusal.Refusal.{Refusal}
use Rattle.allocative_graph.specs.declared.refusal.Refusal.TheVariants.{Memory, TooLarge}
use Rattle.allocative_graph.specs.Forest.{Forest}
use Rattle.allocative_graph.specs.Owned.{held, ShowsNoContent, owned}
use Rattle.allocative_graph.specs.Graph.{Graph, total}
use Rattle.allocative_graph.specs.Collector.{Kind, State, Going, OfGraph, OfSum, begin, close_entry, outer_of}
use Rattle.allocative_graph.specs.Collector.{no_entries, nothing_held, nothing_owned}
use Rattle.allocative_graph.specs.Shows.{Showing}
use Rattle.allocative_graph.specs.Visits.{Settles, IsGraphOf}
use Rattle.allocative.specs.Strict.{CanBeShown, FitsWords}
use Rattle.allocative.specs.Closures.{AnswersSum}
use Rattle.allocative.specs.Visited.{Effect, WasVisited}

-- The bytes that a value holds, by some forest that p allows.
abbrev pub IsSizeOfHeld : Showing → ℕ → Type 0
IsSizeOfHeld p bytes = (f : Forest) × p f × ShowsNoContent f × (bytes ≡ held f)

-- The bytes of a value: those that it holds, by some forest that p allows, and those of its own declared size.
abbrev pub IsSizeOfUnique : Option ℕ → Showing → ℕ → Type 0
IsSizeOfUnique size p bytes = (own : ℕ) × (size ≡ Some own) × (f : Forest) × p f × ShowsNoContent f
    × (bytes ≡ held f + own)

-- The bytes of f that are summed fit a word, and with one visitor open, which is the root's, so does each entry.
abbrev pub FitsSum : (Forest → ℕ) → Forest → Type 0
FitsSum bytes f = (bytes f < 2 ^ 64) × FitsWords 1 f

-- What p allows can be counted.
abbrev pub CanBeHeld : Showing → Type 0
CanBeHeld = CanBeShown (FitsSum held)

-- Why the bytes that a strict value holds are refused: only with TooLarge, if what it shows cannot be counted.
abbrev pub MayRefuseHeld : Bool → Showing → Refusal → Type 0
MayRefuseHeld is_strict p e = IsTrue is_strict → (e ≡ TooLarge) × ¬ CanBeHeld p

-- What p allows can be counted, there is a declared size, and what each forest that p allows holds fits a word
-- together with that size.
abbrev pub CanBeSized : Option ℕ → Showing → Type 0
CanBeSized size p = CanBeHeld p × (own : ℕ) × (size ≡ Some own) × ((f : Forest) → p f → held f + own < 2 ^ 64)

-- Why the size of a strict value is refused: only with TooLarge, if it cannot be counted together with the declared
-- size.
abbrev pub MayRefuseSize : Bool → Option ℕ → Showing → Refusal → Type 0
MayRefuseSize is_strict size p e = IsTrue is_strict → (e ≡ TooLarge) × ¬ CanBeSized size p

-- What is answered of a collector of held bytes and a declared size: the bytes of both; the first cause, or Open if a
-- visitor is out; or TooLarge, if there is no declared size or it does not fit a word together with the sum.
abbrev pub AnswersSize : Option ℕ → State → Result ℕ Refusal → Type 0
AnswersSize size s (Ok n) = (sum own : ℕ) × AnswersSum s (Ok sum) × (size ≡ Some own) × (n ≡ sum + own)
AnswersSize size s (Err e) = Settles s (Err e) ⊎ ((sum : ℕ) × AnswersSum s (Ok sum) × (e ≡ TooLarge)
    × ((own : ℕ) → size ≡ Some own → 2 ^ 64 ≤ sum + own))

-- A visit of this effect, which shows p, was made by a root visitor of the collector b, and the visitor was left. The
-- result is what is answered of the collector then.
pub record AnswersVisitOf {T : Type 0} (b : Kind) (p : Showing) (effect : Effect)
    (answers : State → Result T Refusal → Type 0) (result : Result T Refusal) : Type 0 where
  pub after : State
  pub visited : WasVisited p effect (Going (begin b)) after
  pub answer : answers (close_entry (outer_of 0 b) after) result

-- The same of a collector that holds nothing.
abbrev pub AnswersVisit : Showing → Effect → (State → Result ℕ Refusal → Type 0) → Result ℕ Refusal → Type 0
AnswersVisit = AnswersVisitOf (OfSum nothing_held)

-- The bytes that a value owns, by some forest that p allows.
abbrev pub IsSizeOfOwned : Showing → ℕ → Type 0
IsSizeOfOwned p bytes = (f : Forest) × p f × ShowsNoContent f × (bytes ≡ owned f)

-- Why the bytes that a strict value owns are refused: only with TooLarge, if not all that p allows can be counted.
abbrev pub MayRefuseOwned : Bool → Showing → Refusal → Type 0
MayRefuseOwned is_strict p e = IsTrue is_strict → (e ≡ TooLarge) × ¬ CanBeShown (FitsSum owned) p

-- The result is what is answered of a collector of owned bytes after the visit: their sum, the first cause, or Open.
abbrev pub AnswersOwned : Showing → Effect → Result ℕ Refusal → Type 0
AnswersOwned p effect = AnswersVisitOf (OfSum nothing_owned) p effect AnswersSum

-- The bytes of all that a value shows: the total of the graph of some whole showing that p allows.
abbrev pub IsSizeOfShown : Showing → ℕ → Type 0
IsSizeOfShown p bytes = (g : Graph) × IsGraphOf p g × (bytes ≡ total g)

-- Why the bytes of all that a value shows are refused: memory runs out, or e is the first cause in a collector of a
-- flame graph after the visit, or Open.
abbrev pub RefusesShown : Showing → Effect → Refusal → Type 0
RefusesShown p effect e = (e ≡ Memory) ⊎ AnswersVisitOf (OfGraph no_entries) p effect Settles (Err e)
