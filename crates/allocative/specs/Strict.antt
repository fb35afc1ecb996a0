-- When a visit, a profile and the sum of two profiles refuse only if they must.
use Rattle.std.specs.Prelude.{◌≡◌, ℕ, suc, ◌+◌, ◌<◌, ◌^◌, ◌⊎◌, Bool, true, IsTrue, ⊤, Result, Ok, Err}
use Rattle.allocative_graph.specs.declared.refusal.Refusal.{Refusal}
use Rattle.allocative_graph.specs.declared.refusal.Refusal.TheVariants.{Memory, TooLarge, Open}
use Rattle.allocative_graph.specs.Forest.{Forest, Empty, Inline, Unique, First, Again}
use Rattle.allocative_graph.specs.Sums.{bytes_entered}
use Rattle.allocative_graph.specs.Collector.{Kind, OfGraph, OfSum, State, Failed, Going, plus, plus_sum, Takes, is_graph}
use Rattle.allocative_graph.specs.Collector.{begin, IsClosed}
use Rattle.allocative_graph.specs.Shows.{Showing}
use Rattle.allocative_graph.specs.Visits.{Profile, IsProfileOf}

-- The bytes of all entries of f, with those of its contents.
abbrev pub all_bytes : Forest → ℕ
all_bytes Empty = 0
all_bytes (Inline k n inside after) = n + (all_bytes inside + all_bytes after)
all_bytes (Unique k n inside after) = n + (all_bytes inside + all_bytes after)
all_bytes (First k n i inside after) = n + (all_bytes inside + all_bytes after)
all_bytes (Again k n i after) = n + all_bytes after

-- When so many visitors are open, the bytes of each entry of f that is not shared and not below a shared one fit a
-- word, and so does the number of visitors that are open at it.
abbrev pub FitsWords : ℕ → Forest → Type 0
FitsWords open_visitors Empty = ⊤
FitsWords open_visitors (Inline k n inside after) = (n < 2 ^ 64) × (suc open_visitors < 2 ^ 64)
    × FitsWords (suc open_visitors) inside × FitsWords open_visitors after
FitsWords open_visitors (Unique k n inside after) = (n < 2 ^ 64) × (suc open_visitors < 2 ^ 64)
    × FitsWords (suc open_visitors) inside × FitsWords open_visitors after
FitsWords open_visitors (First k n i inside after) = FitsWords open_visitors after
FitsWords open_visitors (Again k n i after) = FitsWords open_visitors after

-- The forest f exceeds no bound of the collector. A flame graph counts all bytes. The collector of a sum counts what is
-- held, or what is owned, and each entry has to fit.
abbrev pub HasRoomFor : Kind → Forest → Type 0
HasRoomFor (OfGraph c) f = bytes_entered c.sums + all_bytes f < 2 ^ 63
HasRoomFor (OfSum s) f = ((plus_sum s f).sum < 2 ^ 64) × FitsWords s.open_visitors f

-- Each shared entry of f shows its content.
abbrev pub ShowsContents : Forest → Type 0
ShowsContents Empty = ⊤
ShowsContents (Inline k n inside after) = ShowsContents inside × ShowsContents after
ShowsContents (Unique k n inside after) = ShowsContents inside × ShowsContents after
ShowsContents (First k n i inside after) = ShowsContents inside × ShowsContents after
ShowsContents (Again k n i after) = ⊥

-- p allows a forest that shows all its contents. So each declared size that p asks for is there.
abbrev pub IsDeclared : Showing → Type 0
IsDeclared p = (f : Forest) × p f × ShowsContents f

-- Whatever p allows can be shown: p allows a forest that shows all its contents, and there is room for each forest that
-- p allows.
abbrev pub CanBeShown : (Forest → Type 0) → Showing → Type 0
CanBeShown HasRoom p = IsDeclared p × ((f : Forest) → p f → HasRoom f)

-- Whatever p allows can be added to the collector.
abbrev pub CanTake : Kind → Showing → Type 0
CanTake b = CanBeShown (HasRoomFor b)

-- Why a visit that shows p may be refused at a collector: TooLarge, if not all that p allows can be added; Memory, if
-- the collector is that of a flame graph; never Open.
abbrev pub MayRefuse : Showing → Kind → Refusal → Type 0
MayRefuse p b Memory = is_graph b ≡ true
MayRefuse p b TooLarge = ¬ CanTake b p
MayRefuse p b Open = ⊥

-- A visit that shows p refuses only if it must. After Ok the collector has one more forest, which p allows and the
-- collector takes. An Err is the collector's cause, and says why the visit may be refused. Nothing is said of a
-- collector that had failed.
pub data FailsOnlyIfFull (p : Showing) : State → Result Unit Refusal → State → Type 0 where
  had_failed : {r : Refusal} {result : Result Unit Refusal} {t : State} → FailsOnlyIfFull p (Failed r) result t
  has_added : {b c : Kind} {u : Unit} (f : Forest) → p f → Takes b f → c ≡ plus b f
      → FailsOnlyIfFull p (Going b) (Ok u) (Going c)
  has_refused : {b : Kind} {e : Refusal} → MayRefuse p b e → FailsOnlyIfFull p (Going b) (Err e) (Failed e)

-- A visit of p by a root visitor refuses only if it must. If the visit is strict, and the collector was going with no
-- open visitor, an Err is the collector's cause, and says why p may be refused with the root visitor open. What else
-- may happen is said by `VisitsRoot`.
abbrev pub RootFailsOnlyIfFull : Bool → Showing → State → Result Unit Refusal → State → Type 0
RootFailsOnlyIfFull is_strict p (Failed r) result t = ⊤
RootFailsOnlyIfFull is_strict p (Going b) (Ok u) t = ⊤
RootFailsOnlyIfFull is_strict p (Going b) (Err e) t =
    IsTrue is_strict → IsClosed b → (t ≡ Failed e) × MayRefuse p (begin b) e

-- Whatever p allows can be profiled: all bytes of a forest are below 2 ^ 63.
abbrev pub CanBeProfiled : Showing → Type 0
CanBeProfiled = CanBeShown (λ f. all_bytes f < 2 ^ 63)

-- Why the profile of a strict p is refused: with Memory, or with TooLarge, if not all that p allows can be profiled.
abbrev pub MayRefuseProfile : Bool → Showing → Refusal → Type 0
MayRefuseProfile is_strict p e = IsTrue is_strict → (e ≡ Memory) ⊎ ((e ≡ TooLarge) × ¬ CanBeProfiled p)

-- Why the sum of two profiles is refused. The left one, of what p allows, is refused as its profile may be. Or it was
-- made, and the right one, of what q allows, is refused so. Or both were made, and memory runs out when they are added.
pub data RefusesInTwo (is_strict : Bool) (p q : Showing) (e : Refusal) : Type 0 where
  left_refused : MayRefuseProfile is_strict p e → RefusesInTwo is_strict p q e
  right_refused : {left : Profile} → IsProfileOf p left → MayRefuseProfile is_strict q e → RefusesInTwo is_strict p q e
  adding_refused : {left right : Profile} → IsProfileOf p left → IsProfileOf q right → e ≡ Memory
      → RefusesInTwo is_strict p q e
