-- What calls that visit no part return: their entries are made in reading order, each refused as entering says. And
-- what calls do that visit the items of an iterator.
use Rattle.std.specs.Prelude.{◌≡◌, ℕ, ◌-◌, Bool, true, false, List, length, Option, Some, Result, Ok, Err, codes}
use Rattle.allocative_described.specs.Sizes.{size_product}
use Rattle.allocative_graph.specs.declared.refusal.Refusal.{Refusal}
use Rattle.allocative_graph.specs.Path.{Key}
use Rattle.allocative_graph.specs.Collector.{Kind, State, Failed, Going, Restore}
use Rattle.allocative_graph.specs.Shows.{Showing, Inside, each_shows}
use Rattle.allocative_graph.specs.Visits.{OpensEntry, HasFailed, ClosesEntry}
use Rattle.allocative.specs.Bodies.{are_shown_each}
use Rattle.allocative.specs.Runs.{CountsRun, IsOfRun, RefusesAlong}
use Rattle.allocative.specs.Visited.{Entered}
use Rattle.allocative.specs.declared.visitor.Visitor.{Visitor}

-- Inline entries to be made: none; or one of a declared size, with some inside it and others after it.
pub data Plan : Type 0 where
  Done : Plan
  Entry : Key → Option ℕ → Plan → Plan → Plan

-- One entry with none inside it.
abbrev pub one : Key → Option ℕ → Plan
one k size = Entry k size Done Done

-- The entries of one plan followed by those of another.
abbrev pub followed_by_plan : Plan → Plan → Plan
followed_by_plan Done q = q
followed_by_plan (Entry k size inside after) q = Entry k size inside (followed_by_plan after q)

-- What making the entries of a plan in reading order does. A failed collector returns its first cause. Otherwise each
-- entry is refused as `OpensEntry` says, and the first error is returned; or it is entered, those inside it are made,
-- it is left, and those after it are made.
pub data Makes : Plan → State → Result Unit Refusal → State → Type 0 where
  had_failed : {p : Plan} {r : Refusal} → Makes p (Failed r) (Err r) (Failed r)
  made_none : {b : Kind} {u : Unit} → Makes Done (Going b) (Ok u) (Going b)
  made : {k : Key} {size : Option ℕ} {inside after : Plan} {s t c d z : State} {o : Restore} {v : Unit}
      {r : Result Unit Refusal} → OpensEntry false k size s (Ok o) t → Makes inside t (Ok v) c → ClosesEntry o c d →
      Makes after d r z → Makes (Entry k size inside after) s r z
  entry_refused : {k : Key} {size : Option ℕ} {inside after : Plan} {s t : State} {e : Refusal}
      → OpensEntry false k size s (Err e) t → Makes (Entry k size inside after) s (Err e) t
  inside_refused : {k : Key} {size : Option ℕ} {inside after : Plan} {s t c : State} {o : Restore} {e : Refusal}
      → OpensEntry false k size s (Ok o) t → Makes inside t (Err e) c → Makes (Entry k size inside after) s (Err e) c

-- No item of a slice is visited: there is none, or they are not shown one by one.
abbrev pub VisitsNone : {T : Type 0} → Bool → Option ℕ → List T → Type 0
VisitsNone needs_drop size xs = are_shown_each needs_drop size ≡ true → length xs ≡ 0

-- The entries of a slice of which no item is visited.
abbrev pub slice_plan : {T : Type 0} → Key → Option ℕ → Bool → List T → Plan
slice_plan name size needs_drop xs =
    elim (are_shown_each needs_drop size) [ true ↦ Done | false ↦ one name (size_product size (Some (length xs))) ]

-- The entries of a slice of which no item is visited, followed by that of the room that is left of n places.
abbrev pub room_plan : {T : Type 0} → Key → Option ℕ → Bool → List T → ℕ → Plan
room_plan name size needs_drop xs n =
    followed_by_plan (slice_plan name size needs_drop xs)
    (one (codes "unused_capacity") (size_product size (Some (n - length xs))))

-- The entries of the body of a vector with room for n items, if no item of its slice is visited.
abbrev pub vec_plan : {T : Type 0} → Key → Option ℕ → Bool → List T → ℕ → Plan
vec_plan name size needs_drop xs n =
    Entry (codes "capacity") (size_product size (Some n)) (room_plan name size needs_drop xs n) Done

-- ---- of visitors
-- What making the entries of a plan at a visitor does to its collector.
abbrev pub MakesPlan : Plan → Visitor → Visitor → Result Unit Refusal → Type 0
MakesPlan p old new r = Makes p old.collector.now r new.collector.now

-- What a call that makes an entry of its own first does to the collector of its visitor: the entry is refused as
-- entering says, and nothing else is entered; or it is entered, and anything may follow.
pub data MakesFirst (k : Key) (size : Option ℕ) (old new : Visitor) : Result Unit Refusal → Type 0 where
  first_refused : {e : Refusal} → OpensEntry false k size old.collector.now (Err e) new.collector.now
      → MakesFirst k size old new (Err e)
  first_entered : {o : Restore} {w : State} {r : Result Unit Refusal}
      → OpensEntry false k size old.collector.now (Ok o) w → MakesFirst k size old new r

-- A visitor whose collector had failed returns its first cause, and the collector stays as it is. Nothing is said of
-- one that has not failed.
pub record KeepsFailure (old new : Visitor) (r : Result Unit Refusal) : Type 0 where
  pub keeps : (e : Refusal) → HasFailed old.collector.now e → (r ≡ Err e) × HasFailed new.collector.now e

-- What a call at a visitor over an iterator does to its collector: it makes the entries of a plan, or the iterator,
-- at s, may give an item.
pub data MakesPlanOrGives {S A : Type 0} (steps : S → Option A → S → Type 0) (s : S) (p : Plan) (old new : Visitor)
    (r : Result Unit Refusal) : Type 0 where
  makes : MakesPlan p old new r → MakesPlanOrGives steps s p old new r
  gives : (x : A) (t : S) → steps s (Some x) t → MakesPlanOrGives steps s p old new r

-- What `visit_iter` at a visitor does to its collector if it visits no item. Items that are shown one by one are
-- none, and no entry is made. Others are counted, and one entry of their bytes is made.
pub data MakesPlanRun {S A : Type 0} (steps : S → Option A → S → Type 0) (s : S) (name : Key) (size : Option ℕ)
    (is_each : Bool) (old new : Visitor) (r : Result Unit Refusal) : Type 0 where
  each_plan : is_each ≡ true → MakesPlanOrGives steps s Done old new r
      → MakesPlanRun steps s name size is_each old new r
  counted_plan : {count : Option ℕ} → is_each ≡ false → CountsRun steps s count
      → MakesPlan (one name (size_product size count)) old new r → MakesPlanRun steps s name size is_each old new r

-- ---- over an iterator
-- The collector was shown what q allows for the items of some whole run of an iterator that starts at s; v is what a
-- contract sees of an item.
abbrev pub EntersRun : {S A B : Type 0} → (S → Option A → S → Type 0) → S → (A → B) → (List B → Showing)
    → Visitor → Visitor → Result (Unit {0}) Refusal → Type 0
EntersRun steps s v q = Entered false (IsOfRun steps s v q)

-- The inline entry `data` of 8 bytes, with what p says of each item that an iterator at s gives inside it; v is what a
-- contract sees of an item.
pub record EntersData {S A B : Type 0} (is_strict : Bool) (steps : S → Option A → S → Type 0) (s : S) (v : A → B)
    (p : B → Showing) (old new : Visitor) (r : Result (Unit {0}) Refusal) : Type 0 where
  -- The items are those of some whole run.
  pub entered : Entered false (Inside (codes "data") 8 (IsOfRun steps s v (each_shows p))) old new r
  -- Items of strict types are refused only where they must be, if every run gives the same items.
  pub only_if_full : RefusesAlong is_strict steps s v (λ xs. Inside (codes "data") 8 (each_shows p xs)) old new r
  -- The entry comes before what is inside it.
  pub first : MakesFirst (codes "data") (Some 8) old new r
  -- If the iterator gives no item, the entry is all that is made.
  pub plan : MakesPlanOrGives steps s (one (codes "data") (Some 8)) old new r
