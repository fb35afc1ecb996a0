-- What is shown of the items that an iterator gives, and the text of a profile.
use Rattle.std.specs.Prelude.{◌≡◌, ℕ, ◌<◌, ◌^◌, Bool, IsTrue, List, map, length, Option, Some, Result, codes}
use Rattle.std.specs.Iterator.{Drains, AlwaysYields}
use Rattle.allocative_described.specs.Sizes.{checked}
use Rattle.allocative_graph.specs.declared.refusal.Refusal.{Refusal}
use Rattle.allocative_graph.specs.Path.{Key}
use Rattle.allocative_graph.specs.Forest.{Forest}
use Rattle.allocative_graph.specs.Graph.{text}
use Rattle.allocative_graph.specs.Shows.{Showing, Both, Field}
use Rattle.allocative_graph.specs.Visits.{Profile, IsProfileOf}
use Rattle.allocative.specs.Strict.{FailsOnlyIfFull}
use Rattle.allocative.specs.declared.visitor.Visitor.{Visitor}

-- A forest that q allows for the items of some whole run of an iterator that starts at s; v is what a contract sees
-- of an item.
pub record IsOfRun {S A B : Type 0} (steps : S → Option A → S → Type 0) (s : S) (v : A → B) (q : List B → Showing)
    (f : Forest) : Type 0 where
  pub given : List A
  pub drained : Drains steps s given
  pub shown : q (map v given) f

-- If every run of an iterator that starts at s gives items that v takes to the same list, a strict visit of the
-- forests that q allows for that list refuses only if it must.
pub record RefusesAlong {S A B : Type 0} (is_strict : Bool) (steps : S → Option A → S → Type 0) (s : S) (v : A → B)
    (q : List B → Showing) (old new : Visitor) (r : Result (Unit {0}) Refusal) : Type 0 where
  pub along : IsTrue is_strict → (ys : List B) → AlwaysYields steps v s ys
      → FailsOnlyIfFull (q ys) old.collector.now r new.collector.now

-- So many items of a declared size can be counted: if items have size 0, their number fits a word.
abbrev pub CanCount : Option ℕ → ℕ → Type 0
CanCount size n = size ≡ Some 0 → n < 2 ^ 64

-- As `RefusesAlong`, for items of a declared size that are counted, if they can be.
pub record RefusesCounted {S A B : Type 0} (is_strict : Bool) (size : Option ℕ) (steps : S → Option A → S → Type 0)
    (s : S) (v : A → B) (q : List B → Showing) (old new : Visitor) (r : Result (Unit {0}) Refusal) : Type 0 where
  pub along : IsTrue is_strict → (ys : List B) → AlwaysYields steps v s ys → CanCount size (length ys)
      → FailsOnlyIfFull (q ys) old.collector.now r new.collector.now

-- A field with its name and declared size, with what p says of the value inside it.
abbrev pub field_of : {T : Type 0} → Key → Option ℕ → (T → Showing) → T → Showing
field_of name size p x = Field name size (p x)

-- The fields `key` and `value` of a pair.
abbrev pub pair_shows : {K V : Type 0} → Option ℕ → (K → Showing) → Option ℕ → (V → Showing) → K × V → Showing
pair_shows key_size p value_size q e =
    Both (Field (codes "key") key_size (p e.0)) (Field (codes "value") value_size (q e.1))

-- The number of items of some whole run, or None if it does not fit a word.
abbrev pub CountsRun : {S A : Type 0} → (S → Option A → S → Type 0) → S → Option ℕ → Type 0
CountsRun {A = A} steps s n = (xs : List A) × Drains steps s xs × (n ≡ checked (length xs))

-- The bytes are the collapsed stack text of a profile of some whole showing that p allows.
pub record IsTextOf (p : Showing) (bytes : List ℕ) : Type 0 where
  pub profile : Profile
  pub shown : IsProfileOf p profile
  pub written : bytes ≡ text profile.graph
