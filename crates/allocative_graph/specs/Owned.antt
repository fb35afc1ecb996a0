-- What a value holds on the heap, and what it owns. Nothing below a shared entry counts.
use Rattle.std.specs.Prelude.{ℕ, ◌+◌, ◌≡◌, ◌≤◌, ◌⊎◌, ◌-◌, Bool, true, false, List, [], ◌∷◌, ◌++◌, IsTrue}
use Rattle.std.specs.List.{AllByRecursion}
use Rattle.allocative_graph.specs.Forest.{Forest, Empty, Inline, Unique, First, Again, contents, AsInline, AsUnique}
use Rattle.allocative_graph.specs.Forest.{AsShared, Entry, own, followed_by, entry_of}
use Rattle.allocative_graph.specs.Path.{Key, Path, is_same_path}
use Rattle.allocative_graph.specs.Sums.{is_unique_mark, sums_of}
use Rattle.allocative_graph.specs.Graph.{graph, total}

-- ---- held bytes: the inline entries directly inside unique ones
-- The bytes of the inline entries at the top.
abbrev pub inline_bytes : Forest → ℕ
inline_bytes Empty = 0
inline_bytes (Inline k n inside after) = n + inline_bytes after
inline_bytes (Unique k n inside after) = inline_bytes after
inline_bytes (First k n i inside after) = inline_bytes after
inline_bytes (Again k n i after) = inline_bytes after

-- The bytes of the inline entries whose direct parent is a unique entry, with nothing below a shared entry.
abbrev pub held : Forest → ℕ
held Empty = 0
held (Inline k n inside after) = held inside + held after
held (Unique k n inside after) = inline_bytes inside + held inside + held after
held (First k n i inside after) = held after
held (Again k n i after) = held after

-- No shared entry shows its content: there are no contents.
abbrev pub ShowsNoContent : Forest → Type 0
ShowsNoContent f = AllByRecursion (λ c. ⊥) (contents f)

-- ---- owned bytes: those that each entry keeps for itself
-- The bytes of the entries at the top, whatever their marks.
abbrev pub direct : Forest → ℕ
direct Empty = 0
direct (Inline k n inside after) = n + direct after
direct (Unique k n inside after) = n + direct after
direct (First k n i inside after) = n + direct after
direct (Again k n i after) = n + direct after

-- The sum of what each entry keeps: all its bytes if it is unique or shared, otherwise those beyond the bytes
-- directly inside it, and never less than 0. Nothing below a shared entry counts.
abbrev pub owned : Forest → ℕ
owned Empty = 0
owned (Inline k n inside after) = (n - direct inside) + owned inside + owned after
owned (Unique k n inside after) = n + owned inside + owned after
owned (First k n i inside after) = n + owned after
owned (Again k n i after) = n + owned after

-- An entry by itself, and the bytes directly inside it.
pub record Owner : Type 0 where
  pub entry : Entry
  pub inside : ℕ

-- The own entries of f, each with the bytes directly inside it, and with the path p before theirs.
abbrev pub owners_behind : Path → Forest → List Owner
owners_behind p Empty = []
owners_behind p (Inline k n inside after) =
    record { entry = record { path = p ++ k ∷ []; size = n; mark = AsInline }; inside = direct inside }
    ∷ (owners_behind (p ++ k ∷ []) inside ++ owners_behind p after)
owners_behind p (Unique k n inside after) =
    record { entry = record { path = p ++ k ∷ []; size = n; mark = AsUnique }; inside = direct inside }
    ∷ (owners_behind (p ++ k ∷ []) inside ++ owners_behind p after)
owners_behind p (First k n i inside after) =
    record { entry = record { path = p ++ k ∷ []; size = n; mark = AsShared i }; inside = 0 } ∷ owners_behind p after
owners_behind p (Again k n i after) =
    record { entry = record { path = p ++ k ∷ []; size = n; mark = AsShared i }; inside = 0 } ∷ owners_behind p after

-- Whether the entry is unique.
abbrev pub owns_all : Owner → Bool
owns_all x = is_unique_mark x.entry.mark

-- Each of the entries at p has the property.
abbrev pub EachAt : Path → (Owner → Type 0) → List Owner → Type 0
EachAt p holds xs = AllByRecursion (λ x. IsTrue (is_same_path p x.entry.path) → holds x) xs

-- The entries at p are alike: each is unique; or none is, and each has at least the bytes directly inside it; or none
-- is, and each has at most those.
abbrev pub AreAlike : Path → List Owner → Type 0
AreAlike p xs = EachAt p (λ x. owns_all x ≡ true) xs
    ⊎ EachAt p (λ x. (owns_all x ≡ false) × (x.inside ≤ x.entry.size)) xs
    ⊎ EachAt p (λ x. (owns_all x ≡ false) × (x.entry.size ≤ x.inside)) xs

-- Two forests with the same entries in another order: two lists of entries change places, at the top or inside an
-- entry, as often as wanted.
pub data Reordered : Forest → Forest → Type 0 where
  exchanged : (f g : Forest) → Reordered (followed_by f g) (followed_by g f)
  within : {f g : Forest} (is_unique : Bool) (k : Key) (n : ℕ) → Reordered f g
      → Reordered (entry_of is_unique k n f) (entry_of is_unique k n g)
  beside : {f g : Forest} (h : Forest) → Reordered f g → Reordered (followed_by f h) (followed_by g h)
  in_turn : {f g h : Forest} → Reordered f g → Reordered g h → Reordered f h

-- What two forests own one after another adds up. The order of entries does not matter. If the entries at each path
-- are alike, a forest owns the total of the graph of its own entries. It owns at least the bytes of its top entries.
pub record OwnedLaw : Type 0 where
  pub adds_up : (f g : Forest) → owned (followed_by f g) ≡ owned f + owned g
  pub in_any_order : (f g : Forest) → Reordered f g → owned f ≡ owned g
  pub is_total : (f : Forest) → ((p : Path) → AreAlike p (owners_behind [] f)) →
      owned f ≡ total (graph (sums_of (own f)))
  pub at_least : (f : Forest) → direct f ≤ owned f
