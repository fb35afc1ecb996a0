-- Which forests a value may show, built from those of its parts.
use Rattle.std.specs.Prelude.{◌≡◌, ℕ, ◌*◌, ◌==◌, ◌⊎◌, Bool, true, false, not, ◌&&◌, length, List, [], ◌∷◌, Option, None}
use Rattle.std.specs.Prelude.{Some}
use Rattle.allocative_graph.specs.Path.{Key}
use Rattle.allocative_graph.specs.Identity.{Identity}
use Rattle.allocative_graph.specs.Forest.{Forest, Empty, First, Again, entry_of, followed_by}

-- A set of forests: those that a value may show.
abbrev pub Showing : Type 1
Showing = Forest → Type 0

-- No entry.
abbrev pub Nothing : Showing
Nothing f = f ≡ Empty

-- A forest of p followed by one of q.
abbrev pub Both : Showing → Showing → Showing
Both p q f = (g : Forest) × (h : Forest) × p g × q h × (f ≡ followed_by g h)

-- One entry, unique or inline, with a forest of p inside it.
abbrev pub InsideAs : Bool → Key → ℕ → Showing → Showing
InsideAs is_unique k n p f = (g : Forest) × p g × (f ≡ entry_of is_unique k n g)

-- One inline entry, with a forest of p inside it.
abbrev pub Inside : Key → ℕ → Showing → Showing
Inside = InsideAs false

-- One unique entry, with a forest of p inside it.
abbrev pub Unique : Key → ℕ → Showing → Showing
Unique = InsideAs true

-- One inline entry of a declared size, with a forest of p inside it. If there is no size, there is no forest.
pub data IsField (k : Key) (p : Showing) : Option ℕ → Forest → Type 0 where
  sized : {n : ℕ} {f : Forest} → Inside k n p f → IsField k p (Some n) f

-- The showing of one inline entry of a declared size, with a forest of p inside it.
abbrev pub Field : Key → Option ℕ → Showing → Showing
Field k size p = IsField k p size

-- A shared entry, with a forest of p as its content or without a content. The identities met decide which of the two
-- fits.
abbrev pub Shared : Key → ℕ → Identity → Showing → Showing
Shared k n i p f = ((g : Forest) × p g × (f ≡ First k n i g Empty)) ⊎ (f ≡ Again k n i Empty)

-- The forests of some items, one after another.
abbrev pub each_shows : {T : Type 0} → (T → Showing) → List T → Showing
each_shows p [] = Nothing
each_shows p (x ∷ xs) = Both (p x) (each_shows p xs)

-- Whether the items of a slice are shown one by one: if they need a drop and their size is not 0.
abbrev pub is_shown_each : Bool → ℕ → Bool
is_shown_each needs_drop size = needs_drop && not (size == 0)

-- A slice of items of a declared name and size: the forest of each item if they are shown one by one, otherwise one
-- inline entry with the item's name and all bytes. If there is no size, there is no forest.
abbrev pub slice_shows : {T : Type 0} → Key → Option ℕ → Bool → (T → Showing) → List T → Showing
slice_shows name None needs_drop p xs = λ f. ⊥
slice_shows name (Some s) needs_drop p xs =
    elim (is_shown_each needs_drop s) [ true ↦ each_shows p xs | false ↦ Inside name (s * length xs) Nothing ]
