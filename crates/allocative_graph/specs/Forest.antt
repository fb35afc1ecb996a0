-- What a visit shows: a list of entries, each with the entries inside it.
use Rattle.std.specs.Prelude.{◌≡◌, ℕ, true, false, cond, Bool, List, [], ◌∷◌, ◌++◌, map, flat_map, fold, ⊤}
use Rattle.std.specs.FinSet.{contains, insert}
use Rattle.allocative_graph.specs.Path.{Key, Path}
use Rattle.allocative_graph.specs.Identity.{Identity, Identities}

-- A list of entries: its first entry, the entries inside that one, and the entries after it. `First` is a shared
-- entry that shows its content, `Again` a shared entry that does not.
pub data Forest : Type 0 where
  Empty : Forest
  Inline : Key → ℕ → Forest → Forest → Forest
  Unique : Key → ℕ → Forest → Forest → Forest
  First : Key → ℕ → Identity → Forest → Forest → Forest
  Again : Key → ℕ → Identity → Forest → Forest

-- The entries of the first forest, and then those of the second.
abbrev pub followed_by : Forest → Forest → Forest
followed_by Empty g = g
followed_by (Inline k n inside after) g = Inline k n inside (followed_by after g)
followed_by (Unique k n inside after) g = Unique k n inside (followed_by after g)
followed_by (First k n i inside after) g = First k n i inside (followed_by after g)
followed_by (Again k n i after) g = Again k n i (followed_by after g)

-- One entry, unique or inline, with f inside it.
abbrev pub entry_of : Bool → Key → ℕ → Forest → Forest
entry_of is_unique k n f = cond is_unique (Unique k n f Empty) (Inline k n f Empty)

-- How an entry was entered: inline, unique or shared.
pub data Mark : Type 0 where
  AsInline : Mark
  AsUnique : Mark
  AsShared : Identity → Mark

-- An entry by itself: its path, its bytes and how it was entered.
pub record Entry : Type 0 where
  pub path : Path
  pub size : ℕ
  pub mark : Mark

-- A bag is a list of entries whose order does not count: whatever is stated of a bag holds for each of its orders.
abbrev pub Bag : Type 0
Bag = List Entry

-- The entries of f with the path p before theirs, without the contents of shared entries.
abbrev pub own_behind : Path → Forest → Bag
own_behind p Empty = []
own_behind p (Inline k n inside after) =
    record { path = p ++ k ∷ []; size = n; mark = AsInline } ∷ (own_behind (p ++ k ∷ []) inside ++ own_behind p after)
own_behind p (Unique k n inside after) =
    record { path = p ++ k ∷ []; size = n; mark = AsUnique } ∷ (own_behind (p ++ k ∷ []) inside ++ own_behind p after)
own_behind p (First k n i inside after) =
    record { path = p ++ k ∷ []; size = n; mark = AsShared i } ∷ own_behind p after
own_behind p (Again k n i after) = record { path = p ++ k ∷ []; size = n; mark = AsShared i } ∷ own_behind p after

-- The own entries of f, with paths from its top.
abbrev pub own : Forest → Bag
own f = own_behind [] f

-- Each identity whose content is shown, with the own entries of that content, whose paths start at the root.
abbrev pub contents : Forest → List (Identity × Bag)
contents Empty = []
contents (Inline k n inside after) = contents inside ++ contents after
contents (Unique k n inside after) = contents inside ++ contents after
contents (First k n i inside after) = (i, own inside) ∷ (contents inside ++ contents after)
contents (Again k n i after) = contents after

-- The entries of all contents.
abbrev pub content_entries : Forest → Bag
content_entries f = flat_map (λ c. c.1) (contents f)

-- All entries: the own entries of f, and those of all contents.
abbrev pub all : Forest → Bag
all f = own f ++ content_entries f

-- The identities whose content f shows, in reading order.
abbrev pub content_identities : Forest → List Identity
content_identities f = map (λ c. c.0) (contents f)

-- A set of identities with those of a list added.
abbrev pub insert_all : Identities → List Identity → Identities
insert_all s is = fold insert s is

-- The identities met once f is shown, if those of s were met before.
abbrev pub met_after : Identities → Forest → Identities
met_after s f = insert_all s (content_identities f)

-- f fits the identities met: a shared entry shows its content exactly if its identity is not in s and was not met
-- earlier in reading order.
abbrev pub Fits : Identities → Forest → Type 0
Fits s Empty = ⊤
Fits s (Inline k n inside after) = Fits s inside × Fits (met_after s inside) after
Fits s (Unique k n inside after) = Fits s inside × Fits (met_after s inside) after
Fits s (First k n i inside after) = (contains s i ≡ false) × Fits (insert s i) inside
    × Fits (met_after (insert s i) inside) after
Fits s (Again k n i after) = (contains s i ≡ true) × Fits s after
