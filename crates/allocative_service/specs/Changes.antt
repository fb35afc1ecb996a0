-- The differences between two profiles.
use Rattle.std.specs.Prelude.{◌≡◌, ℕ, ◌+◌, ◌-◌, ◌^◌, ◌<◌, ◌≤◌, ◌==◌, Bool, cond, nat_lt, List, ◌++◌, ◌∷◌, [], length}
use Rattle.std.specs.Prelude.{map, filter, flat_map, min, sum_by, All, AllPairs, codes, decimal}
use Rattle.std.specs.List.Sorted.{IsPermutation}
use Rattle.std.specs.FinMap.{keys}
use Rattle.allocative.specs.Path.{Path, is_same_path}
use Rattle.allocative.specs.Graph.{Graph, size_at, sum_of, joined}
use Rattle.allocative_service.specs.declared.history.changes.Change.{Change}

-- A path, and its own bytes in two profiles.
pub record Changed : Type 0 where
  pub path : Path
  pub earlier : ℕ
  pub later : ℕ

-- What a `Change` of the code says.
abbrev pub change_data : Change → Changed
change_data c = record { path = map (λ k. k.now) c.path.items; earlier = c.earlier; later = c.later }

-- What the changes of a list say.
abbrev pub data_of : List Change → List Changed
data_of cs = map change_data cs

-- The change of a path from g to h. There is none if its bytes are the same in both.
abbrev pub change_of : Graph → Graph → Path → List Changed
change_of g h p =
    cond (size_at g p == size_at h p) [] (record { path = p; earlier = size_at g p; later = size_at h p } ∷ [])

-- The changes from g to h, in the order of all paths that g or h has.
abbrev pub changes_of : Graph → Graph → List Changed
changes_of g h = flat_map (change_of g h) (keys (sum_of g h))

-- For each path the list has its change and no other: one with its bytes in both profiles if they differ, and none if
-- they are the same.
abbrev pub HasEach : Graph → Graph → List Changed → Type 0
HasEach g h cs = (p : Path) → filter (λ c. is_same_path p c.path) cs ≡ change_of g h p

-- The number of bytes by which a path grew, which is 0 if it shrank.
abbrev pub growth : Changed → ℕ
growth c = c.later - c.earlier

-- The number of bytes by which a path shrank, which is 0 if it grew.
abbrev pub shrinkage : Changed → ℕ
shrinkage c = c.earlier - c.later

-- Whether a path has more bytes after than before.
abbrev pub is_grown : Changed → Bool
is_grown c = nat_lt c.earlier c.later

-- ---- by growth
-- c grew at least as much as d, or shrank at most as much.
abbrev pub GrewAsMuch : Changed → Changed → Type 0
GrewAsMuch c d = d.later + c.earlier ≤ c.later + d.earlier

-- A number that is the less the more a path grew.
abbrev pub rank : Changed → ℕ
rank c = 2 ^ 64 - 1 - c.later + c.earlier

-- The later bytes of a change fit a word.
abbrev pub IsWord : Change → Type 0
IsWord c = c.later < 2 ^ 64

-- The list has each of the changes once, the greatest growth first and the greatest shrinkage last.
pub record IsByGrowth (cs list : List Changed) : Type 0 where
  pub same : IsPermutation cs list
  pub falling : AllPairs GrewAsMuch list

-- The list `top` has n of the changes that grew, or all if there are fewer. It is ordered by growth, the greatest
-- first, and none of the rest grew more than any of it.
pub record GrewMost (n : ℕ) (cs top : List Changed) : Type 0 where
  pub rest : List Changed
  pub chosen : IsPermutation (filter is_grown cs) (top ++ rest)
  pub enough : length top ≡ min n (length (filter is_grown cs))
  pub falling : AllPairs (λ c d. growth d ≤ growth c) top
  pub most : All (λ c. All (λ d. growth d ≤ growth c) rest) top

-- ---- the text
-- The line of a change: the bytes before and after, and the path.
abbrev pub line_of : Changed → List ℕ
line_of c = decimal c.earlier ++ codes " -> " ++ decimal c.later ++ 32 ∷ joined c.path ++ 10 ∷ []

-- The line of all changes together: the bytes of those that grew, and of those that shrank.
abbrev pub total_line : List Changed → List ℕ
total_line cs = decimal (sum_by growth cs) ++ (codes " bytes more, "
    ++ (decimal (sum_by shrinkage cs) ++ codes " bytes less\n"))

-- The text has the total of the changes, and below it the line of each by growth.
pub record Reports (cs : List Changed) (text : List ℕ) : Type 0 where
  pub list : List Changed
  pub by_growth : IsByGrowth cs list
  pub is : text ≡ total_line cs ++ flat_map line_of list
