-- The sums of a bag of entries, path by path.
use Rattle.std.specs.Prelude.{ℕ, ◌+◌, Bool, true, false, cond, ◌||◌, Option, Some, None, fold, sum_by}
use Rattle.std.specs.List.{list_any}
use Rattle.std.specs.FinMap.{FinMap, get, insert, entries, empty}
use Rattle.allocative_graph.specs.Path.{Path, path_cmp, is_same_path, is_one_below}
use Rattle.allocative_graph.specs.Forest.{Mark, AsUnique, Entry, Bag}

-- What was entered at a path: the bytes of all its entries, and whether one of them is unique.
pub record Node : Type 0 where
  pub bytes : ℕ
  pub is_unique : Bool

-- What was entered, path by path.
abbrev pub Sums : Type 0
Sums = FinMap path_cmp Node

-- Whether an entry with this mark is unique.
abbrev pub is_unique_mark : Mark → Bool
is_unique_mark AsUnique = true
is_unique_mark m = false

-- ---- of a bag
-- The bytes of the entries of b at p.
abbrev pub bytes_in : Bag → Path → ℕ
bytes_in b p = sum_by (λ e. cond (is_same_path p e.path) e.size 0) b

-- Whether an entry of b at p is unique.
abbrev pub is_unique_in : Bag → Path → Bool
is_unique_in b p = list_any (λ e. cond (is_same_path p e.path) (is_unique_mark e.mark) false) b

-- Whether b has an entry at p.
abbrev pub is_entered_in : Bag → Path → Bool
is_entered_in b p = list_any (λ e. is_same_path p e.path) b

-- The bytes of the entries of b one key below p, whatever their marks.
abbrev pub below_in : Bag → Path → ℕ
below_in b p = sum_by (λ e. cond (is_one_below p e.path) e.size 0) b

-- ---- kept as a map
-- What a path has after more was entered there.
abbrev pub together : Option Node → Node → Node
together None new = new
together (Some old) new = record { bytes = old.bytes + new.bytes; is_unique = old.is_unique || new.is_unique }

-- What one entry adds to its path.
abbrev pub node_of : Entry → Node
node_of e = record { bytes = e.size; is_unique = is_unique_mark e.mark }

-- The sums s with one more entry.
abbrev pub add : Sums → Entry → Sums
add s e = insert s e.path (together (get s e.path) (node_of e))

-- The sums s with the entries of b added.
abbrev pub add_all : Sums → Bag → Sums
add_all s b = fold add s b

-- The sums of b. `SumsLaw` states their closed form.
abbrev pub sums_of : Bag → Sums
sums_of b = add_all empty b

-- The sum of all bytes entered.
abbrev pub bytes_entered : Sums → ℕ
bytes_entered s = sum_by (λ e. e.1.bytes) (entries s)

-- The bytes of the paths one key below p.
abbrev pub below : Sums → Path → ℕ
below s p = sum_by (λ e. cond (is_one_below p e.0) e.1.bytes 0) (entries s)
