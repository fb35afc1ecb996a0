-- Flame graphs, their text with and without unused capacity, and the warnings.
use Rattle.std.specs.Prelude.{◌≡◌, ◌≢◌, ℕ, ◌+◌, ◌-◌, ◌^◌, ◌<◌, ◌≤◌, ◌⊎◌, Bool, true, false, cond, not, ◌&&◌, ◌||◌, List}
use Rattle.std.specs.Prelude.{[], ◌∷◌, ◌++◌, map, flat_map, Some, sum_by, unwrap_or, decimal, nat_lt, ◌==◌, IsTrue}
use Rattle.std.specs.List.{AllByRecursion}
use Rattle.std.specs.FinMap.{FinMap, get, insert, entries, from_entries, keys, contains_key}
use Rattle.std.specs.Ordering.{eq_by_cmp}
use Rattle.allocative_graph.specs.Path.{Key, Path, key_cmp, path_cmp}
use Rattle.allocative_graph.specs.Format.{semicolon, space, newline}
use Rattle.allocative_graph.specs.Sums.{Node, Sums, below}
use lib.Chars.{codes}

-- A graph is a map from paths to sizes.
abbrev pub Graph : Type 0
Graph = FinMap path_cmp ℕ

-- The size at a path; a missing path counts as 0.
abbrev pub size_at : Graph → Path → ℕ
size_at g p = unwrap_or (get g p) 0

-- The sum of the sizes of all paths.
abbrev pub total : Graph → ℕ
total g = sum_by (λ e. e.1) (entries g)

-- The bytes of both graphs together exceed a word.
abbrev pub ExceedWord : Graph → Graph → Type 0
ExceedWord g h = 2 ^ 64 ≤ total g + total h

-- Whether the first path is a prefix of the second one or equal to it.
abbrev pub begins : Path → Path → Bool
begins [] q = true
begins (k ∷ p) [] = false
begins (k ∷ p) (l ∷ q) = eq_by_cmp key_cmp k l && begins p q

-- The bytes of the path p and of all paths below it.
abbrev pub total_at : Graph → Path → ℕ
total_at g p = sum_by (λ e. cond (begins p e.0) e.1 0) (entries g)

-- h is what g has at the path p and below it: p is a path of g, and at each path q the size of h, and the bytes of q
-- and all below it, are those of g at p followed by q. At its root h therefore has what g has at p.
pub record IsBehind (g : Graph) (p : Path) (h : Graph) : Type 0 where
  pub there : contains_key g p ≡ true
  pub sizes : (q : Path) → get h q ≡ get g (p ++ q)
  pub totals : (q : Path) → total_at h q ≡ total_at g (p ++ q)
  pub same_size : size_at h [] ≡ size_at g p
  pub same_total : total h ≡ total_at g p

-- g has no path p, none below it, and therefore no bytes there.
pub record HasNothing (g : Graph) (p : Path) : Type 0 where
  pub missing : contains_key g p ≡ false
  pub below : (q : Path) → contains_key g (p ++ q) ≡ false
  pub nothing : total_at g p ≡ 0

-- The graph that has only the root, with 0.
abbrev pub default : Graph
default = from_entries (([], 0) ∷ [])

-- The sum of both graphs path by path; its paths are those of either.
abbrev pub sum_of : Graph → Graph → Graph
sum_of g h = from_entries (map (λ p. (p, size_at g p + size_at h p)) (keys g ++ keys h))

-- At each path r has the size of g or that of the sum. It has all paths of g, and none that the sum does not have.
abbrev pub IsPartOfSum : Graph → Graph → Graph → Type 0
IsPartOfSum g h r =
    (p : Path)
    → ((size_at r p ≡ size_at g p) ⊎ (size_at r p ≡ size_at g p + size_at h p))
    × (contains_key g p ≡ true → contains_key r p ≡ true)
    × (contains_key r p ≡ true → (contains_key g p || contains_key h p) ≡ true)

-- The root with 0, and each path of g with k before it.
abbrev pub under : Key → Graph → Graph
under k g = from_entries (([], 0) ∷ map (λ e. (k ∷ e.0, e.1)) (entries g))

-- g with n added to the size of the root.
abbrev pub add_self : ℕ → Graph → Graph
add_self n g = insert g [] (size_at g [] + n)

-- The root is in g, and with each path so is every prefix of it.
pub record IsTree (g : Graph) : Type 0 where
  pub root : IsTrue (contains_key g [])
  pub closed : (p : Path) (k : Key) → IsTrue (contains_key g (p ++ k ∷ [])) → IsTrue (contains_key g p)

-- ---- the graph of sums
-- What the path p keeps of its bytes: all of them if p was ever unique, otherwise those beyond the bytes one key
-- below p, and never less than 0.
abbrev pub remaining : Sums → Path → Node → ℕ
remaining s p node = cond node.is_unique node.bytes (node.bytes - below s p)

-- The root with 0, and exactly the paths of s, each with what remains of its bytes.
abbrev pub sizes : Sums → List (Path × ℕ)
sizes s = ([], 0) ∷ map (λ e. (e.0, remaining s e.0 e.1)) (entries s)

-- The graph of the sums s.
abbrev pub graph : Sums → Graph
graph s = from_entries (sizes s)

-- Each path that both have is unique in both or in neither. If it is unique in neither, its bytes are at least those
-- one key below it in both, or at most those one key below it in both.
abbrev pub CanBeAdded : Sums → Sums → Type 0
CanBeAdded s t = (p : Path) (m n : Node) → get s p ≡ Some m → get t p ≡ Some n
    → (m.is_unique ≡ n.is_unique)
    × (m.is_unique ≡ false
    → (below s p ≤ m.bytes) × (below t p ≤ n.bytes) ⊎ (m.bytes ≤ below s p) × (n.bytes ≤ below t p))

-- ---- texts
-- Whether a path is that of the root.
abbrev pub is_root : Path → Bool
is_root [] = true
is_root (k ∷ p) = false

-- The keys, with `;` between them.
abbrev pub joined : Path → List ℕ
joined [] = []
joined (k ∷ []) = k
joined (k ∷ l ∷ p) = k ++ semicolon ∷ joined (l ∷ p)

-- The line of a path with a size other than 0: keys, a space, the size in decimal, a line feed. The root has none.
abbrev pub line : Path × ℕ → List ℕ
line e = cond (is_root e.0 || (e.1 == 0)) [] (joined e.0 ++ space ∷ decimal e.1 ++ newline ∷ [])

-- The lines of some paths, one after another.
abbrev pub text_of_entries : List (Path × ℕ) → List ℕ
text_of_entries es = flat_map line es

-- The text of a graph: its lines in the order of paths.
abbrev pub text : Graph → List ℕ
text g = text_of_entries (entries g)

-- A path that has a warning, with its bytes and those one key below it.
pub record Warned : Type 0 where
  pub path : Path
  pub self_size : ℕ
  pub children_size : ℕ

-- The warning of such a path, without a line feed.
abbrev pub warning_text : Warned → List ℕ
warning_text w = codes "Incorrect size declaration for node `" ++ joined w.path ++ codes "`, size of self: "
    ++ decimal w.self_size ++ codes ", size of inline children: " ++ decimal w.children_size

-- The line of the warning of a path, with its own bytes and those one key below it.
abbrev pub warning_line : Path → ℕ → ℕ → List ℕ
warning_line p bytes inside = warning_text (record { path = p; self_size = bytes; children_size = inside })
    ++ newline ∷ []

-- The warning of a path of the sums: there is one if the path is not the root, was never unique and has fewer bytes
-- than one key below it.
abbrev pub warning : Sums → Path × Node → List ℕ
warning s e = cond (not (is_root e.0) && not e.1.is_unique && nat_lt e.1.bytes (below s e.0))
    (warning_line e.0 e.1.bytes (below s e.0)) []

-- All warnings, in the order of paths.
abbrev pub warnings : Sums → List ℕ
warnings s = flat_map (warning s) (entries s)

-- A path of the sums with both numbers if it has a warning, otherwise nothing.
abbrev pub warned : Sums → Path × Node → List Warned
warned s e = cond (not (is_root e.0) && not e.1.is_unique && nat_lt e.1.bytes (below s e.0))
    (record { path = e.0; self_size = e.1.bytes; children_size = below s e.0 } ∷ []) []

-- The paths that have a warning, in the order of paths.
abbrev pub warned_paths : Sums → List Warned
warned_paths s = flat_map (warned s) (entries s)

-- The byte c is not in xs.
abbrev pub Lacks : ℕ → List ℕ → Type 0
Lacks c xs = AllByRecursion (λ b. b ≢ c) xs

-- No key of g has a `;` or a line feed.
abbrev pub HasPlainKeys : Graph → Type 0
HasPlainKeys g = AllByRecursion (λ p. AllByRecursion (λ k. Lacks semicolon k × Lacks newline k) p) (keys g)

-- The total fits a word, as in each `FlameGraph`.
abbrev pub HasWords : Graph → Type 0
HasWords g = total g < 2 ^ 64

-- ---- the text without unused capacity
-- Whether a path ends in the key.
abbrev pub ends_in : Key → Path → Bool
ends_in k [] = false
ends_in k (l ∷ []) = eq_by_cmp key_cmp k l
ends_in k (l ∷ m ∷ p) = ends_in k (m ∷ p)

-- The text without the lines of the paths that end in `unused_capacity`.
abbrev pub exact_text : Graph → List ℕ
exact_text g = flat_map (λ e. cond (ends_in (codes "unused_capacity") e.0) [] (line e)) (entries g)

-- ---- the exact text, computed from a text alone
-- The lines, each without its line feed. `line` is what was read of the first one.
abbrev pub lines_from : List ℕ → List ℕ → List (List ℕ)
lines_from line [] = []
lines_from line (b ∷ bs) = cond (b == newline) (line ∷ lines_from [] bs) (lines_from (line ++ b ∷ []) bs)

-- The bytes before the last c. `before` is what was read, and `best` what was read before the last c so far.
abbrev pub before_last : ℕ → List ℕ → List ℕ → List ℕ → List ℕ
before_last c best before [] = best
before_last c best before (b ∷ bs) =
    cond (b == c) (before_last c before (before ++ b ∷ []) bs) (before_last c best (before ++ b ∷ []) bs)

-- The bytes after the last c, or all if there is no c. `after` is what was read since the last c so far.
abbrev pub after_last : ℕ → List ℕ → List ℕ → List ℕ
after_last c after [] = after
after_last c after (b ∷ bs) = cond (b == c) (after_last c [] bs) (after_last c (after ++ b ∷ []) bs)

-- The last key of a line: the bytes after its last `;` and before its last space.
abbrev pub last_key : List ℕ → Key
last_key l = after_last semicolon [] (before_last space [] [] l)

-- The text without the lines whose last key is k.
abbrev pub without_lines : Key → List ℕ → List ℕ
without_lines k t = flat_map (λ l. cond (eq_by_cmp key_cmp k (last_key l)) [] (l ++ newline ∷ [])) (lines_from [] t)
