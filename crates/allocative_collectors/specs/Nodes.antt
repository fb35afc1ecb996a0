-- The nodes of a tree, and the numbers of their children, as one list or in chunks.
use Rattle.std.specs.Prelude.{◌≡◌, ℕ, ◌-◌, ◌^◌, ◌<◌, ◌≤◌, List, [], ◌∷◌, ◌++◌, false, slice_index_or, length, map, ◌+◌}
use Rattle.std.specs.Prelude.{take}
use Rattle.std.specs.List.{All, Contains, flat_map}
use Rattle.std.specs.declared.cmp.Ordering.TheVariants.{Less, Greater}
use Rattle.allocative_graph.specs.Path.{Key, Path, key_cmp}
use Rattle.allocative_collectors.specs.Listed.{Listed, Sum}
use Rattle.allocative_collectors.specs.declared.children.Children.{Children}
use Rattle.allocative_collectors.specs.declared.children.Children.TheVariants.{Empty, One, Two, Three, Few, Many}
use Rattle.allocative_collectors.specs.declared.children.Chunk.{Chunk}
use Rattle.allocative_collectors.specs.declared.children.Place.{Place}
use Rattle.allocative_collectors.specs.declared.tree.Node.{Node}

-- A node with no bytes. Its guesses are 0.
abbrev pub leaf : ℕ → Key → Node
leaf p k = record { key = k; parent = p; bytes = 0; last = 0; next = 0; follower = 0; is_unique = false }

-- The node that stands for a missing one.
abbrev pub no_node : Node
no_node = leaf 0 []

-- The node with the number i.
abbrev pub at : List Node → ℕ → Node
at ns i = slice_index_or ns i no_node

-- ---- the sums
-- The path of a node with parent i and key k, if ps are the paths of the nodes before it: its parent's with one more
-- key. The first node is the root.
abbrev pub path_from : List Path → ℕ → Key → Path
path_from [] i k = []
path_from (p ∷ ps) i k = slice_index_or (p ∷ ps) i [] ++ k ∷ []

-- The sum of a node, if ps are the paths of the nodes before it.
abbrev pub sum_from : List Path → Node → Sum
sum_from ps n = record { path = path_from ps n.parent n.key; bytes = n.bytes; is_unique = n.is_unique }

-- The sums of the nodes ns, if ps are the paths of the nodes before them.
abbrev pub grow : List Path → List Node → Listed
grow ps [] = []
grow ps (n ∷ ns) = let e = sum_from ps n in e ∷ grow (ps ++ e.path ∷ []) ns

-- The sums that the nodes stand for.
abbrev pub sums : List Node → Listed
sums ns = grow [] ns

-- ---- what a node has
-- The key of node i.
abbrev pub key_at : List Node → ℕ → Key
key_at ns i = let n = at ns i in n.key

-- The number of the parent of node i.
abbrev pub parent_at : List Node → ℕ → ℕ
parent_at ns i = let n = at ns i in n.parent

-- The numbers of the children of node i, if cs has those of each node.
abbrev pub children_at : List (List ℕ) → ℕ → List ℕ
children_at cs i = slice_index_or cs i []

-- The bytes entered at node i.
abbrev pub bytes_at : List Node → ℕ → ℕ
bytes_at ns i = let n = at ns i in n.bytes

-- The keys of the nodes that have the numbers xs.
abbrev pub keys_of : List Node → List ℕ → List Key
keys_of ns xs = map (key_at ns) xs

-- The keys of the children of node p.
abbrev pub keys_at : List Node → List (List ℕ) → ℕ → List Key
keys_at ns cs p = keys_of ns (children_at cs p)

-- ---- the arena
-- The key at place j.
abbrev pub key_in : List Key → ℕ → Key
key_in ks j = slice_index_or ks j []

-- Each key comes before those after it.
abbrev pub KeysRise : List Key → Type 0
KeysRise ks = (i j : ℕ) → i < j → j < length ks → key_cmp (key_in ks i) (key_in ks j) ≡ Less

-- The number i is in the list, and is that of a node with the key k.
abbrev pub HasKey : List Node → List ℕ → Key → ℕ → Type 0
HasKey ns xs k i = Contains xs i × (key_at ns i ≡ k)

-- Node i is not the root, and its parent is p.
pub record IsChild (ns : List Node) (p i : ℕ) : Type 0 where
  pub not_root : 0 < i
  pub in_range : i < length ns
  pub parent : parent_at ns i ≡ p

-- The root comes first and has no bytes and no parent, which is the number 2^64 - 1. Each other node comes after its
-- parent and is one of its children. The numbers of each node's children are in cs, in the order of their keys.
pub record IsArena (ns : List Node) (cs : List (List ℕ)) : Type 0 where
  pub rooted : 0 < length ns
  pub root_empty : bytes_at ns 0 ≡ 0
  pub root_parent : parent_at ns 0 ≡ 2 ^ 64 - 1
  pub parents : (i : ℕ) → 0 < i → i < length ns → parent_at ns i < i
  pub lists : length cs ≡ length ns
  pub listed : (p i : ℕ) → IsChild ns p i → Contains (children_at cs p) i
  pub children : (p : ℕ) → All (IsChild ns p) (children_at cs p)
  pub rise : (p : ℕ) → KeysRise (keys_at ns cs p)

-- ---- a search
-- The key k is missing, and belongs at place i: the keys before that place are smaller, those from it on are greater.
pub record IsKeyGap (ks : List Key) (k : Key) (i : ℕ) : Type 0 where
  pub in_range : i ≤ length ks
  pub smaller_before : (j : ℕ) → j < i → key_cmp (key_in ks j) k ≡ Less
  pub greater_after : (j : ℕ) → i ≤ j → j < length ks → key_cmp (key_in ks j) k ≡ Greater

-- ---- numbers and places among them
-- The numbers of a chunk.
abbrev pub numbers_in : Chunk → List ℕ
numbers_in c = c.numbers.items

-- The numbers of some chunks.
abbrev pub flat : List Chunk → List ℕ
flat cs = flat_map numbers_in cs

-- All numbers.
abbrev pub numbers : Children → List ℕ
numbers Empty = []
numbers (One list) = list
numbers (Two list) = list
numbers (Three list) = list
numbers (Few v) = v.value.items
numbers (Many cs) = flat cs.value.items

-- The numbers are not in chunks.
abbrev pub IsOneList : Children → Type 0
IsOneList (Many cs) = ⊥
IsOneList c = Unit {0}

-- How many numbers stand before chunk i.
abbrev pub before : List Chunk → ℕ → ℕ
before cs i = length (flat (take i cs))

-- The numbers of chunk i; none if there is no such chunk.
abbrev pub chunk_at : List Chunk → ℕ → List ℕ
chunk_at cs i = slice_index_or (map numbers_in cs) i []

-- The place is that of a number of a chunk, or behind the last one.
abbrev pub IsPlaceIn : List Chunk → Place → Type 0
IsPlaceIn cs p = p.index ≤ length (chunk_at cs p.chunk)

-- The same among all numbers. One list counts as one chunk.
abbrev pub IsPlace : Children → Place → Type 0
IsPlace (Many cs) p = IsPlaceIn cs.value.items p
IsPlace c p = (p.chunk ≡ 0) × (p.index ≤ length (numbers c))

-- A place in a chunk, as one among the numbers of all chunks.
abbrev pub place_in : List Chunk → Place → ℕ
place_in cs p = before cs p.chunk + p.index

-- A place, as one among all numbers.
abbrev pub flat_place : Children → Place → ℕ
flat_place (Many cs) p = place_in cs.value.items p
flat_place c p = p.index

-- ---- the nodes of a tree
-- The nodes are an arena. That the sums and the lists of children have a place for each follows from it, and is stated
-- for proofs that index them.
pub record IsTree (ns : List Node) (cs : List Children) : Type 0 where
  pub arena : IsArena ns (map numbers cs)
  pub size : length (sums ns) ≡ length ns
  pub lists : length cs ≡ length ns
