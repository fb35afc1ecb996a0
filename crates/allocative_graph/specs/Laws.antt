-- The laws of the definitions, as statements.
use Rattle.std.specs.Prelude.{◌≡◌, ℕ, ◌+◌, ◌↔◌, Bool, false, true, cond, [], ◌∷◌, Some, None}
use Rattle.std.specs.FinMap.{get}
use Rattle.std.specs.FinSet.{contains}
use Rattle.std.specs.Option.{option_map}
use Rattle.std.specs.declared.cmp.Ordering.TheVariants.{Less}
use Rattle.std.specs.Ordering.{nat_cmp}
use lib.Chars.{codes}
use Rattle.allocative_graph.specs.Path.{Key, Path, key_cmp, path_cmp, ComesBefore}
use Rattle.allocative_graph.specs.Identity.{Identity}
use Rattle.allocative_graph.specs.Forest.{Forest, Empty, First, Again, Bag, own, all, followed_by, entry_of}
use Rattle.allocative_graph.specs.Meaning.{Reached, IsMeaning, ReachesExactly, content_of, IsWhole, Agree, ReachApart}
use Rattle.allocative_graph.specs.Sums.{Sums, bytes_in, below_in, is_unique_in, is_entered_in, sums_of, below}
use Rattle.allocative_graph.specs.Graph.{Graph, graph, remaining, total, under, default, IsTree, text, warnings}
use Rattle.allocative_graph.specs.Graph.{warned_paths, sum_of, size_at, CanBeAdded, HasPlainKeys, HasWords, exact_text}
use Rattle.allocative_graph.specs.Graph.{without_lines}
use Rattle.allocative_graph.specs.Collector.{Live, Summing, Kind, OfGraph, OfSum, plus, Takes, enter, enter_first}
use Rattle.allocative_graph.specs.Collector.{enter_again, count_entry, leave, Restore, outer_of}
use Rattle.allocative_graph.specs.declared.restore.Restore.TheVariants.{Held}
use Rattle.allocative_graph.specs.Read.{IsRead, IsFault, Exceeds, CanBeRead}
use Rattle.allocative_graph.specs.declared.read.LineFault.{LineFault}

-- ---- of showings
-- Two showings have the same result: they reach the same identities, and have the same graph, text, warnings and
-- paths with a warning.
pub record SameProfile (f g : Forest) : Type 0 where
  pub reached : (i : Identity) → Reached (own f) (content_of f) i ↔ Reached (own g) (content_of g) i
  pub same_graph : graph (sums_of (all f)) ≡ graph (sums_of (all g))
  pub same_text : text (graph (sums_of (all f))) ≡ text (graph (sums_of (all g)))
  pub same_warnings : warnings (sums_of (all f)) ≡ warnings (sums_of (all g))
  pub same_warned : warned_paths (sums_of (all f)) ≡ warned_paths (sums_of (all g))

-- Two whole showings that agree have the same result, whatever the order of roots, of entries, and of which pointer
-- met a content first.
abbrev pub OrderLaw : Type 0
OrderLaw = (f g : Forest) → IsWhole f → IsWhole g → Agree f g → SameProfile f g

-- A whole showing shows the contents of exactly the identities that it reaches, cycles included, and all its entries
-- are a meaning of its own ones.
abbrev pub MeaningLaw : Type 0
MeaningLaw = (f : Forest) → IsWhole f → ReachesExactly f × IsMeaning (own f) (content_of f) (all f)

-- If no identity is reached by both and their sums can be added, the graphs of two whole showings add up to the graph
-- of the showing that has both.
abbrev pub MergeLaw : Type 0
MergeLaw = (f g : Forest) → IsWhole f → IsWhole g → ReachApart f g → CanBeAdded (sums_of (all f)) (sums_of (all g))
    → IsWhole (followed_by f g)
    × (sum_of (graph (sums_of (all f))) (graph (sums_of (all g))) ≡ graph (sums_of (all (followed_by f g))))

-- ---- of texts
-- If no key has a `;` or a line feed and the totals fit a word, graphs with equal texts have equal sizes at each path
-- but the root.
abbrev pub TextLaw : Type 0
TextLaw = (g h : Graph) → HasPlainKeys g → HasPlainKeys h → HasWords g → HasWords h → text g ≡ text h
    → (k : Key) (p : Path) → size_at g (k ∷ p) ≡ size_at h (k ∷ p)

-- If no key has a `;` or a line feed, the lines whose last key is `unused_capacity` are those of the paths that end
-- in it.
abbrev pub ExactLaw : Type 0
ExactLaw = (g : Graph) → HasPlainKeys g → exact_text g ≡ without_lines (codes "unused_capacity") (text g)

-- If no key has a `;` or a line feed and the total fits a word, what is read of the text of g has the sizes of g at
-- each path but the root. No line of it is refused if its paths can be read, and its bytes never exceed a word.
pub record ReadLaw : Type 0 where
  pub same_sizes : (g h : Graph) → HasPlainKeys g → HasWords g → IsRead (text g) h → (k : Key) (p : Path)
      → size_at h (k ∷ p) ≡ size_at g (k ∷ p)
  pub no_fault : (g : Graph) → HasPlainKeys g → HasWords g → CanBeRead g → (n : ℕ) (w : LineFault) →
      ¬ IsFault (text g) n w
  pub fits : (g : Graph) → HasPlainKeys g → HasWords g → ¬ Exceeds (text g)

-- ---- of sums
-- The sums of a bag have, at exactly the paths of its entries, the sum of the sizes there and whether one of the
-- entries is unique. The bytes one key below a path are the sum of the sizes there.
abbrev pub SumsLaw : Type 0
SumsLaw = (b : Bag) (p : Path) → (get (sums_of b) p ≡ cond (is_entered_in b p)
    (Some (record { bytes = bytes_in b p; is_unique = is_unique_in b p })) None) × (below (sums_of b) p ≡ below_in b p)

-- ---- of the collectors
-- What a collector has after forests: one forest followed by another is both in one, and entering, adding f and
-- leaving is the entry with f inside it.
pub record PlusLaw : Type 0 where
  pub nothing : (c : Kind) → plus c Empty ≡ c
  pub following : (c : Kind) (f g : Forest) → plus c (followed_by f g) ≡ plus (plus c f) g
  pub following_taken : (c : Kind) (f g : Forest) → Takes c (followed_by f g) ↔ (Takes c f × Takes (plus c f) g)
  pub inside : (is_unique : Bool) (k : Key) (n : ℕ) (c : Kind) (f : Forest)
      → leave (outer_of n c) (plus (enter is_unique k n c) f) ≡ plus c (entry_of is_unique k n f)
  pub inside_taken : (is_unique : Bool) (k : Key) (n : ℕ) (c : Kind) (f : Forest)
      → Takes (enter is_unique k n c) f → Takes c (entry_of is_unique k n f)

-- What a collector has after shared entries: a content from the root, a pointer alone, no change in the collector of
-- held bytes, and the pointer's bytes in that of owned bytes.
pub record SharedLaw : Type 0 where
  pub first : (k : Key) (n : ℕ) (i : Identity) (c : Live) (f : Forest) (outer : Restore)
      → leave outer (plus (OfGraph (enter_first k n i c)) f) ≡ plus (OfGraph c) (First k n i f Empty)
  pub first_taken : (k : Key) (n : ℕ) (i : Identity) (c : Live) (f : Forest) → contains c.met i ≡ false
      → Takes (OfGraph (enter_first k n i c)) f → Takes (OfGraph c) (First k n i f Empty)
  pub again : (k : Key) (n : ℕ) (i : Identity) (c : Live) →
      OfGraph (enter_again k n i c) ≡ plus (OfGraph c) (Again k n i Empty)
  pub again_taken : (k : Key) (n : ℕ) (i : Identity) (c : Live) → contains c.met i ≡ true →
      Takes (OfGraph c) (Again k n i Empty)
  pub held : (k : Key) (n : ℕ) (i : Identity) (s : Summing) (is_in_unique : Bool) → s.figure ≡ Held is_in_unique
      → plus (OfSum s) (Again k n i Empty) ≡ OfSum s
  pub owned : (k : Key) (n : ℕ) (i : Identity) (s : Summing)
      → plus (OfSum s) (Again k n i Empty) ≡ OfSum (count_entry true n s)

-- ---- of paths
-- A prefix of a path comes before it, and otherwise the first keys that differ decide. Keys are ordered in this way
-- by their bytes.
pub record PathOrderLaw : Type 0 where
  pub paths : (p q : Path) → (path_cmp p q ≡ Less) ↔ ComesBefore key_cmp p q
  pub keys : (k l : Key) → (key_cmp k l ≡ Less) ↔ ComesBefore nat_cmp k l

-- ---- of graphs
-- Adding is commutative and associative, an empty graph changes nothing, and totals add up. A key put before each
-- path changes no total.
pub record GraphSumsLaw : Type 0 where
  pub same_total : (g h : Graph) → total (sum_of g h) ≡ total g + total h
  pub commutes : (g h : Graph) → sum_of g h ≡ sum_of h g
  pub associates : (g h i : Graph) → sum_of (sum_of g h) i ≡ sum_of g (sum_of h i)
  pub unchanged : (g : Graph) → IsTree g → sum_of g default ≡ g
  pub under_total : (k : Key) (g : Graph) → total (under k g) ≡ total g

-- The graph of some sums has the root with 0 and exactly the paths of the sums, each with what remains of its bytes.
-- The graph of a showing has each prefix of its paths.
pub record GraphLaw : Type 0 where
  pub root : (s : Sums) → get (graph s) [] ≡ Some 0
  pub paths : (s : Sums) (k : Key) (p : Path) → get (graph s) (k ∷ p) ≡ option_map (remaining s (k ∷ p)) (get s (k ∷ p))
  pub is_tree : (f : Forest) → IsTree (graph (sums_of (all f)))
