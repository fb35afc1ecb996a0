-- What calls of a collector and of its visitors do, as relations between the collector before and after a call.
use Rattle.std.specs.Prelude.{◌≡◌, ℕ, suc, ◌+◌, ◌<◌, ◌≤◌, ◌^◌, ◌⊎◌, Bool, true, false, List, Option, None, Some}
use Rattle.std.specs.Prelude.{Result, Ok, Err}
use Rattle.std.specs.FinSet.{contains}
use Rattle.allocative_graph.specs.declared.refusal.Refusal.{Refusal}
use Rattle.allocative_graph.specs.declared.refusal.Refusal.TheVariants.{Memory, TooLarge, Open}
use Rattle.allocative_graph.specs.Path.{Key}
use Rattle.allocative_graph.specs.Identity.{Identity}
use Rattle.allocative_graph.specs.Forest.{Forest, Bag, own, all, followed_by}
use Rattle.allocative_graph.specs.Meaning.{IsWhole, IsMeaning, ReachesExactly, ReachApart, content_of}
use Rattle.allocative_graph.specs.Sums.{Sums, bytes_entered, sums_of}
use Rattle.allocative_graph.specs.Graph.{Graph, Warned, graph, warnings, warned_paths, sum_of, CanBeAdded}
use Rattle.allocative_graph.specs.Collector.{Live, Summing, Kind, OfGraph, OfSum, State, Failed, Going, entry_bytes}
use Rattle.allocative_graph.specs.Collector.{enter, enter_first, enter_again, count_entry, plus, Takes, is_graph}
use Rattle.allocative_graph.specs.Collector.{visitors, Restore, outer_of, begin, close_entry, IsClosed, IsAtRoot}
use Rattle.allocative_graph.specs.Shows.{Showing}

-- What visiting a value does to a collector, if p is what the value may show. A failed collector stays as it is.
-- After Err it has failed. After Ok it has failed (an error was hidden), or has more open visitors than before (one
-- was forgotten), or has one more forest, which p allows and the collector takes.
pub data AddsForest (p : Showing) : State → Result Unit Refusal → State → Type 0 where
  already : {r : Refusal} {result : Result Unit Refusal} → AddsForest p (Failed r) result (Failed r)
  refused : {b : Kind} {e r : Refusal} → AddsForest p (Going b) (Err e) (Failed r)
  hidden : {b : Kind} {u : Unit} {r : Refusal} → AddsForest p (Going b) (Ok u) (Failed r)
  forgotten : {b c : Kind} {u : Unit} → is_graph c ≡ is_graph b → visitors b < visitors c
      → AddsForest p (Going b) (Ok u) (Going c)
  added : {b c : Kind} {u : Unit} → (f : Forest) → p f → Takes b f → c ≡ plus b f
      → AddsForest p (Going b) (Ok u) (Going c)

-- s has failed, with the first cause r.
abbrev pub HasFailed : State → Refusal → Type 0
HasFailed s r = s ≡ Failed r

-- ---- entering
-- An entry of n bytes exceeds no bound.
abbrev pub HasRoom : Bool → ℕ → Kind → Type 0
HasRoom is_unique n (OfGraph c) = bytes_entered c.sums + n < 2 ^ 63
HasRoom is_unique n (OfSum s) = (s.sum + entry_bytes s.figure is_unique n < 2 ^ 64) × (suc s.open_visitors < 2 ^ 64)

-- An entry of n bytes is refused with e. Either e is TooLarge and a bound would be exceeded, or e is Memory and no
-- bound would be exceeded. Memory is refused only by the collector of a flame graph.
abbrev pub Refuses : Bool → ℕ → Kind → Refusal → Type 0
Refuses is_unique n (OfGraph c) e = ((e ≡ TooLarge) × (2 ^ 63 ≤ bytes_entered c.sums + n))
    ⊎ ((e ≡ Memory) × (bytes_entered c.sums + n < 2 ^ 63))
Refuses is_unique n (OfSum s) e = (e ≡ TooLarge)
    × ((2 ^ 64 ≤ s.sum + entry_bytes s.figure is_unique n) ⊎ (2 ^ 64 ≤ suc s.open_visitors))

-- An entry of n bytes makes a sum too large that fitted a word. In a sum of held bytes a unique one never does so: it
-- adds none.
abbrev pub ExceedsSum : Bool → ℕ → Summing → Type 0
ExceedsSum is_unique n s = (s.sum < 2 ^ 64) × (2 ^ 64 ≤ s.sum + entry_bytes s.figure is_unique n)

-- An entry of a declared size is refused with e: with TooLarge if there is no size, otherwise as `Refuses` says.
abbrev pub RefusesSized : Bool → Option ℕ → Kind → Refusal → Type 0
RefusesSized is_unique None b e = e ≡ TooLarge
RefusesSized is_unique (Some n) b e = Refuses is_unique n b e

-- What opening an entry of a declared size does. A failed collector returns its first cause. Otherwise the entry is
-- refused exactly as `RefusesSized` says, and the collector has failed; or there is one more entry and a visitor at
-- it, and the call returns what closing it restores.
pub data OpensEntry (is_unique : Bool) (k : Key) : Option ℕ → State → Result Restore Refusal → State → Type 0 where
  stays_failed : {size : Option ℕ} {r : Refusal} → OpensEntry is_unique k size (Failed r) (Err r) (Failed r)
  is_refused : {size : Option ℕ} {b : Kind} {e : Refusal} → RefusesSized is_unique size b e
      → OpensEntry is_unique k size (Going b) (Err e) (Failed e)
  is_entered : {n : ℕ} {b c : Kind} {outer : Restore} → HasRoom is_unique n b → outer ≡ outer_of n b
      → c ≡ enter is_unique k n b → OpensEntry is_unique k (Some n) (Going b) (Ok outer) (Going c)

-- An entry of a declared size is refused with e, as opening it says.
abbrev pub RefusesEntry : Bool → Option ℕ → State → Refusal → Type 0
RefusesEntry is_unique size (Failed r) e = e ≡ r
RefusesEntry is_unique size (Going b) e = RefusesSized is_unique size b e

-- What opening a shared entry does. The call returns whether its content is to be shown: in a flame graph's
-- collector, exactly if the identity was not met. That of a sum counts the pointer: held bytes stay as they are.
pub data OpensShared (k : Key) (n : ℕ) (i : Identity) : State → Result Bool Refusal → State → Type 0 where
  stays_shared : {r : Refusal} → OpensShared k n i (Failed r) (Err r) (Failed r)
  is_refused_shared : {c : Live} {e : Refusal} → Refuses false n (OfGraph c) e
      → OpensShared k n i (Going (OfGraph c)) (Err e) (Failed e)
  is_too_large_shared : {a : Summing} {e : Refusal} → e ≡ TooLarge → ExceedsSum true n a
      → OpensShared k n i (Going (OfSum a)) (Err e) (Failed e)
  counts : {a b : Summing} → a.sum + entry_bytes a.figure true n < 2 ^ 64 → b ≡ count_entry true n a
      → OpensShared k n i (Going (OfSum a)) (Ok false) (Going (OfSum b))
  enters_first : {c d : Live} → bytes_entered c.sums + n < 2 ^ 63 → contains c.met i ≡ false → d ≡ enter_first k n i c
      → OpensShared k n i (Going (OfGraph c)) (Ok true) (Going (OfGraph d))
  enters_again : {c d : Live} → bytes_entered c.sums + n < 2 ^ 63 → contains c.met i ≡ true → d ≡ enter_again k n i c
      → OpensShared k n i (Going (OfGraph c)) (Ok false) (Going (OfGraph d))

-- ---- closing
-- An entry is closed: one visitor less. `outer` is what closing restores. A failed collector stays as it is.
pub record ClosesEntry (outer : Restore) (s t : State) : Type 0 where
  pub closes : t ≡ close_entry outer s

-- ---- root visitors
-- A root visitor is opened. The call returns the first cause; or Open if a visitor is open, and nothing changes; or
-- what leaving it restores.
abbrev pub OpensRoot : State → Result Restore Refusal → State → Type 0
OpensRoot (Failed r) (Ok outer) t = ⊥
OpensRoot (Failed r) (Err e) t = (e ≡ r) × (t ≡ Failed r)
OpensRoot (Going b) (Ok outer) t = IsClosed b × IsAtRoot b × (outer ≡ outer_of 0 b) × (t ≡ Going (begin b))
OpensRoot (Going b) (Err e) t = (e ≡ Open) × ¬ IsClosed b × (t ≡ Going b)

-- What is returned if nothing else is asked of a collector: Ok if it has not failed and no visitor is open, otherwise
-- the first cause, or Open.
abbrev pub Settles : State → Result Unit Refusal → Type 0
Settles (Failed r) result = result ≡ Err r
Settles (Going b) (Ok u) = IsClosed b
Settles (Going b) (Err e) = (e ≡ Open) × ¬ IsClosed b

-- What visiting a value by a root visitor does to a collector, if p is what the value may show. A failed collector
-- returns its first cause and stays as it is. If a visitor is open, the call returns Open and nothing changes.
-- Otherwise it returns Ok exactly if the collector afterwards has not failed and has no open visitor, and then the
-- collector has one more forest; it returns the cause if the collector has failed, and Open if a visitor is open.
abbrev pub VisitsRoot : Showing → State → Result Unit Refusal → State → Type 0
VisitsRoot p (Failed r) result t = (result ≡ Err r) × (t ≡ Failed r)
VisitsRoot p (Going b) (Ok u) (Failed r) = ⊥
VisitsRoot p (Going b) (Ok u) (Going c) = IsClosed c × (f : Forest) × p f × Takes b f × (c ≡ plus b f)
VisitsRoot p (Going b) (Err e) (Failed r) = IsClosed b × (e ≡ r)
VisitsRoot p (Going b) (Err e) (Going c) = (e ≡ Open) × ¬ IsClosed c × (¬ IsClosed b → c ≡ b)
    × (is_graph c ≡ is_graph b)

-- ---- whole runs
-- The result of a finished run: the graph, the text of the warnings, and the paths that have one.
pub record Profile : Type 0 where
  pub graph : Graph
  pub warnings : List ℕ
  pub warned : List Warned

-- How the collector of a flame graph ends: with its first cause; with Open if a visitor is open; or with what p says
-- of its sums, or Memory if memory runs out. No collector of a sum ends so.
abbrev pub Ends : {T : Type 0} → (Sums → T → Type 0) → State → Result T Refusal → Type 0
Ends p (Failed r) result = result ≡ Err r
Ends p (Going (OfGraph c)) (Ok made) = IsClosed (OfGraph c) × p c.sums made
Ends p (Going (OfGraph c)) (Err e) = ((e ≡ Open) × ¬ IsClosed (OfGraph c)) ⊎ ((e ≡ Memory) × IsClosed (OfGraph c))
Ends p (Going (OfSum s)) result = ⊥

-- The graph, the warnings and the paths that have one are those of the sums.
abbrev pub IsProfile : Sums → Profile → Type 0
IsProfile s o = (o.graph ≡ graph s) × (o.warnings ≡ warnings s) × (o.warned ≡ warned_paths s)

-- The profile is that of some whole showing f that p allows: f reaches exactly the identities whose contents it
-- shows, its own entries have a meaning, and the graph, the warnings and the paths that have one are those of every
-- such meaning.
pub record IsProfileOf (p : Showing) (o : Profile) : Type 0 where
  pub shown : Forest
  pub allowed : p shown
  pub whole : IsWhole shown
  pub reaches : ReachesExactly shown
  pub meaning : IsMeaning (own shown) (content_of shown) (all shown)
  pub graph_is : (m : Bag) → IsMeaning (own shown) (content_of shown) m → o.graph ≡ graph (sums_of m)
  pub warnings_are : (m : Bag) → IsMeaning (own shown) (content_of shown) m → o.warnings ≡ warnings (sums_of m)
  pub warned_are : (m : Bag) → IsMeaning (own shown) (content_of shown) m → o.warned ≡ warned_paths (sums_of m)

-- g is the graph of some whole showing that p allows.
pub record IsGraphOf (p : Showing) (g : Graph) : Type 0 where
  pub shown : Forest
  pub allowed : p shown
  pub whole : IsWhole shown
  pub is : g ≡ graph (sums_of (all shown))

-- g is the sum of the graphs of a whole showing that p allows and of one that q allows. If no identity is reached by
-- both and their sums can be added, g is the graph of the one whole showing that has both.
pub record IsSumOfTwo (p q : Showing) (g : Graph) : Type 0 where
  pub left : Forest
  pub right : Forest
  pub left_allowed : p left
  pub right_allowed : q right
  pub left_whole : IsWhole left
  pub right_whole : IsWhole right
  pub is : g ≡ sum_of (graph (sums_of (all left))) (graph (sums_of (all right)))
  pub is_one : ReachApart left right → CanBeAdded (sums_of (all left)) (sums_of (all right))
      → IsWhole (followed_by left right) × (g ≡ graph (sums_of (all (followed_by left right))))
