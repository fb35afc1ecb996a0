-- What a collector has after forests, entries and leaving.
use Rattle.std.proofs.Common.{◌≡◌, ◌↔◌, ◌≤◌, suc, ℕ, ◌+◌, Bool, true, false, cond, [], ◌∷◌, ◌++◌, sym, subst, arith}
use Rattle.std.proofs.Common.{append-nil}
use Rattle.allocative_graph.proofs.Common.{contains, Key, Identity, Forest, Empty, Inline, Unique, First, Again}
use Rattle.allocative_graph.proofs.Common.{own_behind, contents, followed_by}
use Rattle.allocative_graph.specs.Collector.{Live, Summing, Kind, OfGraph, OfSum, entry_bytes, forest_bytes}
use Rattle.allocative_graph.specs.Collector.{figure_inside, figure_after, HasNoSpare, count_entry, enter_first, plus}
use Rattle.allocative_graph.specs.Collector.{Takes, enter, leave, begin, is_graph, visitors, Restore, outer_of}
use Rattle.allocative_graph.specs.Collector.{IsClosed}
use Rattle.allocative_graph.specs.declared.restore.Restore.TheVariants.{Held, Owned}
use Rattle.allocative_graph.proofs.Owned.{direct-following, owned-following, direct-owned}
use Rattle.allocative_graph.proofs.Showings.{entries_at-following, contents-following, met-following, fits-following}
use Rattle.allocative_graph.proofs.Basics.{each-append, each-parts}
use Rattle.allocative_graph.specs.{Forest.entry_of, Owned.held, Owned.inline_bytes, Owned.direct}

-- ---- a sum of held or of owned bytes
abbrev held_in : Bool → Forest → ℕ
held_in u f = held f + cond u (inline_bytes f) 0

-- The bytes that two forests hold one after another add up, in a unique entry and outside of one.
held_in-following : (u : Bool) (f g : Forest) → held_in u (followed_by f g) ≡ held_in u f + held_in u g
held_in-following u Empty g = grind arith
held_in-following u (Inline k n f after) g = grind (arith, held_in-following u after g)
held_in-following u (Unique k n f after) g = grind (arith, held_in-following u after g)
held_in-following u (First k n j f after) g = held_in-following u after g
held_in-following u (Again k n j after) g = held_in-following u after g

-- The bytes that two forests add one after another add up.
pub forest_bytes-following : (r : Restore) (f g : Forest) →
    forest_bytes r (followed_by f g) ≡ forest_bytes r f + forest_bytes (figure_after r (direct f)) g
forest_bytes-following (Held u) f g = held_in-following u f g
forest_bytes-following (Owned spare) f g =
    grind (arith, direct-following f g, owned-following f g, direct-owned f, direct-owned g)

-- An entry with a forest inside it adds what the entry does, and then what the forest does there.
pub forest_bytes-entry : (r : Restore) (u : Bool) (k : Key) (n : ℕ) (f : Forest) →
    forest_bytes r (entry_of u k n f) ≡ entry_bytes r u n + forest_bytes (figure_inside r u n) f
forest_bytes-entry r u k n f = grind (arith, direct-owned f)

-- With no bytes inside it, an entry keeps its figure.
pub figure_after-zero : (r : Restore) → figure_after r 0 ≡ r
figure_after-zero r = grind arith

-- What has no spare bytes keeps its figure.
pub figure_after-none : (r : Restore) (n : ℕ) → HasNoSpare r → figure_after r n ≡ r
figure_after-none r n h = grind arith

-- ---- each
-- An empty forest leaves a collector unchanged.
pub plus-nothing : (c : Kind) → plus c Empty ≡ c
plus-nothing c = grind arith

-- A collector has after two forests in one what it has after the first and then the second.
pub plus-following : (c : Kind) (f g : Forest) → plus c (followed_by f g) ≡ plus (plus c f) g
plus-following (OfGraph c) f g = λ i. OfGraph
    (record c { sums = entries_at-following c.sums c.here f g i; met = met-following c.met f g i })
plus-following (OfSum s) f g =
    let r = s.figure in
    let sum : s.sum + forest_bytes r (followed_by f g)
    ≡ (s.sum + forest_bytes r f) + forest_bytes (figure_after r (direct f)) g =
    omega (arith, forest_bytes-following r f g) in
    let after : figure_after r (direct (followed_by f g)) ≡ figure_after (figure_after r (direct f)) (direct g) =
    grind (arith, direct-following f g) in
    λ i. OfSum (record s { sum = sum i; figure = after i })

-- A collector takes the empty forest.
pub takes_nothing : (c : Kind) → Takes c Empty
takes_nothing (OfGraph c) = tt
takes_nothing (OfSum s) = tt

-- A collector takes two forests in one exactly if it takes the first and, with that added, the second.
pub takes_following : (c : Kind) (f g : Forest) → Takes c (followed_by f g) ↔ (Takes c f × Takes (plus c f) g)
takes_following (OfGraph c) f g = fits-following c.met f g
takes_following (OfSum s) f g = rw (contents-following f g)
    (each-parts (λ c. ⊥) (contents f) (contents g), λ w. each-append (λ c. ⊥) (contents f) (contents g) w.0 w.1)

-- If a collector takes a forest and, with that added, another, it takes both in one.
pub takes_both : (c : Kind) (f g : Forest) → Takes c f → Takes (plus c f) g → Takes c (followed_by f g)
takes_both c f g v w = (takes_following c f g).1 (v, w)

-- An entry with f inside it is entering, adding f and one step back.
pub inside_entry : (u : Bool) (k : Key) (n : ℕ) (c : Kind) (f : Forest) →
    leave (outer_of n c) (plus (enter u k n c) f) ≡ plus c (entry_of u k n f)
inside_entry true k n (OfGraph c) f = rw (append-nil (own_behind (c.here ++ k ∷ []) f), append-nil (contents f))
inside_entry false k n (OfGraph c) f = rw (append-nil (own_behind (c.here ++ k ∷ []) f), append-nil (contents f))
inside_entry u k n (OfSum s) f =
    let sum : (s.sum + entry_bytes s.figure u n) + forest_bytes (figure_inside s.figure u n) f
    ≡ s.sum + forest_bytes s.figure (entry_of u k n f) = omega (arith, forest_bytes-entry s.figure u k n f) in
    let top : n ≡ direct (entry_of u k n f) = grind arith in
    λ i. OfSum (record s { sum = sum i; figure = figure_after s.figure (top i) })

-- A collector takes an entry with a forest inside it if, once the entry is entered, it takes that forest.
pub takes_entry : (u : Bool) (k : Key) (n : ℕ) (c : Kind) (f : Forest) → Takes (enter u k n c) f →
    Takes c (entry_of u k n f)
takes_entry true k n (OfGraph c) f w = (w, tt)
takes_entry false k n (OfGraph c) f w = (w, tt)
takes_entry true k n (OfSum s) f w = each-append (λ c. ⊥) (contents f) [] w tt
takes_entry false k n (OfSum s) f w = each-append (λ c. ⊥) (contents f) [] w tt

-- The content of a shared entry starts at the root.
pub inside_first : (k : Key) (n : ℕ) (j : Identity) (c : Live) (f : Forest) (outer : Restore) →
    leave outer (plus (OfGraph (enter_first k n j c)) f) ≡ plus (OfGraph c) (First k n j f Empty)
inside_first k n j c f outer = rw (append-nil (contents f))

-- A flame graph's collector takes a shared entry with its content if the identity is new and the content fits.
pub takes_shared : (k : Key) (n : ℕ) (j : Identity) (c : Live) (f : Forest) → contains c.met j ≡ false →
    Takes (OfGraph (enter_first k n j c)) f → Takes (OfGraph c) (First k n j f Empty)
takes_shared k n j c f new w = (new, w, tt)

-- A shared entry without its content adds to a sum what a unique entry with nothing inside it adds.
pub forest_bytes-again : (r : Restore) (k : Key) (n : ℕ) (j : Identity) →
    forest_bytes r (Again k n j Empty) ≡ entry_bytes r true n
forest_bytes-again r k n j = grind arith

-- A shared entry without its content is counted in a sum.
pub counted_again : (k : Key) (n : ℕ) (j : Identity) (s : Summing) →
    plus (OfSum s) (Again k n j Empty) ≡ OfSum (count_entry true n s)
counted_again k n j s = grind (arith, forest_bytes-again s.figure k n j)

-- A shared entry without its content leaves a sum of held bytes as it is.
pub held_again : (k : Key) (n : ℕ) (j : Identity) (s : Summing) (u : Bool) → s.figure ≡ Held u →
    plus (OfSum s) (Again k n j Empty) ≡ OfSum s
held_again k n j s u h = grind arith

-- ---- the count of visitors
-- A closed collector has no open visitor.
pub closed-visitors : (c : Kind) → IsClosed c → visitors c ≡ 0
closed-visitors c h = grind arith

-- A closed collector stays closed as forests are added.
pub closed-plus : (c : Kind) (f : Forest) → IsClosed c → IsClosed (plus c f)
closed-plus (OfGraph c) f h = h
closed-plus (OfSum s) f h = (h.0, subst HasNoSpare (sym (figure_after-none s.figure (direct f) h.1)) h.1)

-- A forest that is added leaves the number of open visitors as it was.
pub visitors-plus : (c : Kind) (f : Forest) → visitors (plus c f) ≡ visitors c
visitors-plus c f = grind arith

-- Entering an entry opens one visitor more.
pub visitors-enter : (u : Bool) (k : Key) (n : ℕ) (c : Kind) → visitors (enter u k n c) ≡ suc (visitors c)
visitors-enter u k n c = grind arith

-- Leaving takes at most one open visitor away.
pub visitors-leave : (outer : Restore) (c : Kind) → visitors c ≤ suc (visitors (leave outer c))
visitors-leave outer c = grind arith

-- ---- which of them it is
-- Entering a forest does not change which kind a collector is.
pub is_graph-plus : (c : Kind) (f : Forest) → is_graph (plus c f) ≡ is_graph c
is_graph-plus c f = grind arith

-- Entering an entry does not change whether a collector is a flame graph's.
pub is_graph-enter : (u : Bool) (k : Key) (n : ℕ) (c : Kind) → is_graph (enter u k n c) ≡ is_graph c
is_graph-enter u k n c = grind arith

-- Leaving an entry does not change whether a collector is a flame graph's.
pub is_graph-leave : (outer : Restore) (c : Kind) → is_graph (leave outer c) ≡ is_graph c
is_graph-leave outer c = grind arith

-- Opening a root visitor does not change whether a collector is a flame graph's.
pub is_graph-begin : (c : Kind) → is_graph (begin c) ≡ is_graph c
is_graph-begin c = grind arith
