-- What a visit shows that takes the collector out of its visitor and enters by hand.
use Rattle.std.proofs.Common.{rules, ◌≡◌, ℕ, suc, Bool, true, false, Some, Result, Ok, refl, ap, arith}
use Rattle.allocative.proofs.Common.{Refusal, Key, Identity, Live, Restore, State, Showing, Nothing, Both, InsideAs}
use Rattle.allocative.proofs.Common.{AddsForest, forgotten, OpensEntry, ClosesEntry, OpensShared, enters_first, Visitor}
use Rattle.allocative.proofs.Common.{with_state, Visited, Entered, Means, OnlyIf}
use Rattle.allocative.specs.Visited.{AnyEffect}
use Rattle.allocative.proofs.Strict.{not_strict}
use Rattle.allocative.proofs.Meaning.{entered_if, means_same, visited_as}
use Rattle.allocative.proofs.Visits.{adds_nothing, adds_both, adds_entry}

-- What the collector was shown, the visit shows.
pub shown_by_hand : {p : Showing} {a : Visitor} {s t : State} {r : Result (Unit {0}) Refusal} → s ≡ a.collector.now →
    AddsForest p s r t → Visited false p AnyEffect a (with_state a t) r
shown_by_hand e h = let shown = rw e at h in search (rules, not_strict)

-- The same, if a part is entered afterwards.
pub shown_before : {p q : Showing} {e : Bool} {a b : Visitor} {s t : State} {u : Unit {0}}
    {r : Result (Unit {0}) Refusal} → s ≡ a.collector.now → AddsForest p s (Ok u) t → Entered e q (with_state a t) b r →
    Visited false (Both p q) AnyEffect a b r
shown_before e h k = let shown = rw e at h in search (rules, adds_both, not_strict)

-- An entry with nothing inside it.
pub entry_alone : {u : Bool} {k : Key} {n : ℕ} {o q : Restore} {s t d : State} {x : Unit {0}} →
    OpensEntry u k (Some n) s (Ok o) t → ClosesEntry q t d → q ≡ o → AddsForest (InsideAs u k n Nothing) s (Ok x) d
entry_alone g l e = adds_entry g refl (adds_nothing _ tt) l e

-- A shared value's content whose visitor is forgotten: more visitors are open than before.
pub content_forgotten : {q : Showing} {k : Key} {n : ℕ} {i : Identity} {s t : State} {v : Unit {0}} →
    OpensShared k n i s (Ok true) t → AddsForest q s (Ok v) t
content_forgotten (enters_first {c = c} {d = d} r h e) =
    let f : d.open_visitors ≡ suc c.open_visitors = ap (λ (x : Live). x.open_visitors) e in
    forgotten refl (omega (arith, f))

-- A part that was entered is the visit of x, if x is y and what the part shows means what y shows. With the showing of
-- all values given, the goal is not computed at x.
pub visited_at : {d e : Bool} {T : Type 0} (show : T → Showing) {x y : T} {p : Showing} {a b : Visitor}
    {r : Result (Unit {0}) Refusal} → x ≡ y → Entered e p a b r → OnlyIf d e → Means d p (show y) →
    Visited d (show x) AnyEffect a b r
visited_at show is h o m = rw is (visited_as (entered_if h o means_same) m)

-- The rules for implementations that enter by hand.
pub ruleset by_hand = (shown_by_hand, shown_before, entry_alone, content_forgotten)
