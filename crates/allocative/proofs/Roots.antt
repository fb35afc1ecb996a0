-- What a visit by a root visitor amounts to.
use Rattle.std.proofs.Common.{◌≡◌, ℕ, suc, ◌+◌, ◌<◌, List, length, take, get_or, Bool, IsTrue, Result, Ok}
use Rattle.std.proofs.Common.{Err, IsErr, refl, ap, sym, ◌∙◌, arith, IfOk, [], ◌∷◌, ◌++◌, drop, inl, inr}
use Rattle.allocative.proofs.Common.{Restore, Refusal, Forest, followed_by, add_all, Kind}
use Rattle.allocative.proofs.Common.{OfGraph, OfSum, State, Failed, Going, leave, plus, Takes, visitors, is_graph}
use Rattle.allocative.proofs.Common.{begin, outer_of, close_entry, nothing_held, Showing, Both, each_shows, AddsForest}
use Rattle.allocative.proofs.Common.{refused, hidden, forgotten, OpensRoot, Settles, VisitsRoot, Profile, IsProfileOf}
use Rattle.allocative.proofs.Common.{MayRefuse, FailsOnlyIfFull, has_added, has_refused, RootFailsOnlyIfFull}
use Rattle.allocative.proofs.Common.{HasRoomFor, CanTake, Memory, TooLarge}
use Rattle.allocative_graph.specs.declared.refusal.Refusal.TheVariants.{Open}
use Rattle.allocative_graph.specs.Collector.{Summing, nothing_owned}
use Rattle.allocative.specs.SizeOf.{AnswersVisitOf, MayRefuseHeld, MayRefuseOwned}
use Rattle.allocative.specs.Strict.{CanBeProfiled, MayRefuseProfile}
use Rattle.allocative.proofs.Visits.{err_or, same_err}
use Rattle.allocative.specs.Visited.{Effect, WasVisited, VisitsByRoot, not_begun, by_root}
use Rattle.allocative_graph.specs.Forest.{met_after, Fits, own, all}
use Rattle.allocative_graph.specs.Sums.{sums_of}
use Rattle.allocative_graph.specs.Meaning.{content_of}
use Rattle.allocative_graph.specs.Graph.{Graph, graph, warnings, warned_paths, sum_of}
use Rattle.allocative_graph.specs.Collector.{go, entries_at, IsClosed, IsAtRoot, no_entries, forest_bytes}
use Rattle.allocative_graph.specs.Owned.{direct}
use Rattle.allocative_graph.specs.Visits.{added, Ends, IsProfile, IsSumOfTwo}
use Rattle.allocative_graph.proofs.Plus.{plus-following, takes_both, visitors-leave, closed-visitors, closed-plus}
use Rattle.allocative_graph.proofs.Plus.{figure_after-zero, figure_after-none, is_graph-plus, is_graph-leave}
use Rattle.allocative_graph.proofs.Plus.{is_graph-begin}
use Rattle.allocative_graph.proofs.Sums.{bytes_entered-empty}
use Rattle.allocative.proofs.Strict.{bytes_entered-plus, can_first, can_second, may_refuse, each_append, each_one}
use Rattle.allocative.proofs.Strict.{declared_append, around_item}
use Rattle.allocative_graph.proofs.Showings.{all_is_meaning, reaches_exactly, one_sums, whole_following, graphs_add}
use Rattle.allocative.specs.Kinds.{as_graph}
use Rattle.std.specs.List.{list_all}
use Rattle.std.proofs.lemmas.Bool.{false≢true}
use Rattle.std.proofs.lemmas.Grind.{common_steps}
use Rattle.std.proofs.lemmas.List.{take_more}
use Rattle.std.proofs.lemmas.List.Sums.{AllPass-from_list_all}

-- If no visitor was open, exactly one is open after a root visitor was opened.
visitors-begin : (b : Kind) → IsClosed b → visitors (begin b) ≡ 1
visitors-begin (OfGraph c) h = ap suc h
visitors-begin (OfSum s) h = ap suc h.0

-- The entries of a root visitor, and its end.
out_of_begin : (b : Kind) (f : Forest) → IsAtRoot b → leave (outer_of 0 b) (plus (begin b) f) ≡ plus b f
out_of_begin (OfGraph c) f h = λ i. OfGraph
    (record c { sums = add_all c.sums (entries_at (sym h.0 i) f); met = met_after c.met f })
out_of_begin (OfSum s) f h =
    let same = figure_after-zero s.figure ∙ sym (figure_after-none s.figure (direct f) h) in
    λ i. OfSum (record s { sum = s.sum + forest_bytes s.figure f; figure = same i })

-- What a collector can take with a root visitor open, it can take without it.
takes_begin : (b : Kind) (f : Forest) → Takes (begin b) f → Takes b f
takes_begin (OfGraph c) f t = t
takes_begin (OfSum s) f t = t

-- A step of `root_visited`: adding at the root visitor, and then leaving it, is a visit of a root.
visits_going : {p : Showing} (b : Kind) {c : State} {r : Result Unit Refusal} (q : Result Unit Refusal) → IsClosed b →
    IsAtRoot b → AddsForest p (Going (begin b)) r c → Settles (close_entry (outer_of 0 b) c) q →
    VisitsRoot p (Going b) q (close_entry (outer_of 0 b) c)
visits_going b q h here refused k = rw k (h, refl)
visits_going b q h here hidden k = rw k (h, refl)
visits_going b (Err x) h here (forgotten {c = c} j l) k =
    grind (arith, is_graph-leave (outer_of 0 b) c, is_graph-begin b)
visits_going b (Ok u) h here (forgotten {c = c} j l) k =
    let left = closed-visitors (leave (outer_of 0 b) c) k in
    absurd (omega (arith, visitors-begin b h, left, visitors-leave (outer_of 0 b) c, l))
visits_going b (Err x) h here (added {c = c} f p t g) k =
    grind (arith, is_graph-leave (outer_of 0 b) c, is_graph-plus (begin b) f, is_graph-begin b)
visits_going b (Ok u) h here (added f p t g) k = (k, f, p, takes_begin b f t, cc (out_of_begin b f here))

-- A strict visit that was opened by a root visitor leaves its collector closed, or failed with what it returned.
only_if_full_going : {p : Showing} (b : Kind) {c : State} {r : Result Unit Refusal} (q : Refusal) → IsClosed b →
    IsAtRoot b → FailsOnlyIfFull p (Going (begin b)) r c → Settles (close_entry (outer_of 0 b) c) (Err q) →
    (close_entry (outer_of 0 b) c ≡ Failed q) × MayRefuse p (begin b) q
only_if_full_going b q h here (has_added {c = c} f x t g) k =
    let same : leave (outer_of 0 b) c ≡ plus b f = cc (out_of_begin b f here) in
    absurd (k.1 (rw same (closed-plus b f h)))
only_if_full_going b q h here (has_refused {e = y} m) k = let is : q ≡ y = cc in rw is (refl, m)

-- A visit by a root visitor is a visit of a root.
pub root_visited : {x : Bool} {p : Showing} {effect : Effect} {s t : State} {r : Result Unit Refusal} →
    VisitsByRoot x p effect s t r → VisitsRoot p s r t
root_visited {s = Failed z} (not_begun h) = (ap Err h.0, h.1)
root_visited {s = Going b} (not_begun h) = rw h.2 (h.0, h.1, (λ n. refl), refl)
root_visited {s = Failed z} (by_root h v l k) = absurd h
root_visited {s = Going b} {r = q} (by_root {w = w} h v l k) =
    let d = l.closes ∙ ap (λ (o : Restore). close_entry o w.collector.now) (v.same_outer ∙ h.2) in
    rw d (visits_going b q h.0 h.1 (rw h.3 at v.shown) (rw d at k))

-- A strict visit by a root visitor refuses only if it must.
pub root_strict : {x : Bool} {p : Showing} {effect : Effect} {s t : State} {r : Result Unit Refusal} →
    VisitsByRoot x p effect s t r → RootFailsOnlyIfFull x p s r t
root_strict {s = Failed z} (not_begun h) = tt
root_strict {s = Going b} (not_begun h) = λ strict closed. absurd (h.1 closed)
root_strict {s = Failed z} (by_root h v l k) = tt
root_strict {s = Going b} {r = Ok u} (by_root h v l k) = tt
root_strict {s = Going b} {r = Err z} (by_root {w = w} h v l k) = λ strict closed.
    let d = l.closes ∙ ap (λ (o : Restore). close_entry o w.collector.now) (v.same_outer ∙ h.2) in
    rw d (only_if_full_going b z closed h.1 (rw h.3 at (v.only_if_full strict)) (rw d at k))

-- What can be profiled, an empty collector of a flame graph can take.
profile_taken : {p : Showing} → CanBeProfiled p → CanTake (OfGraph no_entries) p
profile_taken can = (can.0, λ f x. omega (arith, bytes_entered-empty, can.1 f x))

-- A strict visit in an empty collector of a flame graph is refused as the profile may be.
pub profile_refused : {x : Bool} {p : Showing} {s : State} (t : State) {e : Refusal} → s ≡ Going (OfGraph no_entries) →
    RootFailsOnlyIfFull x p s (Err e) t → MayRefuseProfile x p e
profile_refused t {e = Memory} is h strict = inl refl
profile_refused t {e = TooLarge} is h strict = inr (refl, λ can. ((rw is at h) strict refl).1 (profile_taken can))
profile_refused t {e = Open} is h strict = absurd ((rw is at h) strict refl).1

-- A strict visit in a closed collector of a sum is refused only if that cannot take all that p allows.
sum_refused : {x : Bool} {p : Showing} {s : State} (t : State) {e : Refusal} {z : Summing} {Q : Type 0} →
    (Q → CanTake (begin (OfSum z)) p) → IsClosed (OfSum z) → s ≡ Going (OfSum z) →
    RootFailsOnlyIfFull x p s (Err e) t → IsTrue x → (e ≡ TooLarge) × ¬ Q
sum_refused t {e = Memory} up closed is h strict = absurd (false≢true ((rw is at h) strict closed).1)
sum_refused t {e = TooLarge} up closed is h strict = (refl, λ can. ((rw is at h) strict closed).1 (up can))
sum_refused t {e = Open} up closed is h strict = absurd ((rw is at h) strict closed).1

-- A strict visit in an empty collector of held bytes is refused as those may be.
pub held_refused : {x : Bool} {p : Showing} {s : State} (t : State) {e : Refusal} → s ≡ Going (OfSum nothing_held) →
    RootFailsOnlyIfFull x p s (Err e) t → MayRefuseHeld x p e
held_refused t = sum_refused t (λ can. (can.0, λ f x. (omega (arith, (can.1 f x).0), (can.1 f x).1))) (refl, tt)

-- A strict visit in an empty collector of owned bytes is refused as those may be.
pub owned_refused : {x : Bool} {p : Showing} {s : State} (t : State) {e : Refusal} → s ≡ Going (OfSum nothing_owned) →
    RootFailsOnlyIfFull x p s (Err e) t → MayRefuseOwned x p e
owned_refused t = sum_refused t (λ can. (can.0, λ f x. (omega (arith, (can.1 f x).0), (can.1 f x).1))) (refl, refl)

-- After a visit at a closed collector, the result is what is answered of the collector that the visit left.
pub visit_answered : {T : Type 0} {z : Kind} {x : Bool} {p : Showing} {effect : Effect}
    {answers : State → Result T Refusal → Type 0} {s t : State} {q : Result Unit Refusal} {r : Result T Refusal} →
    VisitsByRoot x p effect s t q → s ≡ Going z → IsClosed z → (Settles t q → answers t r) →
    AnswersVisitOf z p effect answers r
visit_answered (not_begun b) is closed up = absurd ((rw is at b).1 closed)
visit_answered {z = z} {p = p} {effect = effect} (by_root {v = v} {w = w} {told = told} b h l k) is closed up =
    let b' : OpensRoot (Going z) (Ok v.outer) v.collector.now = rw is at b in
    let c = w.collector.now in
    let left = l.closes ∙ ap (λ (o : Restore). close_entry o c) (h.same_outer ∙ b'.2) in
    let visited : WasVisited p effect (Going (begin z)) c =
    record { told = told; shown = rw b'.3 at h.shown; takes_effect = rw b'.3 at h.takes_effect } in
    record { after = c; visited = visited; answer = rw left at (up k) }

-- If the visit returns an error, so does the call, with that error.
pub visit_refused : {T : Type 0} {z : Kind} {x : Bool} {p : Showing} {effect : Effect}
    {answers : State → Result T Refusal → Type 0} {s t : State} {e : Refusal} {r : Result T Refusal} →
    VisitsByRoot x p effect s t (Err e) → s ≡ Going z → IsClosed z → (Settles t (Err e) → answers t (Err e)) →
    IsErr r → e ≡ err_or e r → AnswersVisitOf z p effect answers r
visit_refused v is closed up h i = rw (same_err _ h i) (visit_answered v is closed up)

-- ---- the collector of a builder
-- What a contract of a builder sees, it sees as it is.
pub as_graph-as_graph : (c : State) → as_graph (as_graph c) ≡ as_graph c
as_graph-as_graph c = grind (arith, common_steps)

-- A visit of a root keeps the collector of a builder one of a flame graph.
pub graph_kept : (p : Showing) (c t : State) (r : Result Unit Refusal) → VisitsRoot p (as_graph c) r t → as_graph t ≡ t
graph_kept p c t r v = grind (arith, common_steps)

-- A visit by a root visitor of a builder's collector is a visit of a root of the builder.
pub built_visits : {x : Bool} {p : Showing} {effect : Effect} (c : State) {t : State} {r : Result Unit Refusal} →
    VisitsByRoot x p effect (as_graph c) t r → VisitsRoot p (as_graph c) r (as_graph t)
built_visits {p = p} c {t} {r} v = rw (graph_kept p c t r (root_visited v)) (root_visited v)

-- A strict visit by a root visitor of a builder's collector refuses only if it must.
pub built_strict : {x : Bool} {p : Showing} {effect : Effect} (c : State) {t : State} {r : Result Unit Refusal} →
    VisitsByRoot x p effect (as_graph c) t r → RootFailsOnlyIfFull x p (as_graph c) r (as_graph t)
built_strict {p = p} c {t} {r} v = rw (graph_kept p c t r (root_visited v)) (root_strict v)

-- Two runs are one of all that r allows, if r allows what both show.
visits_joined : {p q r : Showing} (s m t : State) (u v w : Unit) → ((f : Forest) → Both p q f → r f) →
    VisitsRoot p s (Ok u) m → VisitsRoot q m (Ok v) t → VisitsRoot r s (Ok w) t
visits_joined (Failed x) m t u v w up g h = absurd (cc)
visits_joined (Going b) (Failed x) t u v w up g h = absurd g
visits_joined (Going b) (Going c) (Failed x) u v w up g h = h
visits_joined (Going b) (Going c) (Going d) u v w up (z, f, a, t, k) (y, g, b', t', k') =
    let taken = takes_both b f g t (rw k at t') in
    (y, followed_by f g, up (followed_by f g) (f, g, a, b', refl), taken, cc (plus-following b f g))

-- One step of a loop runs one more root, and a root that is refused ends it.
pub visits_one_more : {T : Type 0} (p : T → Showing) (xs : List T) (i : ℕ) (x : T) (s m t : State) (u v w : Unit) →
    VisitsRoot (each_shows p (take i xs)) s (Ok u) m → VisitsRoot (p x) m (Ok v) t → i < length xs → x ≡ get_or xs i x →
    VisitsRoot (each_shows p (take (i + 1) xs)) s (Ok w) t
visits_one_more p xs i x s m t u v w f g h e =
    let e' = take_more xs i x h in
    rw (e', ← e) (visits_joined s m t u v w
    (λ h y. each_append p (take i xs) (x ∷ []) h (y.0, y.1, y.2, each_one p x y.1 y.3, y.4)) f g)

-- ---- a root that is refused after others
-- Entries that are added with a root visitor open take as much room as without it.
room_begun : (b : Kind) (f g : Forest) → HasRoomFor (plus (begin b) f) g → HasRoomFor (begin (plus b f)) g
room_begun (OfGraph c) f g h = omega (arith, h, bytes_entered-plus (go [] c) f, bytes_entered-plus c f)
room_begun (OfSum s) f g h = h

-- A root that is refused may be refused as one of all roots. What is strict of all is strict of it.
only_if_full_among : {T : Type 0} (w y : Bool) (p : T → Showing) (front : List T) (x : T) (back : List T)
    (s m t : State) (u : Unit) (e : Refusal) → (IsTrue w → IsTrue y) →
    VisitsRoot (each_shows p front) s (Ok u) m → RootFailsOnlyIfFull y (p x) m (Err e) t →
    RootFailsOnlyIfFull w (each_shows p (front ++ x ∷ back)) s (Err e) t
only_if_full_among w y p front x back (Failed r) m t u e only g h = tt
only_if_full_among w y p front x back (Going b) (Failed r) t u e only g h = absurd g
only_if_full_among w y p front x back (Going b) (Going c) t u e only (z, f, a, k, i) h = λ strict closed.
    let r = h (only strict) z in
    let same : is_graph (begin b) ≡ is_graph (begin (plus b f)) =
    is_graph-begin b ∙ sym (is_graph-plus b f) ∙ sym (is_graph-begin (plus b f)) in
    let can : CanTake (begin b) (each_shows p (front ++ x ∷ back)) → CanTake (begin (plus b f)) (p x) = λ w.
    let both : CanTake (begin b) (Both (each_shows p front) (each_shows p (x ∷ back))) =
    (declared_append p front (x ∷ back) w.0, λ g y. w.1 g (each_append p front (x ∷ back) g y)) in
    let after = can_second (begin b) f a both in
    can_first (begin (plus b f)) (after.0, λ g y. room_begun b f g (after.1 g y)) in
    (r.0, may_refuse (begin (plus b f)) (begin b) can same e (rw i at r.1))

-- The root with this index is refused after the roots before it were visited.
pub only_if_full_indexed : {T : Type 0} (w y : Bool) (p : T → Showing) (xs : List T) (i : ℕ) (x : T) (s m t : State)
    (u : Unit) {e : Refusal} {r : Result Unit Refusal} → (IsTrue w → IsTrue y) → r ≡ Err e →
    VisitsRoot (each_shows p (take i xs)) s (Ok u) m → RootFailsOnlyIfFull y (p x) m (Err e) t → i < length xs →
    x ≡ get_or xs i x → RootFailsOnlyIfFull w (each_shows p xs) s r t
only_if_full_indexed w y p xs i x s m t u {e} only err g k l is =
    rw (← around_item xs i x l is, err) (only_if_full_among w y p (take i xs) x (drop (suc i) xs) s m t u e only g k)

-- If all roots are strict, so is the root with this index.
pub one_of_all : {T : Type 0} (q : T → Bool) (xs : List T) (i : ℕ) (x : T) → i < length xs → x ≡ get_or xs i x →
    IsTrue (list_all q xs) → IsTrue (q x)
one_of_all q xs i x l is all = ap q is ∙ AllPass-from_list_all q xs all i x l

-- ---- a whole run
-- If p is visited in an empty collector that ends with a profile, a whole showing of p has that profile.
pub profile_ended : (p : Showing) (s t : State) (u : Unit) (r : Result Profile Refusal) → VisitsRoot p s (Ok u) t →
    s ≡ Going (OfGraph no_entries) → Ends IsProfile t r → IfOk r (IsProfileOf p)
profile_ended p (Failed x) t u r h e k = absurd (cc)
profile_ended p (Going b) (Failed x) u r h e k = absurd h
profile_ended p (Going b) (Going c) u (Err x) h e k = tt
profile_ended p (Going b) (Going c) u (Ok o) (z, f, a, t, g) e k =
    let i : b ≡ OfGraph no_entries = cc in
    let w : Fits no_entries.met f = rw i at t in
    let k' : Ends IsProfile (Going (plus (OfGraph no_entries) f)) (Ok o) = rw (g, i) at k in
    let is = all_is_meaning f w in
    record {
      shown = f;
      allowed = a;
      whole = w;
      reaches = reaches_exactly f w;
      meaning = is;
      graph_is = λ m im. k'.1.0 ∙ ap graph (one_sums (own f) (content_of f) (all f) m is im);
      warnings_are = λ m im. k'.1.1 ∙ ap warnings (one_sums (own f) (content_of f) (all f) m is im);
      warned_are = λ m im. k'.1.2 ∙ ap warned_paths (one_sums (own f) (content_of f) (all f) m is im);
    }

-- The sum of the graphs of two profiles is the sum of the graphs of two whole showings, of p and of q.
pub sum_of_profiles : (p q : Showing) (o o' : Profile) (m : Graph) → IsProfileOf p o → IsProfileOf q o' →
    m ≡ sum_of o.graph o'.graph → IsSumOfTwo p q m
sum_of_profiles p q o o' m a b e =
    let is : m ≡ sum_of (graph (sums_of (all a.shown))) (graph (sums_of (all b.shown))) =
    e ∙ (λ i. sum_of (a.graph_is (all a.shown) a.meaning i) (b.graph_is (all b.shown) b.meaning i)) in
    record {
      left = a.shown;
      right = b.shown;
      left_allowed = a.allowed;
      right_allowed = b.allowed;
      left_whole = a.whole;
      right_whole = b.whole;
      is = is;
      is_one = λ apart can.
          (whole_following a.shown b.shown a.whole b.whole apart, is ∙ graphs_add a.shown b.shown can);
    }

-- The rules for calls that open a root visitor.
pub ruleset rooted = (not_begun, by_root)

-- The rules for visits by a root visitor, also of the collector of a builder.
pub ruleset by_root_visitor = (root_visited, root_strict, as_graph-as_graph, built_visits, built_strict)

-- Why a profile or a sum is refused.
pub ruleset refused_rightly = (profile_refused, held_refused, owned_refused)

-- The rules for visits of roots.
pub ruleset running = (visits_one_more, profile_ended, sum_of_profiles, refused_rightly, by_root_visitor)
