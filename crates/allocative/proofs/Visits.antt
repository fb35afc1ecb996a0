-- How visits compose: one after another, and inside an entry.
use Rattle.std.proofs.Common.{Bool, true, false, inl, inr, Option, ◌≡◌, ℕ, Result, Ok, Err, refl, sym, ◌∙◌}
use Rattle.std.proofs.Common.{IsErr, ap, subst, arith, Some, None}
use Rattle.allocative.proofs.Common.{Restore, Refusal, Key, Identity, Forest, Empty, First, Again, followed_by}
use Rattle.allocative.proofs.Common.{entry_of, Live, Kind, OfGraph, State, Failed, Going, enter, enter_first}
use Rattle.allocative.proofs.Common.{outer_of, failed_with, close_entry, Showing, Nothing}
use Rattle.allocative.proofs.Common.{Both, InsideAs, Field, sized, Shared, AddsForest, already, refused}
use Rattle.allocative.proofs.Common.{hidden, forgotten, HasFailed, OpensEntry, stays_failed, is_refused, is_entered}
use Rattle.allocative.proofs.Common.{OpensShared, stays_shared, is_refused_shared, enters_first, enters_again}
use Rattle.allocative.proofs.Common.{RefusesEntry, ClosesEntry, OfSum, is_too_large_shared, counts}
use Rattle.std.proofs.lemmas.Bool.{false≢true}
use Rattle.std.specs.FinSet.{contains}
use Rattle.allocative_graph.specs.Visits.{added}
use Rattle.allocative_graph.proofs.Plus.{plus-nothing, plus-following, takes_nothing, takes_both, inside_entry}
use Rattle.allocative_graph.proofs.Plus.{takes_entry, inside_first, takes_shared, counted_again, visitors-plus}
use Rattle.allocative_graph.proofs.Plus.{visitors-enter, visitors-leave, is_graph-plus, is_graph-enter, is_graph-leave}

-- ---- one after another
-- A visit that leaves the collector as it is and returns Ok shows no entry.
pub adds_nothing : (s : State) (u : Unit) → AddsForest Nothing s (Ok u) s
adds_nothing (Failed r) u = already
adds_nothing (Going b) u = added Empty refl (takes_nothing b) (sym (plus-nothing b))

-- If q allows all that p allows, a visit that shows p shows q.
pub adds_weaker : {p q : Showing} {a b : State} {r : Result Unit Refusal} → ((f : Forest) → p f → q f) →
    AddsForest p a r b → AddsForest q a r b
adds_weaker up already = already
adds_weaker up refused = refused
adds_weaker up hidden = hidden
adds_weaker up (forgotten g h) = forgotten g h
adds_weaker up (added f p t e) = added f (up f p) t e

-- If a visit that shows p returns Ok and a visit that shows q follows, both together show p followed by q.
pub adds_both : {p q : Showing} {a b c : State} {u : Unit} {r : Result Unit Refusal} → AddsForest p a (Ok u) b →
    AddsForest q b r c → AddsForest (Both p q) a r c
adds_both already already = already
adds_both {r = Ok v} hidden already = hidden
adds_both {r = Err e} hidden already = refused
adds_both (forgotten i h) refused = refused
adds_both (forgotten i h) hidden = hidden
adds_both (forgotten i h) (forgotten j k) = forgotten (j ∙ i) (omega arith)
adds_both (forgotten {c = c} i h) (added g p t e) =
    forgotten (grind (arith, is_graph-plus c g)) (grind (arith, visitors-plus c g))
adds_both (added f p t e) refused = refused
adds_both (added f p t e) hidden = hidden
adds_both (added {b = b} f p t e) (forgotten j k) =
    forgotten (grind (arith, is_graph-plus b f)) (grind (arith, visitors-plus b f))
adds_both (added {b = b} f p t e) (added {c = c} g q s k) =
    added (followed_by f g) (f, g, p, q, refl) (takes_both b f g t (rw e at s)) (cc (plus-following b f g))

-- After an Err nothing more is stated.
pub adds_err : {p q : Showing} {a b : State} {e : Refusal} → AddsForest p a (Err e) b → AddsForest q a (Err e) b
adds_err already = already
adds_err refused = refused

-- If a visit returns Ok and the next one returns an error, both together are a failed visit of any showing.
pub adds_both_err : {p q r : Showing} {a b c : State} {u : Unit} {x : Refusal} → AddsForest p a (Ok u) b →
    AddsForest q b (Err x) c → AddsForest r a (Err x) c
adds_both_err s t = adds_err (adds_both s t)

-- ---- inside an entry
-- An entry, a visit inside it that returns Ok, and leaving show the entry with the visit's forest inside it.
out_of : {p : Showing} (u : Bool) (k : Key) (n : ℕ) (b d : Kind) → d ≡ enter u k n b →
    {c : State} {v : Unit} (w : Unit) →
    AddsForest p (Going d) (Ok v) c → AddsForest (InsideAs u k n p) (Going b) (Ok w) (close_entry (outer_of n b) c)
out_of u k n b d i w hidden = hidden
out_of u k n b d i w (forgotten {c = c} j h) =
    forgotten (grind (arith, is_graph-leave (outer_of n b) c, is_graph-enter u k n b))
    (grind (arith, visitors-enter u k n b, visitors-leave (outer_of n b) c))
out_of u k n b d i w (added {c = c} f q t e) =
    added (entry_of u k n f) (f, q, refl) (takes_entry u k n b f (rw i at t)) (cc (inside_entry u k n b f))

-- An entry shows what is shown inside it, from the opening, the visit and the closing, if the closing restores what
-- the opening returned.
pub adds_entry : {u : Bool} {p : Showing} {k : Key} {n : ℕ} {o q : Restore} {s t a c d : State} {v x : Unit} →
    OpensEntry u k (Some n) s (Ok o) t → a ≡ t → AddsForest p a (Ok v) c → ClosesEntry q c d → q ≡ o →
    AddsForest (InsideAs u k n p) s (Ok x) d
adds_entry {u} {p} {k} {n} {c = c} {v = v} {x = x} (is_entered {b = b} {c = d} r f e) i s l q =
    let s' : AddsForest p (Going d) (Ok v) c = subst (λ (z : State). AddsForest p z (Ok v) c) i s in
    rw (l.closes, q, f) (out_of u k n b d e x s')

-- A field shows what is shown inside it, if it is opened, the visit returns Ok, and it is closed.
pub adds_field : {p : Showing} {k : Key} {y : Option ℕ} {o q : Restore} {s t a c d : State} {v x : Unit} →
    OpensEntry false k y s (Ok o) t → a ≡ t → AddsForest p a (Ok v) c → ClosesEntry q c d → q ≡ o →
    AddsForest (Field k y p) s (Ok x) d
adds_field {y = None} g i s l q = elim g [ ]
adds_field {y = Some n} g i s l q = adds_weaker (λ f h. sized h) (adds_entry g i s l q)

-- ---- a shared entry
-- A step of `content_shown`: a shared entry with a new identity shows what was shown as its content.
out_of_first : {p : Showing} (k : Key) (n : ℕ) (i : Identity) (b d : Live) → contains b.met i ≡ false →
    d ≡ enter_first k n i b → {c : State} {v : Unit} (o : Restore) (w : Unit) →
    AddsForest p (Going (OfGraph d)) (Ok v) c →
    AddsForest (Shared k n i p) (Going (OfGraph b)) (Ok w) (close_entry o c)
out_of_first k n i b d h e o w hidden = hidden
out_of_first k n i b d h e o w (forgotten {c = c} j m) =
    forgotten (is_graph-leave o c ∙ j) (grind (arith, visitors-leave o c))
out_of_first k n i b d h e o w (added {c = c} f q t m) =
    let t' = rw e at t in
    added (First k n i f Empty) (inl (f, q, refl)) (takes_shared k n i b f h t') (cc (inside_first k n i b f o))

-- If a shared entry is opened and its content is not to be shown, the pointer alone is shown.
pub adds_again : {p : Showing} {k : Key} {n : ℕ} {i : Identity} {is_first : Bool} {s t : State} {x : Unit} →
    OpensShared k n i s (Ok is_first) t → is_first ≡ false → AddsForest (Shared k n i p) s (Ok x) t
adds_again {k = k} {n = n} {i = i} (counts {a = a} r e) is =
    added (Again k n i Empty) (inr refl) tt (ap OfSum e ∙ sym (counted_again k n i a))
adds_again {k = k} {n = n} {i = i} (enters_again {c = c} r h e) is =
    added (Again k n i Empty) (inr refl) (h, tt) (ap OfGraph e)
adds_again (enters_first r h e) is = absurd (false≢true (sym is))

-- ---- a visit inside an entry that returns Err
-- If a visit inside an entry returns an error and the entry is closed, the visit around it may return an error.
inside_failed : {p q : Showing} {b d : Kind} (o : Restore) {c : State} {y x : Refusal} →
    AddsForest p (Going d) (Err y) c → AddsForest q (Going b) (Err x) (close_entry o c)
inside_failed o refused = refused

-- An entry in which a visit returns Err.
pub entry_err : {u : Bool} {p q : Showing} {k : Key} {y : Option ℕ} {o w : Restore} {s t a c d : State}
    {z x : Refusal} →
    OpensEntry u k y s (Ok o) t → a ≡ t → AddsForest p a (Err z) c → ClosesEntry w c d → AddsForest q s (Err x) d
entry_err {p = p} {w = w} {c = c} {z = y} (is_entered {c = d} r f e) i s l =
    rw l.closes (inside_failed w (subst (λ (z : State). AddsForest p z (Err y) c) i s))

-- If the content of a shared entry is visited and closed, the entry shows its content and returns what the visit did.
pub content_shown : {p : Showing} {k : Key} {n : ℕ} {i : Identity} {w : Restore} {s t c d : State}
    (r : Result Unit Refusal) → OpensShared k n i s (Ok true) t → AddsForest p t r c → ClosesEntry w c d →
    AddsForest (Shared k n i p) s r d
content_shown {k = k} {n} {i} {w} (Ok x) (enters_first {c = b} {d = d} r f e) h l =
    rw l.closes (out_of_first k n i b d f e w x h)
content_shown {w = w} (Err x) (enters_first r f e) h l = rw l.closes (inside_failed w h)

-- ---- refusals
-- The error of a result, and e if there is none.
abbrev pub err_or : {T : Type 0} → Refusal → Result T Refusal → Refusal
err_or e (Ok u) = e
err_or e (Err x) = x

-- If a result is an error and that error is e, the result is Err e.
pub same_err : {T : Type 0} {e : Refusal} (r : Result T Refusal) → IsErr r → e ≡ err_or e r → r ≡ Err e
same_err (Ok u) h i = absurd (false≢true h)
same_err (Err x) h i = ap Err (sym i)

-- An entry that is refused shows nothing more.
pub not_entered : {u : Bool} {q : Showing} {k : Key} {y : Option ℕ} {s t : State} {e : Refusal} →
    OpensEntry u k y s (Err e) t → AddsForest q s (Err e) t
not_entered stays_failed = already
not_entered (is_refused r) = refused

-- After an entry that is refused, the collector has failed with the cause.
pub not_entered_cause : {u : Bool} {k : Key} {y : Option ℕ} {s t : State} {e : Refusal} → OpensEntry u k y s (Err e) t →
    HasFailed t e
not_entered_cause stays_failed = refl
not_entered_cause (is_refused r) = refl

-- A shared entry that is refused shows nothing more.
pub not_shared : {q : Showing} {k : Key} {n : ℕ} {i : Identity} {s t : State} {e : Refusal} →
    OpensShared k n i s (Err e) t → AddsForest q s (Err e) t
not_shared stays_shared = already
not_shared (is_refused_shared r) = refused
not_shared (is_too_large_shared i r) = refused

-- An error that is returned by hand.
pub adds_refused : {q : Showing} (s : State) (e x : Refusal) (t : State) → t ≡ failed_with x s →
    AddsForest q s (Err e) t
adds_refused (Failed r) e x t i = rw i already
adds_refused (Going b) e x t i = rw i refused

-- A visit that returns Err, followed by refusing with that error.
pub adds_refused_err : {p : Showing} {a b c : State} {y x : Refusal} (r : Refusal) → AddsForest p a (Err y) b →
    c ≡ failed_with r b → AddsForest p a (Err x) c
adds_refused_err r already e = rw e already
adds_refused_err r refused e = rw e refused

-- A visit that was refused and returns Ok has hidden an error.
pub adds_hidden : {p q : Showing} {a b : State} {e : Refusal} {u : Unit} → AddsForest p a (Err e) b →
    AddsForest q a (Ok u) b
adds_hidden already = already
adds_hidden refused = hidden

-- A visit that opens an entry, never closes it, and returns Ok, has forgotten a visitor.
pub adds_forgotten : {u : Bool} {q : Showing} {k : Key} {y : Option ℕ} {o : Restore} {s t : State} {v : Unit} →
    OpensEntry u k y s (Ok o) t → AddsForest q s (Ok v) t
adds_forgotten {u} {k = k} (is_entered {n = n} {b = b} r f e) =
    forgotten (grind (arith, is_graph-enter u k n b)) (grind (arith, visitors-enter u k n b))

-- Closing an entry keeps the cause.
pub close_cause : {o : Restore} {c d : State} {e : Refusal} → ClosesEntry o c d → HasFailed c e → HasFailed d e
close_cause {o = o} l h = l.closes ∙ ap (close_entry o) h

-- What a refused entry returns.
pub refuses_entry : {u : Bool} {k : Key} {y : Option ℕ} {s t : State} {e : Refusal} → OpensEntry u k y s (Err e) t →
    RefusesEntry u y s e
refuses_entry stays_failed = refl
refuses_entry (is_refused r) = r
