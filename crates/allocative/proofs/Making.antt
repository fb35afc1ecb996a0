-- How entries are opened and made, one after another and inside each other, by calls that visit no part.
use Rattle.std.proofs.Common.{ℕ, ◌+◌, ◌<◌, ◌^◌, Bool, true, false, List, [], ◌∷◌, ◌≡◌, Option, Some, Result, Ok, Err}
use Rattle.std.proofs.Common.{rules, refl, sym, ◌∙◌, subst, ap, IfErr, IsTrue}
use Rattle.allocative.proofs.Common.{Restore, Yields, Refusal, Key, Identity, Live, OfGraph, State, Failed}
use Rattle.allocative.proofs.Common.{Going, close_entry, HasFailed, OpensEntry, stays_failed, is_refused, is_entered}
use Rattle.allocative.proofs.Common.{OpensShared, stays_shared, is_refused_shared, is_too_large_shared, counts}
use Rattle.allocative.proofs.Common.{enters_first, enters_again, ClosesEntry, Nothing, Field, already, FailsOnlyIfFull}
use Rattle.allocative.proofs.Common.{Entered, Visitor, with_state, Plan, Done, Entry, Makes, MakesPlan, made_none, made}
use Rattle.allocative.proofs.Common.{entry_refused, inside_refused, makes, gives, one, Showing, AddsForest}
use Rattle.allocative_collectors.specs.Places.{MeetsAs}
use Rattle.allocative_graph.specs.Collector.{Kind, enter, leave, outer_of}
use Rattle.allocative_graph.specs.Sums.{bytes_entered}
use Rattle.allocative_graph.specs.Visits.{HasRoom}
use Rattle.allocative.specs.Making.{followed_by_plan, had_failed, KeepsFailure, MakesPlanOrGives}
use Rattle.allocative.specs.Strict as refuses
use Rattle.allocative.proofs.Strict.{only_if_full_nothing, only_if_full_field, only_if_full_not_field}
use Rattle.allocative.proofs.Visits.{adds_nothing, adds_field, not_entered, not_entered_cause, refuses_entry}

-- ---- what was made goes on, and what was refused has failed
-- If entries were made and Ok was returned, making no entry then returns Ok.
goes_on : {p : Plan} {s t : State} {u : Unit} → Makes p s (Ok u) t → Makes Done t (Ok u) t
goes_on made_none = made_none
goes_on (made g i l a) = goes_on a

-- If making no entry returns Ok, so it does after an entry is closed.
going_closed : (o : Restore) {s t : State} {v : Unit} → Makes Done s (Ok v) t →
    Makes Done (close_entry o t) (Ok v) (close_entry o t)
going_closed o made_none = made_none

-- If making entries returns an error, the collector has failed with that error.
pub makes_failed : {p : Plan} {s t : State} {e : Refusal} → Makes p s (Err e) t → HasFailed t e
makes_failed had_failed = refl
makes_failed (made g i l a) = makes_failed a
makes_failed (entry_refused g) = not_entered_cause g
makes_failed (inside_refused g m) = makes_failed m

-- ---- one entry
-- After an inline entry was opened, making nothing inside it returns Ok.
pub nothing_inside : {k : Key} {size : Option ℕ} {s t : State} {o : Restore} (u : Unit) →
    OpensEntry false k size s (Ok o) t → Makes Done t (Ok u) t
nothing_inside u (is_entered r f e) = made_none

-- What the collector of a visitor was shown is entered, if the visitor stays where it was.
pub entered_at : {x : Bool} {p : Showing} {a : Visitor} {t : State} {r : Result Unit Refusal} →
    AddsForest p a.collector.now r t → IfErr r (HasFailed t) → (IsTrue x → FailsOnlyIfFull p a.collector.now r t) →
    Entered x p a (with_state a t) r
entered_at h c f = record { same_reference = refl; same_outer = refl; shown = h; cause = c; only_if_full = f }

-- Making one entry of a declared size, whatever it returns, enters a field with nothing inside it.
pub entered_alone_sized : {x : Bool} {k : Key} {size : Option ℕ} {a : Visitor} {t : State} {r : Result Unit Refusal} →
    Makes (one k size) a.collector.now r t → Entered x (Field k size Nothing) a (with_state a t) r
entered_alone_sized had_failed = entered_at already refl (λ y. refuses.had_failed)
entered_alone_sized (made g made_none l made_none) =
    entered_at (adds_field g refl (adds_nothing _ tt) l refl) tt
    (λ y. only_if_full_field g (only_if_full_nothing _ tt) l)
entered_alone_sized (made g made_none l had_failed) = absurd (cc l.closes)
entered_alone_sized (entry_refused g) = search (rules, not_entered, not_entered_cause, only_if_full_not_field)
entered_alone_sized (inside_refused g had_failed) = elim g [ ]

-- If an inline entry is opened, a plan is made inside it, and it is closed, the entry with the plan is made.
pub makes_within : {k : Key} {size : Option ℕ} {inside : Plan} {o : Restore} {s t c d : State}
    {r : Result Unit Refusal} →
    OpensEntry false k size s (Ok o) t → Makes inside t r c → ClosesEntry o c d → Makes (Entry k size inside Done) s r d
makes_within {o = o} {r = Ok v} g m e =
    rw e.closes (made g m (record { closes = refl }) (going_closed o (goes_on m)))
makes_within {o = o} {r = Err x} g m e =
    let h = makes_failed m in
    rw (e.closes ∙ ap (close_entry o) h ∙ sym h) (inside_refused g m)

-- If a call inside an entry makes no entry or is given an item, it makes that one entry or is given an item.
pub gives_within : {S A : Type 0} {steps : S → Option A → S → Type 0} {x : S} {k : Key} {n : ℕ} {o : Restore}
    {a b c : Visitor} {t : State} {r : Result Unit Refusal} → OpensEntry false k (Some n) a.collector.now (Ok o) t →
    MakesPlanOrGives steps x Done (with_state a t) b r → ClosesEntry o b.collector.now c.collector.now →
    MakesPlanOrGives steps x (one k (Some n)) a c r
gives_within g (makes m) e = makes (makes_within g m e)
gives_within g (gives y t h) e = gives y t h

-- If a call over an iterator makes one entry, and this is refused, the call may return that error.
pub gives_refused : {S A : Type 0} {steps : S → Option A → S → Type 0} {x : S} {k : Key} {n : ℕ} {a b : Visitor}
    {e : Refusal} → OpensEntry false k (Some n) a.collector.now (Err e) b.collector.now →
    MakesPlanOrGives steps x (one k (Some n)) a b (Err e)
gives_refused g = makes (entry_refused g)

-- ---- one plan after another
-- Making one plan with Ok and then another is making the one followed by the other.
pub makes_then : {p q : Plan} {s t d : State} {u : Unit} {r : Result Unit Refusal} → Makes p s (Ok u) t →
    Makes q t r d → Makes (followed_by_plan p q) s r d
makes_then made_none n = n
makes_then (made g i l a) n = made g i l (makes_then a n)

-- If making a plan returns an error, making it with another plan after it returns the same error.
pub then_refused : {p : Plan} (q : Plan) {s t : State} {e : Refusal} → Makes p s (Err e) t →
    Makes (followed_by_plan p q) s (Err e) t
then_refused q had_failed = had_failed
then_refused q (made g i l a) = made g i l (then_refused q a)
then_refused q (entry_refused g) = entry_refused g
then_refused q (inside_refused g m) = inside_refused g m

-- ---- iterators
-- A run that gave one more item gives an item.
pub run_gives : {S A : Type 0} (steps : S → Option A → S → Type 0) {s u : S} (t : S) {x : A} {p : Plan} {a b : Visitor}
    {r : Result Unit Refusal} (xs : List A) → Yields steps s xs t → steps t (Some x) u →
    MakesPlanOrGives steps s p a b r
run_gives steps {u = u} t {x = x} [] e g = gives x u (subst (λ v. steps v (Some x) u) (sym e) g)
run_gives steps t (y ∷ ys) h g = gives y h.0 h.1

-- ---- a collector that had failed
-- Making entries in a failed collector returns its cause, and the collector keeps it.
pub failed_makes : {p : Plan} {e : Refusal} {t : State} {r : Result Unit Refusal} → Makes p (Failed e) r t →
    (r ≡ Err e) × HasFailed t e
failed_makes had_failed = (refl, refl)
failed_makes (made g i l a) = elim g [ ]
failed_makes (entry_refused stays_failed) = (refl, refl)
failed_makes (inside_refused g m) = elim g [ ]

-- Making entries keeps the cause of a failed collector.
pub makes_keeps : {p : Plan} {a b : Visitor} {r : Result Unit Refusal} → MakesPlan p a b r → KeepsFailure a b r
makes_keeps m = record { keeps = λ e h. failed_makes (rw h at m) }

-- A collector that went on had not failed.
pub kept_after : {a b : Visitor} {t : State} {u : Unit} {r : Result Unit Refusal} →
    Makes Done a.collector.now (Ok u) t → KeepsFailure a b r
kept_after m = record { keeps = λ e h. let i = (failed_makes (rw h at m)).0 in cc }

-- Nothing is asked of a collector that had failed.
pub only_if_full_failed : {p : Showing} {s t : State} {e : Refusal} {r : Result Unit Refusal} → Makes Done s (Err e) t →
    FailsOnlyIfFull p s r t
only_if_full_failed had_failed = refuses.had_failed

-- ---- what the collector's own calls do, by what they find
-- Opening an entry that has room adds it, with a visitor at it, and returns what closing it restores.
pub opens_entered : {u : Bool} {k : Key} {y : Option ℕ} (n : ℕ) (b c : Kind) {o : Restore} {s t : State} → y ≡ Some n →
    s ≡ Going b → HasRoom u n b → o ≡ outer_of n b → c ≡ enter u k n b → t ≡ Going c → OpensEntry u k y s (Ok o) t
opens_entered n b c e i h f g j = rw (e, i, j) (is_entered h f g)

-- ---- making an entry
-- Making an entry that has room adds it, closes it, and returns Ok.
pub makes_one : {k : Key} {y : Option ℕ} (n : ℕ) (b c : Kind) {u : Unit} {s t : State} → y ≡ Some n → s ≡ Going b →
    HasRoom false n b → c ≡ leave (outer_of n b) (enter false k n b) → t ≡ Going c → Makes (one k y) s (Ok u) t
makes_one n b c e i h g j = rw (e, i, j, g)
    (made (is_entered h refl refl) (made_none {u = tt}) (record { closes = refl }) made_none)

-- ---- opening a shared entry
-- A flame graph's collector shows the content of a shared entry that has room exactly if its identity is new.
pub shared_met : {k : Key} {n : ℕ} {i : Identity} (c d : Live) (is_first : Bool) {s t : State} → s ≡ Going (OfGraph c) →
    bytes_entered c.sums + n < 2 ^ 63 → MeetsAs k n i c is_first d → t ≡ Going (OfGraph d) →
    OpensShared k n i s (Ok is_first) t
shared_met c d true i r m j = rw (i, j) (enters_first r m.0 m.1)
shared_met c d false i r m j = rw (i, j) (enters_again r m.0 m.1)

-- How an entry is opened, and how one is made.
pub ruleset opened = (stays_failed, is_refused, opens_entered, entry_refused, makes_one, had_failed, made_none)

-- How a shared entry is opened.
pub ruleset opened_shared = (stays_shared, counts, is_too_large_shared, is_refused_shared, shared_met)

-- The rules for the collector's own calls.
pub ruleset opening = (opened, opened_shared, refuses_entry)
