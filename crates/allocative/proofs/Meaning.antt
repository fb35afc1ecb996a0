-- How the showing of a value follows from the part that enters it, word by word.
use Rattle.std.proofs.Common.{◌≡◌, ℕ, Bool, true, false, ◌&&◌, Option, Some, None, Result, inl, inr, Ok, Err, refl, rules}
use Rattle.allocative.proofs.Common.{Refusal, TooLarge, Key, Identity, Forest, Showing, Nothing, Both, InsideAs, Inside}
use Rattle.allocative.proofs.Common.{Unique, Field, sized, Shared, IsDeclared, Visitor, Visited, Entered, Means, OnlyIf}
use Rattle.std.proofs.lemmas.Bool.{false≢true, and_parts, and_from}
use Rattle.allocative.specs.Visited.{AnyEffect, Refused}
use Rattle.allocative.proofs.Strict.{declared_first, declared_second, declared_both, declared_inside, declared_entry}
use Rattle.allocative.proofs.Strict.{declared_content, declared_shared, only_if_full_nothing, only_if_full_weaker}
use Rattle.allocative.proofs.Strict.{only_if_full_undeclared, not_strict, only_if_full_first, only_if_full_both}
use Rattle.allocative.proofs.Strict.{none_of_it}
use Rattle.allocative.proofs.Visits.{adds_weaker, adds_nothing, adds_both, adds_err, adds_refused}
use Rattle.allocative.proofs.Making.{entered_at}

-- ---- which visits are strict
-- A visit that is never strict needs no strict part.
pub strict_never : {e : Bool} → OnlyIf false e
strict_never = record { follows = λ h. absurd (false≢true h) }

-- A visit is strict only if it is strict itself.
pub strict_same : {e : Bool} → OnlyIf e e
strict_same = record { follows = λ h. h }

-- A part that is always strict is strict whenever the visit is.
pub strict_always : {e : Bool} → OnlyIf e true
strict_always = record { follows = λ h. refl }

-- If c is strict only if d is and only if e is, then c is strict only if both are.
pub strict_both : {c d e : Bool} → OnlyIf c d → OnlyIf c e → OnlyIf c (d && e)
strict_both {d = d} {e = e} l r = record { follows = λ h. and_from d e (l.follows h) (r.follows h) }

-- If d is strict only if c is, then d and e are both strict only if c is.
pub strict_first : {c d : Bool} (e : Bool) → OnlyIf d c → OnlyIf (d && e) c
strict_first {d = d} e l = record { follows = λ h. l.follows (and_parts d e h).0 }

-- If e is strict only if c is, then d and e are both strict only if c is.
pub strict_second : {c e : Bool} (d : Bool) → OnlyIf e c → OnlyIf (d && e) c
strict_second {e = e} d r = record { follows = λ h. r.follows (and_parts d e h).1 }

-- ---- what a part means
-- Each showing means itself.
pub means_same : {x : Bool} {p : Showing} → Means x p p
means_same = record { means = λ f a. a; declared = λ h d. d }

-- If p means q and q means r, then p means r.
pub means_then : {x : Bool} {p q r : Showing} → Means x p q → Means x q r → Means x p r
means_then m l = record { means = λ f a. l.means f (m.means f a); declared = λ h d. m.declared h (l.declared h d) }

-- A showing means another that allows the same forests.
pub means_either : {x : Bool} {p q : Showing} → ((f : Forest) → p f → q f) → ((f : Forest) → q f → p f) → Means x p q
means_either up down = record { means = up; declared = λ h d. (d.0, down d.0 d.1, d.2) }

-- In a visit that is not strict, a showing means any that allows all that it allows.
pub loosely : {p q : Showing} → ((f : Forest) → p f → q f) → Means false p q
loosely up = record { means = up; declared = λ i d. absurd (false≢true i) }

-- If p means q, an entry with p inside it means the same entry with q inside it.
inside_as : (u : Bool) (k : Key) (n : ℕ) {x : Bool} {p q : Showing} → Means x p q →
    Means x (InsideAs u k n p) (InsideAs u k n q)
inside_as u k n m = search (rules, declared_entry, declared_inside)

-- If p means q, an inline entry with p inside it means the inline entry of an equal key with q inside it.
pub means_inside : {x : Bool} {k j : Key} {n : ℕ} {p q : Showing} → k ≡ j → Means x p q →
    Means x (Inside k n p) (Inside j n q)
means_inside {j = j} {n = n} e m = rw e (inside_as false j n m)

-- If p means q, a unique entry with p inside it means the unique entry of an equal key with q inside it.
pub means_unique : {x : Bool} {k j : Key} {n : ℕ} {p q : Showing} → k ≡ j → Means x p q →
    Means x (Unique k n p) (Unique j n q)
means_unique {j = j} {n = n} e m = rw e (inside_as true j n m)

-- If p means q, a field with p inside it means the same field with q inside it.
field_as : (k : Key) (y : Option ℕ) {x : Bool} {p q : Showing} → Means x p q → Means x (Field k y p) (Field k y q)
field_as k None m = means_either (λ f a. absurd (none_of_it a)) (λ f a. absurd (none_of_it a))
field_as k (Some n) m = means_then (means_either (λ f x. elim x [ sized y ↦ y ]) (λ f x. sized x))
    (means_then (inside_as false k n m) (means_either (λ f x. sized x) (λ f x. elim x [ sized y ↦ y ])))

-- If p means q, a field with p inside it means the field of equal key and size with q inside it.
pub means_field : {x : Bool} {k j : Key} {y z : Option ℕ} {p q : Showing} → k ≡ j → y ≡ z → Means x p q →
    Means x (Field k y p) (Field j z q)
means_field {j = j} {z = z} e h m = rw (e, h) (field_as j z m)

-- If p means q and r means s, then p followed by r means q followed by s.
pub means_both : {x : Bool} {p q r s : Showing} → Means x p q → Means x r s → Means x (Both p r) (Both q s)
means_both m l = record {
  means = λ f a. (a.0, a.1, m.means a.0 a.2, l.means a.1 a.3, a.4);
  declared = λ h d. declared_both (m.declared h (declared_first d)) (l.declared h (declared_second d));
}

-- If p means q, a shared entry of p means the shared entry of q with an equal key and identity.
pub means_shared : {x : Bool} {k j : Key} {n : ℕ} {i l : Identity} {p q : Showing} → k ≡ j → i ≡ l → Means x p q →
    Means x (Shared k n i p) (Shared j n l q)
means_shared {j = j} {n = n} {l = l} e h m = rw (e, h) (record {
  means = λ f a. elim a [ inl b ↦ inl (b.0, m.means b.0 b.1, b.2) | inr e ↦ inr e ];
  declared = λ i d. declared_shared j n l (m.declared i (declared_content j n l d));
})

-- What was entered as p was entered as q, if p means q and q is strict only if p is.
pub entered_if : {d e : Bool} {p q : Showing} {a b : Visitor} {r : Result (Unit {0}) Refusal} → Entered e p a b r →
    OnlyIf d e → Means d p q → Entered d q a b r
entered_if h o m = search (rules, adds_weaker, only_if_full_weaker)

-- If p means q, what was entered as p was entered as q, and it is just as strict.
pub entered_as : {d : Bool} {p q : Showing} {a b : Visitor} {r : Result (Unit {0}) Refusal} → Entered d p a b r →
    Means d p q → Entered d q a b r
entered_as h m = entered_if h strict_same m

-- An entry of a size that is there is an inline entry.
pub entered_inline : {d : Bool} {k : Key} {n : ℕ} {p : Showing} {a b : Visitor} {r : Result (Unit {0}) Refusal} →
    Entered d (Field k (Some n) p) a b r → Entered d (Inside k n p) a b r
entered_inline h = entered_as h (means_either (λ f x. elim x [ sized y ↦ y ]) (λ f x. sized x))

-- What was entered need not be strict.
pub entered_loosely : {e : Bool} {p : Showing} {a b : Visitor} {r : Result (Unit {0}) Refusal} → Entered e p a b r →
    Entered false p a b r
entered_loosely h = entered_if h strict_never means_same

-- Entering a part that shows exactly p is a visit that shows p.
pub visited : {x : Bool} {p : Showing} {a b : Visitor} {r : Result (Unit {0}) Refusal} → Entered x p a b r →
    Visited x p AnyEffect a b r
visited h = search rules

-- A part that was entered is the visit of a value, strict if the part is.
pub visited_as : {d : Bool} {p q : Showing} {a b : Visitor} {r : Result (Unit {0}) Refusal} → Entered d p a b r →
    Means d p q → Visited d q AnyEffect a b r
visited_as h m = visited (entered_as h m)

-- A strict part is the visit of a value that need not be. Search needs the two flags as they are.
pub visited_of_strict : {p q : Showing} {a b : Visitor} {r : Result (Unit {0}) Refusal} → Entered true p a b r →
    Means false p q → Visited false q AnyEffect a b r
visited_of_strict h m = visited_as (entered_loosely h) m

-- A part that was entered is the visit of a value that is strict only if the part is.
pub visited_if : {d e : Bool} {p q : Showing} {a b : Visitor} {r : Result (Unit {0}) Refusal} → Entered e p a b r →
    OnlyIf d e → Means d p q → Visited d q AnyEffect a b r
visited_if h o m = visited_as (entered_if h o means_same) m

-- A call that enters nothing and returns Ok has shown nothing.
pub entered_none : {x : Bool} {p : Showing} (a : Visitor) → Means x Nothing p → Entered x p a a (Ok tt)
entered_none a m = entered_as {p = Nothing} (entered_at (adds_nothing _ tt) tt (λ i. only_if_full_nothing _ tt)) m

-- An error that is passed on, of the first part or of the second.
pub entered_passed : {d x : Bool} {p q : Showing} {a b : Visitor} {e : Refusal} {r : Result Unit Refusal} → r ≡ Err e →
    OnlyIf x d → Entered d p a b (Err e) → Entered x (Both p q) a b r
entered_passed is o s = rw is (search (rules, adds_err, only_if_full_first))

-- If p is entered with Ok and q after it, p followed by q is entered, and is strict only if each of them is.
pub entered_both : {d e x : Bool} {p q : Showing} {a b c : Visitor} {u : Unit} {r : Result Unit Refusal} → OnlyIf x d →
    OnlyIf x e → Entered d p a b (Ok u) → Entered e q b c r → Entered x (Both p q) a c r
entered_both o w f s = search (rules, adds_both, only_if_full_both)

-- An error that is returned by hand, which need not be one that must be.
pub entered_refused : {p : Showing} {q e : Refusal} {a b : Visitor} → Refused q a b e → Entered false p a b (Err e)
entered_refused h = search (rules, adds_refused, not_strict)

-- A part that is declared nowhere is refused as TooLarge.
pub undeclared_refused : {x : Bool} {p : Showing} {e : Refusal} {a b : Visitor} → (IsDeclared p → ⊥) →
    Refused TooLarge a b e → Entered x p a b (Err e)
undeclared_refused n h = search (rules, adds_refused, only_if_full_undeclared)
