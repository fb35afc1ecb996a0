-- What a tally's type has to show of itself: that its values are entries of their declared size, and none shows
-- nothing.
use Rattle.std.proofs.Common.{◌≡◌, ℕ, Bool, true, false, Option, None, Some, refl, rules, arith}
use Rattle.allocative_graph.specs.{Path.Key, Forest.Empty, Shows.Showing}
use Rattle.allocative_tally.specs.Shapes.{ShownAs, Shape, NoEntry, Beside, EntryAt, entries}
use Rattle.allocative_tally.specs.Shapes.{Width, Unique, Wide, Narrow, HasWidth, IsNothing, bytes_times, sum_of, items_shape}
use Rattle.allocative_tally.specs.Tallies.{IsWhole}

-- p is shown as p.
pub as_itself : {p : Showing} → ShownAs p p
as_itself = record { up = λ f x. x }

-- ---- nothing counted
-- No entry.
pub starts_none : IsNothing NoEntry
starts_none = record { is_empty = refl; holds = tt }

-- Two shapes, one after another.
pub starts_both : {s t : Shape} → IsNothing s → IsNothing t → IsNothing (Beside s t)
starts_both a b = record { is_empty = rw (a.is_empty, b.is_empty) refl; holds = (a.holds, b.holds) }

-- No entries of no bytes.
pub starts_sum : {x : Width} {k : Key} {n bytes : ℕ} {s : Shape} → n ≡ 0 → bytes ≡ 0 → IsNothing s →
    IsNothing (EntryAt x k (sum_of n bytes) s)
starts_sum {x} {k} {s = s} e b none = rw (e, b) (record {
  is_empty = refl;
  holds = (
    none.holds,
    (λ i. (refl, none.is_empty)),
    rw none.is_empty (elim x as (λ w. HasWidth w 0 Empty)
        [ Unique ↦ tt | Wide ↦ omega arith | Narrow ↦ omega arith ]),
  );
})

-- No values of a declared size have no bytes.
pub no_bytes : (size : Option ℕ) {n : ℕ} → n ≡ 0 → bytes_times size n ≡ 0
no_bytes None e = refl
no_bytes (Some s) e = rw e (omega arith)

-- The items of no slices.
pub starts_items : (b : Bool) (name : Key) {n bytes : ℕ} {s : Shape} → n ≡ 0 → bytes ≡ 0 → IsNothing s →
    IsNothing (items_shape b name n bytes s)
starts_items true name e i none = none
starts_items false name e i none = starts_sum e i starts_none

-- The lemmas for what shows nothing.
pub ruleset starting = (rules, starts_none, starts_both, starts_sum, no_bytes, starts_items)

-- Values that are entries of their declared size, if a tally of nothing shows nothing inside them.
pub is_whole : {T : Type 0} {size : Option ℕ} {is_none : T → Type 0} {k : Key} {s : T → ℕ → Shape} →
    ((t : T) (n : ℕ) → is_none t → n ≡ 0 → IsNothing (s t n)) → IsWhole size is_none (λ t n. entries k size n (s t n))
is_whole {size = size} inside = record {
  most = λ t n. omega arith;
  none = λ t n d e. starts_sum e (no_bytes size e) (inside t n d e);
}
