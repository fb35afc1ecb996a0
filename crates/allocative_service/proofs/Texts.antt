-- What is billed for a text, and for a vector of bytes.
use Rattle.std.proofs.Common.{◌≡◌, ℕ, ◌+◌, ◌-◌, ◌*◌, ◌≤◌, ◌⊎◌, inl, inr, Bool, true, false, Global, List, [], ◌∷◌}
use Rattle.std.proofs.Common.{Option, Some, None, String, Vec, arith, codes, length, refl, ap, sym, subst, subst₂}
use Rattle.std.proofs.Common.{string_bytes}
use Rattle.std.proofs.lemmas.Bool.Decides.{nat_tests}
use Rattle.std.proofs.lemmas.Option.{same_Some}
use Rattle.std.specs.List.{AllByRecursion}
use Rattle.std.specs.String.{string_capacity}
use Rattle.std.specs.Vec.{vec_capacity}
use Rattle.allocative_graph.specs.Forest.{Forest, Empty, Inline, Unique, all}
use Rattle.allocative_graph.specs.Graph.{graph, total}
use Rattle.allocative_graph.specs.Owned.{AreAlike, EachAt, Owner, held, owned, owners_behind, owns_all}
use Rattle.allocative_graph.specs.Path.{Key, Path, is_same_path}
use Rattle.allocative_graph.specs.Shows.{Field, Inside, Nothing, Showing, sized}
use Rattle.allocative_graph.specs.Sums.{sums_of}
use Rattle.allocative_graph.proofs.Basics.{same_path}
use Rattle.allocative_graph.proofs.Owned.{owned-total}
use Rattle.allocative.specs.Bodies.{buffer_shows, text_shows, is_text, without_size, without_room, with_room}
use Rattle.allocative_service.specs.Measured.{Declares}
use Rattle.allocative_service.specs.declared.measure.Measure.{Measure}
use Rattle.allocative_service.specs.declared.measure.Measure.TheVariants as by

-- ---- the total of a graph with one unique entry
-- An entry is unique and at b, or it is inline at another path and has at least the bytes inside it.
abbrev IsUniqueAt : Path → Owner → Type 0
IsUniqueAt b x = ((is_same_path b x.entry.path ≡ true) × (owns_all x ≡ true))
    ⊎ ((is_same_path b x.entry.path ≡ false) × (owns_all x ≡ false) × (x.inside ≤ x.entry.size))

-- The entries at each path are alike if only that at b is unique.
alike : (b p : Path) (xs : List Owner) → AllByRecursion (IsUniqueAt b) xs → AreAlike p xs
alike b p xs h = by (is_same_path p b) refl
  where
    at_b : (ys : List Owner) → AllByRecursion (IsUniqueAt b) ys → EachAt b (λ x. owns_all x ≡ true) ys
    at_b [] g = tt
    at_b (y ∷ ys) (inl it, g) = (λ s. it.1, at_b ys g)
    at_b (y ∷ ys) (inr it, g) = (λ s. absurd cc, at_b ys g)

    elsewhere : (ys : List Owner) → is_same_path p b ≡ false → AllByRecursion (IsUniqueAt b) ys →
        EachAt p (λ x. (owns_all x ≡ false) × (x.inside ≤ x.entry.size)) ys
    elsewhere [] apart g = tt
    elsewhere (y ∷ ys) apart (inl it, g) =
        let here = same_path b y.entry.path it.0 in
        (λ s. let there = same_path p y.entry.path s in absurd cc, elsewhere ys apart g)
    elsewhere (y ∷ ys) apart (inr it, g) = (λ s. (it.1, it.2), elsewhere ys apart g)

    by : (c : Bool) → is_same_path p b ≡ c → AreAlike p xs
    by true is = inl (rw (same_path p b is) (at_b xs h))
    by false apart = inr (inl (elsewhere xs apart h))

-- ---- the measures
-- The forest has these bytes by each measure, if a value with 24 bytes of its own shows it.
abbrev Weighs : ℕ → Forest → Type 0
Weighs bytes f = (bytes ≡ owned f) × (bytes ≡ held f + 24) × (bytes ≡ total (graph (sums_of (all f))))

-- A value is billed the bytes of whatever it may show.
billed : (measure : Measure) (p : Showing) (expected bytes : ℕ) → ((f : Forest) → p f → Weighs expected f) →
    Declares measure (Some 24) p bytes → bytes ≡ expected
billed by.Owned p expected bytes weighs (f, shows, none, is) = let w = weighs f shows in cc
billed by.Shown p expected bytes weighs (g, made, is) =
    let w = weighs made.shown made.allowed in
    let t = ap total made.is in
    cc
billed by.Unique p expected bytes weighs (own, size, f, shows, none, is) =
    let w = weighs f shows in omega (arith, same_Some 24 own size)

-- ---- a text
-- The one forest that a text of n bytes, with room for `capacity`, may show.
abbrev text_forest : ℕ → ℕ → Forest
text_forest n capacity = Inline (codes "String") 24 (Unique (codes "ptr") 8 (Inline (codes "capacity") capacity
    (Inline (codes "u8") n Empty (Inline (codes "unused_capacity") (capacity - n) Empty Empty)) Empty) Empty) Empty

-- A text shows that forest.
shown : (n capacity : ℕ) (f : Forest) →
    Field (codes "String") (Some 24) (text_shows n capacity) f → f ≡ text_forest n capacity
shown n capacity f (sized (g, is_text (h, (i, (a, b, (z, ez, ea), (y, ey, eb), ei), eh), eg), ef)) =
    rw (ef, eg, eh, ei, ea, eb, ez, ey) refl

-- Its bytes are 24 and the capacity.
text_weighs : (n capacity : ℕ) → n ≤ capacity → Weighs (24 + capacity) (text_forest n capacity)
text_weighs n capacity fits =
    let f = text_forest n capacity in
    let graph_has = owned-total f (λ p. alike (codes "String" ∷ codes "ptr" ∷ []) p (owners_behind [] f) (
      inr (refl, refl, omega arith),
      (
        inl (refl, refl),
        (
          inr (refl, refl, omega arith),
          (
            inr (refl, refl, omega arith),
            (
              inr (refl, refl, omega arith),
              tt,
            ),
          ),
        ),
      ),
    )) in
    (omega (arith, fits), omega (arith, fits), omega (arith, fits, graph_has))

-- By each measure a text is billed 24 bytes and its capacity.
pub text_bytes : (measure : Measure) (text : String Global) (bytes : ℕ) → Declares measure (Some 24)
    (Field (codes "String") (Some 24) (text_shows (length (string_bytes text)) (string_capacity text))) bytes →
    bytes ≡ 24 + string_capacity text
text_bytes measure text bytes h = billed measure _ (24 + string_capacity text) bytes
    (λ f s. subst (Weighs _) (sym (shown _ _ f s))
    (text_weighs _ _ (omega (arith, text.bytes.ok.0, text.bytes.ok.1)))) h

-- ---- a vector of bytes
-- The forest that a vector of n bytes, with room for so many more, may show, if there is a buffer.
abbrev bytes_forest : ℕ → ℕ → Forest
bytes_forest n more = Inline (codes "Vec") 24 (Unique (codes "ptr") 8
    (Inline (codes "u8") n Empty (Inline (codes "unused_capacity") more Empty Empty)) Empty) Empty

-- Its bytes are 24 and both.
bytes_weigh : (n more : ℕ) → Weighs (24 + (n + more)) (bytes_forest n more)
bytes_weigh n more =
    let f = bytes_forest n more in
    let graph_has = owned-total f (λ p. alike (codes "Vec" ∷ codes "ptr" ∷ []) p (owners_behind [] f) (
      inr (refl, refl, omega arith),
      (
        inl (refl, refl),
        (
          inr (refl, refl, omega arith),
          (
            inr (refl, refl, omega arith),
            tt,
          ),
        ),
      ),
    )) in
    (omega arith, omega arith, omega (arith, graph_has))

-- Without a buffer they are 24.
empty_weighs : Weighs (24 + 0) (Inline (codes "Vec") 24 Empty Empty)
empty_weighs =
    let f = Inline (codes "Vec") 24 Empty Empty in (
      refl,
      refl,
      owned-total f (λ p. alike (codes "ptr" ∷ []) p (owners_behind [] f)
          (inr (refl, refl, omega arith), tt)),
    )

-- A field of a checked size has that size.
of_checked : (k : Key) (p : Showing) (size : Option ℕ) (n : ℕ) (f : Forest) → ((m : ℕ) → size ≡ Some m → m ≡ n) →
    Field k size p f → Inside k n p f
of_checked k p None n f same x = elim x [ ]
of_checked k p (Some m) n f same (sized i) = rw (← same m refl) i

-- A vector shows one of these.
vec_shown : (n capacity : ℕ) (f : Forest) → Field (codes "Vec") (Some 24)
    (buffer_shows (Some 1) (Inside (codes "u8") (1 * n) Nothing) n capacity) f →
    ((f ≡ Inline (codes "Vec") 24 Empty Empty) × (capacity ≡ 0)) ⊎ (f ≡ bytes_forest (1 * n) (capacity - n))
vec_shown n capacity f (sized (g, without_size size is, e)) = absurd (omega (arith, same_Some 1 0 size))
vec_shown n capacity f (sized (g, without_room size none no_room is, e)) = inl (rw (e, is) refl, no_room)
vec_shown n capacity f (sized (g, with_room size some room (h, (a, b, (z, ez, ea), unused, eh), eg), e)) =
    let left = of_checked _ _ _ (capacity - n) b (λ m is. grind (arith, nat_tests)) unused in
    inr (rw (e, eg, eh, ea, ez, left.2, left.1) refl)

-- What a vector may show has 24 bytes and the capacity.
vec_weighs : (n capacity : ℕ) (f : Forest) → n ≤ capacity →
    ((f ≡ Inline (codes "Vec") 24 Empty Empty) × (capacity ≡ 0)) ⊎ (f ≡ bytes_forest (1 * n) (capacity - n)) →
    Weighs (24 + capacity) f
vec_weighs n capacity f fits (inl (is, none)) = subst₂ Weighs (ap (λ n. 24 + n) (sym none)) (sym is) empty_weighs
vec_weighs n capacity f fits (inr is) =
    subst₂ Weighs (omega (arith, fits)) (sym is) (bytes_weigh (1 * n) (capacity - n))

-- By each measure a vector of bytes is billed 24 bytes and its capacity.
pub vec_bytes : (measure : Measure) (v : Vec ℕ Global) (bytes : ℕ) → Declares measure (Some 24)
    (Field (codes "Vec") (Some 24) (buffer_shows (Some 1) (Inside (codes "u8") (1 * length v.items) Nothing)
    (length v.items) (vec_capacity v))) bytes → bytes ≡ 24 + vec_capacity v
vec_bytes measure v bytes h = billed measure _ (24 + vec_capacity v) bytes
    (λ f s. vec_weighs (length v.items) _ f (omega (arith, v.ok.0, v.ok.1)) (vec_shown _ _ f s)) h
