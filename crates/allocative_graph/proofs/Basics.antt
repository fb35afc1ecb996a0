-- Small facts about tests, lists, orders and identities, and the entries of a map.
use Rattle.std.proofs.Common.{◌≡◌, Bool, true, false, IsTrue, List, [], ◌∷◌, ◌++◌, map, refl, ◌∙◌, Ordering, Equal, ◌↔◌}
use Rattle.std.proofs.Common.{ap, sym, subst, true≢false, append-nil, Less, Greater, T}
use Rattle.allocative_graph.proofs.Common.{AllByRecursion, is_eq, nat_list_cmp_total, IsAntisymmetric}
use Rattle.allocative_graph.proofs.Common.{nat_cmp-IsAntisymmetric, slice_cmp-IsAntisymmetric, Path, path_cmp}
use Rattle.allocative_graph.proofs.Common.{is_same_path, Identity, identity_cmp, is_same_identity, is_lt, ordering_then}
use Rattle.allocative_graph.proofs.Common.{slice_cmp, Key, key_cmp, entries, from_entries, get-from_sorted}
use Rattle.allocative_graph.proofs.Common.{get-from_entries, entries-from_sorted, same_map, is_sorted, IsTotalOrder}
use Rattle.allocative_graph.proofs.Common.{Equal-is, tied_itself, nat_cmp, eq_by_cmp_equiv}
use Rattle.std.proofs.lemmas.List.Elements.{All-append, All-from_recursion, All-weaker, recursion_from_All}
pub use mathlib.Core.Bool.{or_comm, or-false, and_assoc, and-true}
pub use Rattle.std.specs.Cmp.{both_ways}
pub use Rattle.std.proofs.lemmas.Bool.{and_parts, or_cases, or_left, or_right, or_parts, false_from_ne_true}
use Rattle.allocative_graph.specs.Path.{ComesBefore, longer, parts}
use Rattle.std.proofs.lemmas.{Map.Lookups.exact_pairs, Cmp.nat_cmp_total, Cmp.on_total, Cmp.then_total}
use Rattle.std.specs.{Cmp.Lexicographic.lists_total, FinMap.from_sorted}

-- ---- tests
-- What holds of both answers of a test holds of the test.
pub on_test : (P : Bool → Type 0) (t : Bool) → (t ≡ true → P true) → (t ≡ false → P false) → P t
on_test P true f g = f refl
on_test P false f g = g refl

-- An ordering that tests as equal is `Equal`.
pub is_eq-Equal : (r : Ordering) → IsTrue (is_eq r) → r ≡ Equal
is_eq-Equal r = (Equal-is r).0

-- ---- lists
-- What holds of each item of two lists holds of each item of the lists one after another.
pub each-append : {X : Type 0} (P : X → Type 0) (xs ys : List X) → AllByRecursion P xs → AllByRecursion P ys →
    AllByRecursion P (xs ++ ys)
each-append P xs ys h g = recursion_from_All P (xs ++ ys)
    (All-append P xs ys (All-from_recursion P xs h) (All-from_recursion P ys g))

-- What holds of each item of two lists one after another holds of each item of either.
pub each-parts : {X : Type 0} (P : X → Type 0) (xs ys : List X) → AllByRecursion P (xs ++ ys) →
    AllByRecursion P xs × AllByRecursion P ys
each-parts P [] ys h = (tt, h)
each-parts P (x ∷ xs) ys h = let rest = each-parts P xs ys h.1 in ((h.0, rest.0), rest.1)

-- If P implies Q, and each item of a list has P, each item has Q.
pub each-implies : {X : Type 0} (P Q : X → Type 0) → ((x : X) → P x → Q x) → (xs : List X) → AllByRecursion P xs →
    AllByRecursion Q xs
each-implies P Q f xs h = recursion_from_All Q xs (All-weaker P Q f xs (All-from_recursion P xs h))

-- If P holds of each item of a mapped list, it holds of what f makes of each item of the list.
pub each-map : {X Y : Type 0} (P : Y → Type 0) (f : X → Y) (xs : List X) → AllByRecursion P (map f xs) →
    AllByRecursion (λ x. P (f x)) xs
each-map P f [] h = tt
each-map P f (x ∷ xs) h = (h.0, each-map P f xs h.1)

-- ---- orders
-- The comparison of paths is a total order.
pub path_total : IsTotalOrder path_cmp
path_total = lists_total nat_list_cmp_total

-- Paths that compare as equal are equal.
pub path_antisymmetric : IsAntisymmetric path_cmp
path_antisymmetric = slice_cmp-IsAntisymmetric (slice_cmp-IsAntisymmetric nat_cmp-IsAntisymmetric)

-- If the test `is_same_path` is true, the paths are equal.
pub same_path : (p q : Path) → IsTrue (is_same_path p q) → p ≡ q
same_path p q h = path_antisymmetric p q (is_eq-Equal _ h)

-- The test `is_same_path` is true of a path and itself.
pub same_path_itself : (p : Path) → IsTrue (is_same_path p p)
same_path_itself p = (eq_by_cmp_equiv path_total).refl p

-- The comparison of identities is a total order.
pub identity_total : IsTotalOrder identity_cmp
identity_total = then_total (on_total (λ (i : Identity). i.maker) nat_cmp_total)
    (on_total (λ (i : Identity). i.number) nat_cmp_total)

-- Identities that compare as equal are equal.
pub identity_antisymmetric : IsAntisymmetric identity_cmp
identity_antisymmetric i j e =
    let same = exact_pairs nat_cmp nat_cmp nat_cmp-IsAntisymmetric nat_cmp-IsAntisymmetric (i.maker, i.number)
    (j.maker, j.number) e in
    λ k. record { maker = (same k).0; number = (same k).1 }

-- If the test `is_same_identity` is true, the identities are equal.
pub same_identity : (i j : Identity) → IsTrue (is_same_identity i j) → i ≡ j
same_identity i j h = identity_antisymmetric i j (is_eq-Equal _ h)

-- The test `is_same_identity` is true of an identity and itself.
pub same_identity_itself : (i : Identity) → IsTrue (is_same_identity i i)
same_identity_itself i = (eq_by_cmp_equiv identity_total).refl i

-- The test `is_same_identity` does not depend on which of the two identities is first.
pub same_identity_turned : (i j : Identity) → is_same_identity i j ≡ is_same_identity j i
same_identity_turned i j = (eq_by_cmp_equiv identity_total).symm i j

-- ---- a prefix comes first; otherwise the first items that differ decide
module _ {X : Type 0} (R : X → X → Ordering) (same : IsAntisymmetric R) (itself : (x : X) → R x x ≡ Equal) where
  before-cons : (x : X) (p q : List X) → ComesBefore R p q → ComesBefore R (x ∷ p) (x ∷ q)
  before-cons x p q (longer k r e) = longer k r (λ i. x ∷ e i)
  before-cons x p q (parts c k l r s d e h) = parts (x ∷ c) k l r s (λ i. x ∷ d i) (λ i. x ∷ e i) h

  to_before : (p q : List X) → slice_cmp R p q ≡ Less → ComesBefore R p q
  to_before [] [] h = absurd (true≢false (sym (ap is_lt h)))
  to_before [] (y ∷ q) h = longer y q refl
  to_before (x ∷ p) [] h = absurd (true≢false (sym (ap is_lt h)))
  to_before (x ∷ p) (y ∷ q) h = by (R x y) refl h (to_before p q)
    where
      by : (o : Ordering) → R x y ≡ o → ordering_then o (slice_cmp R p q) ≡ Less →
          (slice_cmp R p q ≡ Less → ComesBefore R p q) → ComesBefore R (x ∷ p) (y ∷ q)
      by Less e g rest = parts [] x y p q refl refl e
      by Equal e g rest = subst (λ z. ComesBefore R (x ∷ p) (z ∷ q)) (same x y e) (before-cons x p q (rest g))
      by Greater e g rest = absurd (true≢false (sym (ap is_lt g)))

  after_common : (c p q : List X) → slice_cmp R (c ++ p) (c ++ q) ≡ slice_cmp R p q
  after_common [] p q = refl
  after_common (x ∷ c) p q = ap (λ o. ordering_then o (slice_cmp R (c ++ p) (c ++ q))) (itself x) ∙ after_common c p q

  from_before : (p q : List X) → ComesBefore R p q → slice_cmp R p q ≡ Less
  from_before p q (longer k r e) = (λ i. slice_cmp R (sym (append-nil p) i) (e i)) ∙ after_common p [] (k ∷ r)
  from_before p q (parts c k l r s d e h) =
      (λ i. slice_cmp R (d i) (e i)) ∙ after_common c (k ∷ r) (l ∷ s) ∙ ap (λ o. ordering_then o (slice_cmp R r s)) h

  -- A list is below another exactly if it comes before it.
  pub order : (p q : List X) → (slice_cmp R p q ≡ Less) ↔ ComesBefore R p q
  order p q = (to_before p q, from_before p q)

-- A key compared with itself is equal.
pub key_itself : (k : Key) → key_cmp k k ≡ Equal
key_itself = tied_itself nat_list_cmp_total

-- ---- the entries of a map made from a sorted list
-- The entries of a map made from a sorted list are that list.
pub entries-from_entries-sorted : {X : Type 0} (es : List (Path × X)) → T (is_sorted path_cmp es) →
    entries (from_entries {R = path_cmp} es) ≡ es
entries-from_entries-sorted es h = ap entries (same_map path_total path_antisymmetric (from_entries es) (from_sorted es)
    (λ q. get-from_entries path_total es q ∙ sym (get-from_sorted path_cmp es q h))) ∙ entries-from_sorted path_cmp es h
