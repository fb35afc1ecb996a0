-- Whole showings: the identities that one shows are exactly those reached, two that agree have equal sums, and one
-- followed by another has the graphs of both.
use Rattle.std.proofs.Common.{◌≡◌, ℕ, ◌+◌, cond, IsTrue, List, [], ◌∷◌, map, flat_map, Some, None, unwrap_or, refl, ap}
use Rattle.std.proofs.Common.{sym, ◌∙◌, sum_by, arith, IsPermutation, ◌↔◌, Bool, false, ◌||◌, ◌++◌, append_assoc}
use Rattle.std.proofs.Common.{is_some, subst, true≢false, inl, inr}
use Rattle.allocative_graph.proofs.Common.{option_map, entries, from_entries, get, get-from_entries, same_map, Identity}
use Rattle.allocative_graph.proofs.Common.{identity_cmp, is_same_identity, Forest, Bag, Entry, own, all}
use Rattle.allocative_graph.proofs.Common.{content_identities, sums_of, sum_by-cons, sum_by-IsPermutation}
use Rattle.allocative_graph.proofs.Common.{list_any-IsPermutation, All-from_recursion, AllByRecursion, Sums, add}
use Rattle.allocative_graph.proofs.Common.{add_all, contains, Path, Identities, Empty, Inline, Unique, First, Again}
use Rattle.allocative_graph.proofs.Common.{own_behind, contents, followed_by, insert_all, met_after, Fits, entries_at}
use Rattle.allocative_graph.proofs.Common.{flat_map-append, keys, get-entries, find, Key, path_cmp, is_same_path, below}
use Rattle.allocative_graph.proofs.Common.{Graph, graph, sizes, remaining, size_at, sum_of, CanBeAdded, list_any-append}
use Rattle.allocative_graph.proofs.Common.{sum_by-append, fold-append, ⊤, contains-insert, contains-empty, list_any}
use Rattle.allocative_graph.proofs.Common.{map-append, eq_by_cmp_equiv}
use Rattle.std.specs.FinMap.{FinMap, empty, contains_key-keys}
use Rattle.allocative_graph.specs.Meaning.{Agree, ReachApart, ReachesExactly, IsMeaning, IsWhole, Reached, content_of}
use Rattle.allocative_graph.specs.Meaning.{has_mark, inside, is_among, is_mark_of, marked}
use Rattle.allocative_graph.proofs.Basics.{both_ways, identity_total, identity_antisymmetric, or_left, each-parts}
use Rattle.allocative_graph.proofs.Basics.{path_total, path_antisymmetric, same_path, false_from_ne_true, or_cases}
use Rattle.allocative_graph.proofs.Basics.{or_right, or_parts, or-false, each-implies, same_identity}
use Rattle.allocative_graph.proofs.Basics.{same_identity_itself, same_identity_turned}
use Rattle.allocative_graph.proofs.Sums.{find-keys, weights-insert, SameSums, add_all-same, get-add_all, get-sums_of}
use Rattle.allocative_graph.proofs.Sums.{below-add_all, below-sums_of, absent_below, no_entries}
use Rattle.std.proofs.lemmas.List.Elements.{All-contains_itself, All-weaker, recursion_from_All}
use Rattle.std.proofs.lemmas.List.Sorted.{IsPermutation-refl, IsPermutation-sym}
use Rattle.std.proofs.lemmas.{List.Folds.list_any_none, Map.Views.lookup-from_Contains}
use Rattle.std.specs.{List.IsDistinct, List.Contains, FinSet.insert, Map.lookup}
use Rattle.std.specs.FinSet as set

abbrev pub Contents : Type 0
Contents = List (Identity × Bag)

abbrev pub ids : Contents → List Identity
ids cs = map (λ c. c.0) cs

-- The identities met after two lists of contents are those met after the first and then the second.
pub met-append : (s : Identities) (cs ds : Contents) →
    insert_all s (ids (cs ++ ds)) ≡ insert_all (insert_all s (ids cs)) (ids ds)
met-append s cs ds = ap (insert_all s) (map-append (λ c. c.0) cs ds) ∙ fold-append insert s (ids cs) (ids ds)

-- An identity is among those of two lists of contents exactly if it is among those of the first or the second.
among-append : (i : Identity) (cs ds : Contents) →
    is_among i (ids (cs ++ ds)) ≡ (is_among i (ids cs) || is_among i (ids ds))
among-append i cs ds = ap (is_among i) (map-append (λ c. c.0) cs ds)
    ∙ list_any-append (is_same_identity i) (ids cs) (ids ds)

-- What holds of each identity among some contents holds of each of these contents.
pub shown_each : (P : Identity → Type 0) (cs : Contents) → ((i : Identity) → IsTrue (is_among i (ids cs)) → P i) →
    AllByRecursion (λ c. P c.0) cs
shown_each P [] h = tt
shown_each P (c ∷ cs) h = (
  h c.0 (or_left _ (is_among c.0 (ids cs)) (same_identity_itself c.0)),
  shown_each P cs (λ i w. h i (or_right (is_same_identity i c.0) _ w)),
)

abbrev marks : Identity → Entry → Bool
marks i e = is_mark_of i e.mark

-- A set with a list of identities added has those that it had and those of the list.
pub contains-insert_all : (s : Identities) (is : List Identity) (i : Identity) →
    contains (insert_all s is) i ≡ (contains s i || is_among i is)
contains-insert_all s [] i = sym (or-false _)
contains-insert_all s (j ∷ is) i = grind
    (arith, contains-insert_all (insert s j) is i, contains-insert identity_total s j i)

-- ---- each identity shown is reached
module _ (b : Bag) (content : Identity → Bag) where
  -- Each identity that cs shows is reached, if each that the entries es point to is, and cs has the contents.
  abbrev Reaches : Bag → Contents → Type 0
  Reaches es cs = ((i : Identity) → IsTrue (has_mark i es) → Reached b content i)
      → AllByRecursion (λ c. content c.0 ≡ c.1) cs → (i : Identity) → IsTrue (is_among i (ids cs)) → Reached b content i

  reaches_both : (p q : Path) (f g : Forest) → Reaches (own_behind p f) (contents f) →
      Reaches (own_behind q g) (contents g) → Reaches (own_behind p f ++ own_behind q g) (contents f ++ contents g)
  reaches_both p q f g x y m gs i h =
      let parts = each-parts (λ c. content c.0 ≡ c.1) (contents f) (contents g) gs in
      let both = λ (j : Identity). list_any-append (marks j) (own_behind p f) (own_behind q g) in
      elim (or_cases _ _ (sym (among-append i (contents f) (contents g)) ∙ h)) [
        | inl w ↦ x (λ j v. m j (both j ∙ or_left _ (has_mark j (own_behind q g)) v)) parts.0 i w
        | inr w ↦ y (λ j v. m j (both j ∙ or_right (has_mark j (own_behind p f)) _ v)) parts.1 i w
      ]

  reach : (p : Path) (f : Forest) → Reaches (own_behind p f) (contents f)
  reach p Empty m g i h = absurd (true≢false (sym h))
  reach p (Inline k n f after) m g i h =
      reaches_both (p ++ k ∷ []) p f after (reach (p ++ k ∷ []) f) (reach p after) m g i h
  reach p (Unique k n f after) m g i h =
      reaches_both (p ++ k ∷ []) p f after (reach (p ++ k ∷ []) f) (reach p after) m g i h
  reach p (First k n j f after) m g i h =
      let here : Reached b content j = m j (or_left _ (has_mark j (own_behind p after)) (same_identity_itself j)) in
      elim (or_cases (is_same_identity i j) _ h) [
        | inl a ↦ subst (Reached b content) (sym (same_identity i j a)) here
        | inr a ↦ reaches_both [] p f after (reach [] f) (reach p after)
            (λ l w. elim (or_cases _ _ (sym (list_any-append (marks l) (own f) (own_behind p after)) ∙ w)) [
              | inl v ↦ inside j here (ap (has_mark l) g.0 ∙ v)
              | inr v ↦ m l (or_right (is_same_identity l j) _ v)
            ]) g.1 i a
      ]
  reach p (Again k n j after) m g i h = reach p after (λ l w. m l (or_right (is_same_identity l j) _ w)) g i h

-- ---- each identity that a showing marks, also in a content, is met after it
abbrev marked_in : Identity → Bag → Contents → Bool
marked_in i b cs = has_mark i b || list_any (λ c. has_mark i c.1) cs

-- No identity of the contents was met before, or is there twice.
abbrev Fresh : Identities → Contents → Type 0
Fresh s [] = ⊤
Fresh s (c ∷ cs) = (contains s c.0 ≡ false) × Fresh (insert s c.0) cs

-- If some contents are new, and more contents are new once those were met, all of them are new.
fresh-append : (s : Identities) (cs ds : Contents) → Fresh s cs → Fresh (insert_all s (ids cs)) ds → Fresh s (cs ++ ds)
fresh-append s [] ds h g = g
fresh-append s (c ∷ cs) ds h g = (h.0, fresh-append (insert s c.0) cs ds h.1 g)

-- The contents cs are new, and each identity to which b or cs points was met before or is in cs.
abbrev AllMet : Identities → Bag → Contents → Type 0
AllMet s b cs = Fresh s cs
    × ((i : Identity) → IsTrue (marked_in i b cs) → IsTrue (contains s i || is_among i (ids cs)))

-- If this holds of two parts, of the second once the first was met, it holds of both in one.
both_met : (s : Identities) (p q : Path) (f g : Forest) → AllMet s (own_behind p f) (contents f) →
    AllMet (met_after s f) (own_behind q g) (contents g) →
    AllMet s (own_behind p f ++ own_behind q g) (contents f ++ contents g)
both_met s p q f g x y = (
  fresh-append s (contents f) (contents g) x.0 y.0,
  λ i h. grind (arith, x.1 i, y.1 i, h, list_any-append, among-append, contains-insert_all),
)

-- It holds of a forest that fits the identities met.
fits_met : (p : Path) (s : Identities) (f : Forest) → Fits s f → AllMet s (own_behind p f) (contents f)
fits_met p s Empty w = (tt, λ i h. absurd (true≢false (sym h)))
fits_met p s (Inline k n f after) w =
    both_met s (p ++ k ∷ []) p f after (fits_met (p ++ k ∷ []) s f w.0) (fits_met p (met_after s f) after w.1)
fits_met p s (Unique k n f after) w =
    both_met s (p ++ k ∷ []) p f after (fits_met (p ++ k ∷ []) s f w.0) (fits_met p (met_after s f) after w.1)
fits_met p s (First k n j f after) w =
    let up = insert s j in
    let rest = both_met up [] p f after (fits_met [] up f w.1) (fits_met p (met_after up f) after w.2) in
    ((w.0, rest.0), λ i h. grind (arith, rest.1 i, h, contains-insert identity_total s j i, list_any-append))
fits_met p s (Again k n j after) w =
    let rest = fits_met p s after w.1 in
    let met = λ (i : Identity) (a : IsTrue (is_same_identity i j)). ap (contains s) (same_identity i j a) ∙ w.0 in
    (rest.0, λ i h. grind (arith, met i, h, rest.1 i))

-- If the content found for an identity points to i, one of the contents points to i.
marks_content : (cs : Contents) (i j : Identity) → IsTrue (has_mark i (unwrap_or (lookup (is_same_identity j) cs) [])) →
    IsTrue (list_any (λ c. has_mark i c.1) cs)
marks_content [] i j h = h
marks_content (c ∷ cs) i j h = grind (arith, marks_content cs i j, h)

-- The identities of new contents were not met before, and none of them is there twice.
fresh_distinct : (s : Identities) (cs : Contents) → Fresh s cs →
    AllByRecursion (λ j. contains s j ≡ false) (ids cs) × IsDistinct is_same_identity (ids cs)
unfolding IsDistinct
fresh_distinct s [] h = (tt, tt)
fresh_distinct s (c ∷ cs) h =
    let rest = fresh_distinct (insert s c.0) cs h.1 in
    let apart = λ (j : Identity) (g : contains (insert s c.0) j ≡ false). or_parts (is_same_identity j c.0)
    (contains s j) (sym (contains-insert identity_total s c.0 j) ∙ g) in (
      (h.0, each-implies _ _ (λ j g. (apart j g).1) (ids cs) rest.0),
      (each-implies _ _ (λ j g. same_identity_turned c.0 j ∙ (apart j g).0) (ids cs) rest.0, rest.1),
    )

-- A whole showing shows the content of each identity at most once.
pub shown_distinct : (f : Forest) → IsWhole f → IsDistinct is_same_identity (content_identities f)
shown_distinct f w = (fresh_distinct set.empty (contents f) (fits_met [] set.empty f w).0).1

-- In a whole showing, `content_of` finds each content by its identity.
own_content : (f : Forest) → IsWhole f → AllByRecursion (λ c. content_of f c.0 ≡ c.1) (contents f)
own_content f w = recursion_from_All _ (contents f) (All-weaker (Contains (contents f)) _
    (λ c h. ap (λ o. unwrap_or o []) (lookup-from_Contains (eq_by_cmp_equiv identity_total) c.0 c.1 (contents f)
    (shown_distinct f w) h)) (contents f) (All-contains_itself (contents f)))

-- ---- the theorem
-- The identities that are reached from a whole forest are exactly those that its contents show.
pub reaches_exactly : (f : Forest) → IsWhole f → ReachesExactly f
reaches_exactly f w i = (
  reach (own f) (content_of f) [] f (λ j h. marked h) (own_content f w) i,
  λ r. sym (ap (λ b. b || is_among i (content_identities f)) (contains-empty identity_cmp i))
      ∙ (fits_met [] set.empty f w).1 i (elim r [
        | marked h ↦ or_left _ _ h
        | inside j q h ↦ or_right (has_mark i (own f))
            _ (marks_content (contents f) i j h)
      ]),
)

-- All entries of a whole showing are a meaning of its own entries, with the contents that it shows.
pub all_is_meaning : (f : Forest) → IsWhole f → IsMeaning (own f) (content_of f) (all f)
all_is_meaning f w =
    let same = subst (λ b. IsPermutation (own f ++ b) (all f)) (sym (flat (contents f) (own_content f w)))
    (IsPermutation-refl (all f)) in
    record { identities = content_identities f; once = shown_distinct f w; reached = reaches_exactly f w; is = same }
  where
    flat : (cs : Contents) → AllByRecursion (λ c. content_of f c.0 ≡ c.1) cs →
        flat_map (content_of f) (ids cs) ≡ flat_map (λ c. c.1) cs
    flat [] h = refl
    flat (c ∷ cs) h = λ k. h.0 k ++ flat cs h.1 k

-- ---- whole showings that agree
-- If two whole showings agree, the second reaches each identity that the first reaches.
pub same_reached : (f g : Forest) → IsWhole f → IsWhole g → Agree f g → (i : Identity) →
    Reached (own f) (content_of f) i → Reached (own g) (content_of g) i
same_reached f g v w a i (marked h) = marked
    (sym (list_any-IsPermutation (λ e. is_mark_of i e.mark) (own f) (own g) a.own_entries) ∙ h)
same_reached f g v w a i (inside j r h) =
    let there = same_reached f g v w a j r in
    inside j there (sym (list_any-IsPermutation (λ e. is_mark_of i e.mark) (content_of f j) (content_of g j)
    (a.same_content j ((reaches_exactly f v j).1 r) ((reaches_exactly g w j).1 there))) ∙ h)

-- If one showing agrees with another, the other agrees with it.
pub agree_back : (f g : Forest) → Agree f g → Agree g f
agree_back f g a = record {
  own_entries = IsPermutation-sym _ _ a.own_entries;
  same_content = λ i p q. IsPermutation-sym _ _ (a.same_content i q p);
}

-- ---- two lists of the same identities, each with none twice
module _ (v : Identity → ℕ) where
  abbrev Listed : List Identity → FinMap identity_cmp ℕ
  Listed is = from_entries (map (λ i. (i, v i)) is)

  get-listed : (is : List Identity) (q : Identity) → get (Listed is) q ≡ cond (is_among q is) (Some (v q)) None
  get-listed is q = get-from_entries identity_total _ q ∙ find-keys identity_total identity_antisymmetric v is q

  sum-listed : (is : List Identity) → IsDistinct is_same_identity is →
      sum_by (λ e. e.1) (entries (Listed is)) ≡ sum_by v is
  unfolding IsDistinct
  sum-listed [] d = ap (sum_by (λ e. e.1)) (no_entries identity_cmp ℕ)
  sum-listed (i ∷ is) d =
      let new : v i ≡ unwrap_or (option_map (λ n. n) (get (Listed is) i)) 0 + v i =
      rw (get-listed is i, list_any_none (is_same_identity i) is (All-from_recursion _ is d.0)) (omega arith) in
      let more = weights-insert identity_total identity_antisymmetric (λ i n. n) (Listed is) i (v i) (v i) new in
      omega (arith, more, sum-listed is d.1, sum_by-cons v i is)

-- The sum over the entries of several contents is what the sums over each content add up to.
sum-flat : (w : Entry → ℕ) (T : Identity → Bag) (is : List Identity) →
    sum_by w (flat_map T is) ≡ sum_by (λ i. sum_by w (T i)) is
sum-flat w T [] = refl
sum-flat w T (i ∷ is) = omega (arith, sum-flat w T is, sum_by-append {X = Entry}, sum_by-cons {X = Identity})

-- Over lists of the same identities, each of which is listed once, sums are the same.
module _ (is js : List Identity) (d : IsDistinct is_same_identity is) (e : IsDistinct is_same_identity js)
    (same : (k : Identity) → is_among k is ≡ is_among k js) where
  same_sum : (u v : Identity → ℕ) → ((k : Identity) → IsTrue (is_among k js) → u k ≡ v k) → sum_by u is ≡ sum_by v js
  same_sum u v each = sym (sum-listed u is d)
      ∙ ap (λ l. sum_by (λ e. e.1) (entries l)) (same_map identity_total identity_antisymmetric _ _
      (λ q. rw (get-listed u is q, get-listed v js q, same q) (grind (arith, each q)))) ∙ sum-listed v js e

  pub same_flat : (S T : Identity → Bag) → ((k : Identity) → IsTrue (is_among k js) → IsPermutation (S k) (T k)) →
      SameSums (flat_map S is) (flat_map T js)
  same_flat S T each w = sum-flat w S is ∙ same_sum (λ i. sum_by w (S i)) (λ i. sum_by w (T i))
      (λ k h. sym (sum_by-IsPermutation w _ _ (each k h))) ∙ sym (sum-flat w T js)

-- Meanings of two bags that have the same entries, and reach the same identities with the same contents, have equal
-- sums.
meanings : {b c m n : Bag} {S T : Identity → Bag} → (x : IsMeaning b S m) (y : IsMeaning c T n) → IsPermutation b c →
    ((k : Identity) → Reached b S k ↔ Reached c T k) → ((k : Identity) → Reached c T k → IsPermutation (S k) (T k)) →
    sums_of m ≡ sums_of n
meanings {b = b} {c = c} {m = m} {n = n} {S = S} {T = T} x y moved both each = add_all-same empty m n (λ w.
    let flat = same_flat x.identities y.identities x.once y.once
    (λ k. both_ways _ _ (λ h. (y.reached k).1 ((both k).0 ((x.reached k).0 h)))
    (λ h. (x.reached k).1 ((both k).1 ((y.reached k).0 h)))) S T (λ k h. each k ((y.reached k).0 h)) w in
    let same = sum_by-IsPermutation w in
    omega (arith, same _ _ x.is, same _ _ y.is, same _ _ moved, sum_by-append {X = Entry}, flat))

-- The sums of all entries are equal in two whole showings that agree.
pub same_sums_of : (f g : Forest) → IsWhole f → IsWhole g → Agree f g → sums_of (all f) ≡ sums_of (all g)
same_sums_of f g v w a =
    let back = same_reached g f w v (agree_back f g a) in
    meanings (all_is_meaning f v) (all_is_meaning g w) a.own_entries (λ k. (same_reached f g v w a k, back k))
    (λ k h. a.same_content k ((reaches_exactly f v k).1 (back k h)) ((reaches_exactly g w k).1 h))

-- Two meanings of one bag, with the same contents, have equal sums.
pub one_sums : (b : Bag) (T : Identity → Bag) (m n : Bag) → IsMeaning b T m → IsMeaning b T n → sums_of m ≡ sums_of n
one_sums b T m n x y = meanings x y (IsPermutation-refl b) (λ k. (λ h. h, λ h. h)) (λ k h. IsPermutation-refl (T k))

-- ---- two forests one after another
-- The own entries of two forests one after another are those of the first, then those of the second.
pub own-following : (p : Path) (f g : Forest) → own_behind p (followed_by f g) ≡ own_behind p f ++ own_behind p g
own-following p Empty g = refl
own-following p (Inline k n f after) g = rw (own-following p after g) (simp append_assoc)
own-following p (Unique k n f after) g = rw (own-following p after g) (simp append_assoc)
own-following p (First k n j f after) g = rw (own-following p after g)
own-following p (Again k n j after) g = rw (own-following p after g)

-- The contents of two forests one after another are those of the first, then those of the second.
pub contents-following : (f g : Forest) → contents (followed_by f g) ≡ contents f ++ contents g
contents-following Empty g = refl
contents-following (Inline k n f after) g = rw (contents-following after g) (simp append_assoc)
contents-following (Unique k n f after) g = rw (contents-following after g) (simp append_assoc)
contents-following (First k n j f after) g = rw (contents-following after g) (simp append_assoc)
contents-following (Again k n j after) g = contents-following after g

-- The identities met after two forests are those met after the first one and then the second.
pub met-following : (s : Identities) (f g : Forest) → met_after s (followed_by f g) ≡ met_after (met_after s f) g
met-following s f g = rw (contents-following f g) (met-append s (contents f) (contents g))

-- Two forests one after another change the sums as the first one does and then the second.
pub entries_at-following : (s : Sums) (p : Path) (f g : Forest) →
    add_all s (entries_at p (followed_by f g)) ≡ add_all (add_all s (entries_at p f)) (entries_at p g)
entries_at-following s p f g = add_all-same s (entries_at p (followed_by f g)) (entries_at p f ++ entries_at p g)
    (λ w. simp (own-following, contents-following, flat_map-append, sum_by-append) (omega arith))
    ∙ fold-append add s (entries_at p f) (entries_at p g)

-- ---- fitting
-- A step of `fits-following`: if it holds of the entries after an entry, it holds with that entry too.
fits_inside : (s : Identities) (f after g : Forest) →
    Fits (met_after s f) (followed_by after g) ↔ (Fits (met_after s f) after × Fits (met_after (met_after s f) after) g)
    → (Fits s f × Fits (met_after s f) (followed_by after g)) ↔
    ((Fits s f × Fits (met_after s f) after) × Fits (insert_all s (ids (contents f ++ contents after))) g)
fits_inside s f after g rest = rw (met-append s (contents f) (contents after))
    (λ w. let x = rest.0 w.1 in ((w.0, x.0), x.1), λ w. (w.0.0, rest.1 (w.0.1, w.1)))

-- Two forests one after another fit exactly if the first fits, and the second fits what is met then.
pub fits-following : (s : Identities) (f g : Forest) → Fits s (followed_by f g) ↔ (Fits s f × Fits (met_after s f) g)
fits-following s Empty g = (λ w. (tt, w), λ w. w.1)
fits-following s (Inline k n f after) g = fits_inside s f after g (fits-following (met_after s f) after g)
fits-following s (Unique k n f after) g = fits_inside s f after g (fits-following (met_after s f) after g)
fits-following s (First k n j f after) g =
    let both = fits_inside (insert s j) f after g (fits-following (met_after (insert s j) f) after g) in (
      λ w. let x = both.0 (w.1, w.2) in ((w.0, x.0.0, x.0.1), x.1),
      λ w. let x = both.1 ((w.0.1, w.0.2), w.1) in
          (w.0.0, x.0, x.1),
    )
fits-following s (Again k n j after) g = let rest = fits-following s after g in
    (λ w. let x = rest.0 w.1 in ((w.0, x.0), x.1), λ w. (w.0.0, rest.1 (w.0.1, w.1)))

-- ---- a set with more identities, of which none is shown
module _ (more : Identity → Bool) where
  abbrev HasMore : Identities → Identities → Type 0
  HasMore s t = (i : Identity) → contains t i ≡ (contains s i || more i)

  more-insert_all : (s t : Identities) (is : List Identity) → HasMore s t → HasMore (insert_all s is) (insert_all t is)
  more-insert_all s t is h i = grind (arith, contains-insert_all s is i, contains-insert_all t is i, h i)

  -- What fits the identities met also fits them and more.
  abbrev FitsMore : Forest → Type 0
  FitsMore f = (s t : Identities) → HasMore s t → AllByRecursion (λ c. more c.0 ≡ false) (contents f) → Fits s f →
      Fits t f

  more_both : (f g : Forest) → FitsMore f → FitsMore g → (s t : Identities) → HasMore s t →
      AllByRecursion (λ c. more c.0 ≡ false) (contents f ++ contents g) → Fits s f × Fits (met_after s f) g →
      Fits t f × Fits (met_after t f) g
  more_both f g x y s t h a w = let each = each-parts (λ c. more c.0 ≡ false) (contents f) (contents g) a in
      (x s t h each.0 w.0, y _ _ (more-insert_all s t (content_identities f) h) each.1 w.1)

  pub fits_more : (f : Forest) → FitsMore f
  fits_more Empty s t h a w = tt
  fits_more (Inline k n f after) s t h a w = more_both f after (fits_more f) (fits_more after) s t h a w
  fits_more (Unique k n f after) s t h a w = more_both f after (fits_more f) (fits_more after) s t h a w
  fits_more (First k n j f after) s t h a w =
      let up = more-insert_all s t (j ∷ []) h in
      let rest = more_both f after (fits_more f) (fits_more after) (insert s j) (insert t j) up a.1 (w.1, w.2) in
      (h j ∙ ap (λ c. c || more j) w.0 ∙ a.0, rest.0, rest.1)
  fits_more (Again k n j after) s t h a w = (h j ∙ or_left _ (more j) w.0, fits_more after s t h a w.1)

-- ---- what a graph has at a path
-- A lookup in a list of entries whose values were changed by path gives the changed value.
find-mapped : {X Y : Type 0} (r : Path → X → Y) (es : List (Path × X)) (q : Path) →
    find path_cmp q (map (λ e. (e.0, r e.0 e.1)) es) ≡ option_map (r q) (find path_cmp q es)
find-mapped r [] q = refl
find-mapped r (e ∷ es) q = grind (arith, same_path q e.0, find-mapped r es q)

-- At a path other than the root, the graph of sums has what remains of its bytes, if the sums have the path.
pub get-graph : (s : Sums) (k : Key) (p : Path) →
    get (graph s) (k ∷ p) ≡ option_map (remaining s (k ∷ p)) (get s (k ∷ p))
get-graph s k p = get-from_entries path_total (sizes s) (k ∷ p) ∙ find-mapped (remaining s) (entries s) (k ∷ p)
    ∙ ap (option_map (remaining s (k ∷ p))) (sym (get-entries s (k ∷ p)))

-- The graph of sums has 0 at the root.
pub get-graph-root : (s : Sums) → get (graph s) [] ≡ Some 0
get-graph-root s = get-from_entries path_total (sizes s) []

-- The sum of two graphs has the paths of either, each with both its sizes added.
pub get-sum_of : (g h : Graph) (q : Path) →
    get (sum_of g h) q ≡ cond (is_some (get g q) || is_some (get h q)) (Some (size_at g q + size_at h q)) None
get-sum_of g h q = get-from_entries path_total _ q
    ∙ find-keys path_total path_antisymmetric (λ p. size_at g p + size_at h p) (keys g ++ keys h) q
    ∙ rw (list_any-append (is_same_path q) (keys g) (keys h), ← contains_key-keys g q, ← contains_key-keys h q)

-- ---- if the sums can be added
-- If the sums of two forests can be added, their graphs add up to the graph of both in one forest.
pub graphs_add : (f g : Forest) → CanBeAdded (sums_of (all f)) (sums_of (all g)) →
    sum_of (graph (sums_of (all f))) (graph (sums_of (all g))) ≡ graph (sums_of (all (followed_by f g)))
graphs_add f g can = same_map path_total path_antisymmetric _ _ each
  where
    each : (q : Path) → get (sum_of (graph (sums_of (all f))) (graph (sums_of (all g)))) q
        ≡ get (graph (sums_of (all (followed_by f g)))) q
    each [] = simp (get-sum_of, get-graph-root)
    each (k ∷ p) =
        let s = sums_of (all f) in
        let t = sums_of (all g) in
        let q = k ∷ p in
        let below_both : below s q + below t q ≡ below (add_all s (all g)) q =
        omega (arith, below-sums_of (all g) q, below-add_all s (all g) q) in
        let both = ap (λ x. get (graph x) q) (entries_at-following empty [] f g) in
        rw (get-sum_of, get-graph s k p, get-graph t k p, both, get-graph (add_all s (all g)) k p)
        (rw (get-add_all s (all g) q, ← get-sums_of (all g) q)
        (grind (arith, below_both, absent_below f k p, absent_below g k p, can q)))

-- If two whole showings reach no identity in common, one followed by the other is a whole showing.
pub whole_following : (f g : Forest) → IsWhole f → IsWhole g → ReachApart f g → IsWhole (followed_by f g)
whole_following f g v w apart =
    let away = shown_each (λ i. is_among i (content_identities f) ≡ false) (contents g)
    (λ i h. false_from_ne_true _ (λ there. apart i ((reaches_exactly f v i).0 there)
    ((reaches_exactly g w i).0 h))) in
    (fits-following set.empty f g).1 (
      v,
      fits_more (λ i. is_among i (content_identities f)) g set.empty (met_after set.empty f)
          (contains-insert_all set.empty (content_identities f)) away w,
    )
