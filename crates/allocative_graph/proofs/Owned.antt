-- What forests own: it adds up, in any order, and is the total of a graph.
use Rattle.std.proofs.Common.{◌≡◌, ℕ, ◌+◌, ◌-◌, ◌≤◌, ◌||◌, true, false, cond, List, [], ◌∷◌, ◌++◌, fold, map, inl, inr}
use Rattle.std.proofs.Common.{is_some, unwrap_or, refl, ap, sym, ◌∙◌, sum_by, arith}
use Rattle.allocative_graph.proofs.Common.{sum_by-cons, map-append, AsInline, AsUnique, AsShared, Bag, contains_key}
use Rattle.allocative_graph.proofs.Common.{Key, Path, is_same_path, is_one_below, Forest, Empty, Inline, Unique, First}
use Rattle.allocative_graph.proofs.Common.{Again, own, own_behind, followed_by, bytes_in, is_entered_in, is_unique_in}
use Rattle.allocative_graph.proofs.Common.{sums_of, below, Graph, graph, default, size_at, total, Entry, sum_by-append}
use Rattle.allocative_graph.proofs.Common.{Mark}
use Rattle.allocative_graph.specs.Owned.{direct, owned, Owner, owners_behind, owns_all, EachAt, AreAlike, Reordered}
use Rattle.allocative_graph.specs.Owned.{exchanged, within, beside, in_turn}
use Rattle.allocative_graph.proofs.Sums.{one_below_is, below_in, below-sums_of, bytes-cons, get-sums_of, bytes_none}
use Rattle.allocative_graph.proofs.Graphs.{add_at, get-add_at, total-add_at, same_graph, in_graph, get-default}
use Rattle.allocative_graph.proofs.Graphs.{size_at-default, total-default}
use Rattle.allocative_graph.proofs.{Basics.same_path, Showings.get-graph, Showings.get-graph-root}

-- ---- one after another
-- The direct bytes of two forests one after another add up.
pub direct-following : (f g : Forest) → direct (followed_by f g) ≡ direct f + direct g
direct-following Empty g = omega arith
direct-following (Inline k n f after) g = omega (arith, direct-following after g)
direct-following (Unique k n f after) g = omega (arith, direct-following after g)
direct-following (First k n i f after) g = omega (arith, direct-following after g)
direct-following (Again k n i after) g = omega (arith, direct-following after g)

-- The bytes that two forests own one after another add up.
pub owned-following : (f g : Forest) → owned (followed_by f g) ≡ owned f + owned g
owned-following Empty g = omega arith
owned-following (Inline k n f after) g = omega (arith, owned-following after g)
owned-following (Unique k n f after) g = omega (arith, owned-following after g)
owned-following (First k n i f after) g = omega (arith, owned-following after g)
owned-following (Again k n i after) g = omega (arith, owned-following after g)

-- The bytes at the top are owned, by the top or by what is inside it.
pub direct-owned : (f : Forest) → direct f ≤ owned f
direct-owned Empty = omega arith
direct-owned (Inline k n f after) = omega (arith, direct-owned f, direct-owned after)
direct-owned (Unique k n f after) = omega (arith, direct-owned after)
direct-owned (First k n i f after) = omega (arith, direct-owned after)
direct-owned (Again k n i after) = omega (arith, direct-owned after)

-- ---- in any order
-- A forest has the same direct bytes, and owns the same bytes, in each order of its entries.
same_bytes : (f g : Forest) → Reordered f g → (direct f ≡ direct g) × (owned f ≡ owned g)
same_bytes _ _ (exchanged f g) =
    (omega (arith, direct-following f g, direct-following g f), omega (arith, owned-following f g, owned-following g f))
same_bytes _ _ (within {f} {g} true k n r) = (refl, omega (arith, (same_bytes f g r).1))
same_bytes _ _ (within {f} {g} false k n r) = (refl, omega (arith, (same_bytes f g r).0, (same_bytes f g r).1))
same_bytes _ _ (beside {f} {g} h r) = (
  omega (arith, direct-following f h, direct-following g h, (same_bytes f g r).0),
  omega (arith, owned-following f h, owned-following g h, (same_bytes f g r).1),
)
same_bytes _ _ (in_turn {f} {g} {h} r s) = (
  omega (arith, (same_bytes f g r).0, (same_bytes g h s).0),
  omega (arith, (same_bytes f g r).1, (same_bytes g h s).1),
)

-- A forest owns the same bytes in each order of its entries.
pub owned-reordered : (f g : Forest) → Reordered f g → owned f ≡ owned g
owned-reordered f g r = (same_bytes f g r).1

-- ---- entry by entry
-- What an entry keeps of its bytes.
abbrev kept : Owner → ℕ
kept x = cond (owns_all x) x.entry.size (x.entry.size - x.inside)

abbrev entries_of : List Owner → Bag
entries_of xs = map (λ x. x.entry) xs

-- A sum over the entries at q.
abbrev at : (Owner → ℕ) → Path → List Owner → ℕ
at w q xs = sum_by (λ x. cond (is_same_path q x.entry.path) (w x) 0) xs

abbrev inside_at : Path → List Owner → ℕ
inside_at q xs = at (λ x. x.inside) q xs

-- A sum over an entry, those inside it and those after it.
sum-entry : {X : Type 0} (w : X → ℕ) (x : X) (xs ys : List X) →
    sum_by w (x ∷ (xs ++ ys)) ≡ w x + (sum_by w xs + sum_by w ys)
sum-entry {X = X} w x xs ys = omega (arith, sum_by-cons {X = X}, sum_by-append {X = X})

-- The same of the entries at q.
at-entry : (w : Owner → ℕ) (q : Path) (x : Owner) (xs ys : List Owner) →
    at w q (x ∷ (xs ++ ys)) ≡ cond (is_same_path q x.entry.path) (w x) 0 + (at w q xs + at w q ys)
at-entry w q = sum-entry (λ x. cond (is_same_path q x.entry.path) (w x) 0)

-- The entry with n bytes at the path p and then k, and with i bytes directly inside it.
abbrev owner : Path → Key → ℕ → Mark → ℕ → Owner
owner p k n m i = record { entry = record { path = p ++ k ∷ []; size = n; mark = m }; inside = i }

-- xs lists the entries b, which are behind p and own `all`, with `top` bytes at the top. The bytes one key below q are
-- those directly inside the entries at q, and if q is p those at the top as well.
record Lists (q p : Path) (b : Bag) (xs : List Owner) (all top : ℕ) : Type 0 where
  entries : entries_of xs ≡ b
  keep : sum_by kept xs ≡ all
  below : below_in b q ≡ inside_at q xs + cond (is_same_path q p) top 0
  no_root : at kept [] xs ≡ 0

-- No entries.
lists_none : (q p : Path) → Lists q p [] [] 0 0
lists_none q p = record { entries = refl; keep = refl; below = grind arith; no_root = refl }

-- A path that ends in a key is not the root.
not_root : (p : Path) (k : Key) → is_same_path [] (p ++ k ∷ []) ≡ false
not_root [] k = refl
not_root (l ∷ p) k = refl

-- An entry with others inside it and after it.
lists_entry : (q p : Path) (k : Key) (n : ℕ) (m : Mark) {b c : Bag} {xs ys : List Owner} {s t u all top : ℕ} →
    Lists q (p ++ k ∷ []) b xs s t → Lists q p c ys u top → all ≡ kept (owner p k n m t) + (s + u) →
    Lists q p ((owner p k n m t).entry ∷ (b ++ c)) (owner p k n m t ∷ (xs ++ ys)) all (n + top)
lists_entry q p k n m {b = b} {c = c} {xs = xs} {ys = ys} {t = t} x y is = let o = owner p k n m t in record {
  entries = rw (map-append {B = Entry} (λ x. x.entry) xs ys, x.entries, y.entries);
  keep = omega (arith, sum-entry kept o xs ys, x.keep, y.keep, is);
  below =
      let more = sum-entry (λ e. cond (is_one_below q e.path) e.size 0) o.entry b c in
      grind (arith, one_below_is q p k, more, at-entry (λ x. x.inside) q o xs ys, x.below, y.below);
  no_root = grind (arith, not_root p k, at-entry kept [] o xs ys, x.no_root, y.no_root);
}

-- The own entries of a forest, as `owners_behind` lists them.
lists : (q p : Path) (f : Forest) → Lists q p (own_behind p f) (owners_behind p f) (owned f) (direct f)
lists q p Empty = lists_none q p
lists q p (Inline k n f after) =
    lists_entry q p k n AsInline (lists q (p ++ k ∷ []) f) (lists q p after) (omega arith)
lists q p (Unique k n f after) =
    lists_entry q p k n AsUnique (lists q (p ++ k ∷ []) f) (lists q p after) (omega arith)
lists q p (First k n i f after) =
    lists_entry q p k n (AsShared i) (lists_none q (p ++ k ∷ [])) (lists q p after) (omega arith)
lists q p (Again k n i after) =
    lists_entry q p k n (AsShared i) (lists_none q (p ++ k ∷ [])) (lists q p after) (omega arith)

-- ---- entries that are alike
module _ (q : Path) where
  each_unique : (xs : List Owner) → EachAt q (λ x. owns_all x ≡ true) xs →
      (at kept q xs ≡ bytes_in (entries_of xs) q) × (is_unique_in (entries_of xs) q ≡ is_entered_in (entries_of xs) q)
  each_unique [] h = (refl, refl)
  each_unique (x ∷ xs) h = let r = each_unique xs h.1 in
      (grind (arith, h.0, r.0, at-entry kept q x [] xs, bytes-cons x.entry (entries_of xs) q), grind (arith, h.0, r.1))

  each_least : (xs : List Owner) → EachAt q (λ x. (owns_all x ≡ false) × (x.inside ≤ x.entry.size)) xs →
      (at kept q xs + inside_at q xs ≡ bytes_in (entries_of xs) q) × (is_unique_in (entries_of xs) q ≡ false)
  each_least [] h = (refl, refl)
  each_least (x ∷ xs) h = let r = each_least xs h.1 in (
    grind (arith, h.0, r.0, at-entry kept q x [] xs, at-entry (λ x. x.inside) q x [] xs, bytes-cons),
    grind (arith, h.0, r.1),
  )

  each_most : (xs : List Owner) → EachAt q (λ x. (owns_all x ≡ false) × (x.entry.size ≤ x.inside)) xs →
      (at kept q xs ≡ 0) × (bytes_in (entries_of xs) q ≤ inside_at q xs) × (is_unique_in (entries_of xs) q ≡ false)
  each_most [] h = (refl, omega arith, refl)
  each_most (x ∷ xs) h = let r = each_most xs h.1 in (
    grind (arith, h.0, r.0, at-entry kept q x [] xs),
    grind (arith, h.0, r.1, at-entry (λ x. x.inside) q x [] xs, bytes-cons x.entry (entries_of xs) q),
    grind (arith, h.0, r.2),
  )

  -- What the graph has at a path.
  remains : (xs : List Owner) → AreAlike q xs →
      cond (is_entered_in (entries_of xs) q) (cond (is_unique_in (entries_of xs) q) (bytes_in (entries_of xs) q)
      (bytes_in (entries_of xs) q - inside_at q xs)) 0 ≡ at kept q xs
  remains xs (inl h) = let r = each_unique xs h in grind (arith, r.0, r.1, bytes_none (entries_of xs) q)
  remains xs (inr (inl h)) = let r = each_least xs h in grind (arith, r.0, r.1, bytes_none (entries_of xs) q)
  remains xs (inr (inr h)) = let r = each_most xs h in grind (arith, r.0, r.1, r.2, bytes_none (entries_of xs) q)

-- ---- the graph
abbrev with_kept : Graph → List Owner → Graph
with_kept g xs = fold (λ h x. add_at h (x.entry.path, kept x)) g xs

-- What entries keep, added to a graph, raises its total by their sum.
total-with_kept : (g : Graph) (xs : List Owner) → total (with_kept g xs) ≡ total g + sum_by kept xs
total-with_kept g [] = omega arith
total-with_kept g (x ∷ xs) =
    omega (arith, total-with_kept (add_at g (x.entry.path, kept x)) xs, total-add_at, sum_by-cons {X = Owner})

-- What entries keep, added to a graph, raises the size at each path by what the entries there keep.
size-with_kept : (g : Graph) (xs : List Owner) (q : Path) → size_at (with_kept g xs) q ≡ size_at g q + at kept q xs
size-with_kept g [] q = omega arith
size-with_kept g (x ∷ xs) q =
    let rest = size-with_kept (add_at g (x.entry.path, kept x)) xs q in
    let added = get-add_at g (x.entry.path, kept x) q in
    grind (arith, rest, added, same_path q x.entry.path, at-entry kept q x [] xs)

-- A graph to which entries were added has its own paths and theirs.
has-with_kept : (g : Graph) (xs : List Owner) (q : Path) →
    contains_key (with_kept g xs) q ≡ (contains_key g q || is_entered_in (entries_of xs) q)
has-with_kept g [] q = grind arith
has-with_kept g (x ∷ xs) q =
    let added = get-add_at g (x.entry.path, kept x) q in
    grind (arith, has-with_kept (add_at g (x.entry.path, kept x)) xs q, added)

-- If the entries at each path are alike, the graph of the own entries has what they keep.
module _ (f : Forest) (alike : (p : Path) → AreAlike p (owners_behind [] f)) where
  abbrev xs : List Owner
  xs = owners_behind [] f

  abbrev made : Graph
  made = graph (sums_of (entries_of xs))

  sizes : (q : Path) → size_at made q ≡ size_at (with_kept default xs) q
  sizes [] = ap (λ o. unwrap_or o 0) (get-graph-root (sums_of (entries_of xs)))
      ∙ sym (omega (arith, size-with_kept default xs [], size_at-default [], (lists [] [] f).no_root))
  sizes (k ∷ p) =
      let q = k ∷ p in
      let s = sums_of (entries_of xs) in
      let inside : below s q ≡ inside_at q xs =
      omega (arith, below-sums_of, ap (λ b. below_in b q) (lists q [] f).entries, (lists q [] f).below) in
      rw (get-graph s k p, get-sums_of (entries_of xs) q)
      (grind (arith, inside, remains q xs (alike q), size-with_kept default xs q, size_at-default q))

  paths : (q : Path) → contains_key made q ≡ contains_key (with_kept default xs) q
  paths [] = ap is_some (get-graph-root (sums_of (entries_of xs)))
      ∙ sym (grind (arith, has-with_kept default xs [], get-default []))
  paths (k ∷ p) = in_graph (entries_of xs) k p
      ∙ sym (grind (arith, has-with_kept default xs (k ∷ p), get-default (k ∷ p)))

  pub owned-total : owned f ≡ total (graph (sums_of (own f)))
  owned-total =
      let same = ap total (same_graph made (with_kept default xs) sizes paths) in
      let listed = ap (λ (b : Bag). total (graph (sums_of b))) (lists [] [] f).entries in
      omega (arith, (lists [] [] f).keep, total-with_kept, total-default, same, listed)
