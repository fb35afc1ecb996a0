-- What a level shows of values of any number of levels is what a value of any number of levels shows.
use Rattle.std.proofs.Common.{◌≡◌, ℕ, Bool, false, zero, suc, ◌+◌, List, [], ◌∷◌, None, Some, refl, arith, subst, sym}
use Rattle.allocative.proofs.Common.{Forest, Showing, sized, each_shows, Both, without_size, without_room, with_room}
use Rattle.allocative.proofs.Common.{in_any_order, IsDeclared, ShowsContents, Means, levels_shown}
use Rattle.std.proofs.Math.Nat.{add_comm}
use Rattle.allocative.specs.Levels.{Level, plain, child, both, inside, unique, field, buffer, optional, each, unordered}
use Rattle.allocative.specs.Levels.{level_shows, recursive, opened}
use Rattle.allocative.proofs.Meaning.{means_same, means_inside, means_unique, means_field, means_both, loosely}
use Rattle.allocative.proofs.ContainerMeaning.{means_buffer}

-- ---- when p allows less than q
-- If p means q at each item, the items one after another shown by p mean those shown by q.
pub means_each : {A : Type 0} {e : Bool} {p q : A → Showing} → ((x : A) → Means e (p x) (q x)) → (xs : List A) →
    Means e (each_shows p xs) (each_shows q xs)
means_each m [] = means_same
means_each m (x ∷ xs) = means_both (m x) (means_each m xs)

-- If p means q at each item, the items in any order shown by p mean those shown by q.
pub means_unordered : {A : Type 0} {e : Bool} {p q : A → Showing} → ((x : A) → Means e (p x) (q x)) → (xs : List A) →
    Means e (in_any_order p xs) (in_any_order q xs)
means_unordered m xs = record {
  means = λ f x. (x.0, x.1, (means_each m x.0).means f x.2);
  declared = λ h d. let y = (means_each m d.1.0).declared h (d.0, d.1.2, d.2) in (y.0, (d.1.0, d.1.1, y.1), y.2);
}

-- If p means q at each child, a level whose children p shows means the level whose children q shows.
means_level : {T : Type 0} {e : Bool} {p q : T → Showing} → ((x : T) → Means e (p x) (q x)) → (l : Level T) →
    Means e (level_shows p l) (level_shows q l)
means_level m (plain s) = means_same
means_level m (child x) = m x
means_level m (both a b) = means_both (means_level m a) (means_level m b)
means_level m (inside k n a) = means_inside refl (means_level m a)
means_level m (unique k n a) = means_unique refl (means_level m a)
means_level m (field k size a) = means_field refl refl (means_level m a)
means_level m (buffer size a n capacity) = means_buffer refl refl refl (means_level m a)
means_level m (optional size w None) = means_same
means_level m (optional size w (Some x)) = means_field refl refl (means_level m (w x))
means_level m (each w xs) = means_each (λ x. means_level m (w x)) xs
means_level m (unordered w xs) = means_unordered (λ x. means_level m (w x)) xs

-- ---- more levels allow more
-- Each forest of a value of at most k levels is one of at most k + j levels.
levels_more : {T : Type 0} (w : T → Level T) (k j : ℕ) (x : T) →
    Means false (levels_shown w k x) (levels_shown w (k + j) x)
levels_more w zero j x = loosely (λ f y. absurd y)
levels_more w (suc k) j x =
    let e : suc k + j ≡ suc (k + j) = omega arith in
    rw e (means_level (levels_more w k j) (w x))

-- ---- one number of levels is enough for all parts
-- The parts of q, each with some number of levels.
abbrev Found : (ℕ → Showing) → Showing → Type 0
Found p q = (f : Forest) → q f → (k : ℕ) × p k f

-- If each forest of q and of s has some number of levels, and more allow more, so has each forest of both.
both_found : {p r : ℕ → Showing} {q s : Showing} → ((k j : ℕ) → Means false (p k) (p (k + j))) →
    ((k j : ℕ) → Means false (r k) (r (k + j))) → Found p q → Found r s → Found (λ k. Both (p k) (r k)) (Both q s)
both_found more_p more_r a b f (g, h, x, y, e) =
    let m = a g x in
    let n = b h y in
    (m.0 + n.0, (g, h, (more_p m.0 n.0).means g m.1, rw (add_comm m.0 n.0) ((more_r n.0 m.0).means h n.1), e))

-- If each forest of an item has some number of levels, and more allow more, so has each forest of a list.
each_found : {A : Type 0} {p : ℕ → A → Showing} {q : A → Showing} →
    ((k j : ℕ) (x : A) → Means false (p k x) (p (k + j) x)) → ((x : A) → Found (λ k. p k x) (q x)) →
    (xs : List A) → Found (λ k. each_shows (p k) xs) (each_shows q xs)
each_found more s [] f e = (0, e)
each_found {p = p} more s (x ∷ xs) f y =
    both_found {p = λ k. p k x} {r = λ k. each_shows (p k) xs} (λ k j. more k j x) (λ k j. means_each (more k j) xs)
    (s x) (each_found more s xs) f y

-- In each forest of a level with children of any number of levels, one number of levels is enough for all of them.
level_found : {T : Type 0} (w : T → Level T) (l : Level T) →
    Found (λ k. level_shows (levels_shown w k) l) (level_shows (recursive w) l)
level_found w (plain s) f y = (0, y)
level_found w (child x) f y = (y.depth, y.shown)
level_found w (both a b) f y = both_found (λ k j. means_level (levels_more w k j) a)
    (λ k j. means_level (levels_more w k j) b) (level_found w a) (level_found w b) f y
level_found w (inside k n a) f (g, y, e) = let m = level_found w a g y in (m.0, (g, m.1, e))
level_found w (unique k n a) f (g, y, e) = let m = level_found w a g y in (m.0, (g, m.1, e))
level_found w (field k size a) f (sized (g, y, e)) = let m = level_found w a g y in (m.0, sized (g, m.1, e))
level_found w (buffer size a n c) f (without_size i e) = (0, without_size i e)
level_found w (buffer size a n c) f (without_room i h r e) = (0, without_room i h r e)
level_found w (buffer size a n c) f (with_room i l h (g, (items, unused, y, u, d), e)) =
    let m = level_found w a items y in (m.0, with_room i l h (g, (items, unused, m.1, u, d), e))
level_found w (optional size v None) f y = (0, y)
level_found w (optional size v (Some x)) f (sized (g, y, e)) =
    let m = level_found w (v x) g y in (m.0, sized (g, m.1, e))
level_found w (each v xs) f y = each_found (λ k j x. means_level (levels_more w k j) (v x)) (λ x. level_found w (v x))
    xs f y
level_found w (unordered v xs) f y =
    let m = each_found (λ k j x. means_level (levels_more w k j) (v x)) (λ x. level_found w (v x)) y.0 f y.2 in
    (m.0, (y.0, y.1, m.1))

-- What has a number of levels has one level more than its parts.
one_level : {T : Type 0} (w : T → Level T) (x : T) (k : ℕ) (f : Forest) → levels_shown w k x f → ShowsContents f →
    IsDeclared (level_shows (recursive w) (w x))
one_level w x zero f z c = absurd z
one_level w x (suc k) f z c =
    let up : (v : _) → Means false (levels_shown w k v) (recursive w v) =
    λ v. loosely (λ g h. record { depth = k; shown = h }) in
    (f, (means_level up (w x)).means f z, c)

-- What means one level of a value, whose children have any number of levels, means the value.
pub means_recursive : {T : Type 0} {e : Bool} {w : T → Level T} {x : T} {p : Showing} →
    Means e p (level_shows (recursive w) (w x)) → Means e p (recursive w x)
means_recursive {w = w} {x = x} m = record {
  means = λ f y. let k = level_found w (w x) f (m.means f y) in record { depth = suc k.0; shown = k.1 };
  declared = λ h d. m.declared h (one_level w x d.1.depth d.0 d.1.shown d.2);
}

-- What means one level of what `out` opens means the value t whose level it is.
pub means_opened : {T A O : Type 0} {e : Bool} {w : T → Level T} {t : T} (out : A → O) (v : O → Level T) {x : A} {o : O}
    {p : Showing} → w t ≡ opened out v x → out x ≡ o → Means e p (level_shows (recursive w) (v o)) →
    Means e p (recursive w t)
unfolding opened
means_opened {e = e} {w = w} out v {p = p} at is m =
    means_recursive (subst (λ l. Means e p (level_shows (recursive w) l)) (sym at)
    (subst (λ o. Means e p (level_shows (recursive w) (v o))) (sym is) m))
