-- How visits that refuse only if they must compose: one after another, inside an entry, and as a shared content.
use Rattle.std.proofs.Common.{◌≡◌, ◌↔◌, ℕ, ◌+◌, ◌<◌, ◌^◌, Bool, true, false, ◌&&◌, IsTrue, List, [], ◌∷◌, ◌++◌, flat_map, suc, length, get_or, take, drop}
use Rattle.std.proofs.Common.{Option, Some, None, inl, inr, Result, Ok, Err, refl, sym, ◌∙◌, ap, subst, arith}
use Rattle.allocative.proofs.Common.{Restore, Refusal, Memory, TooLarge, Key, Identity, Forest, Empty, First, Again}
use Rattle.allocative.proofs.Common.{followed_by, entry_of, add_all, Live, Kind, OfGraph, OfSum, State, Failed, Going}
use Rattle.allocative.proofs.Common.{plus, enter, enter_first, is_graph, outer_of, leave, failed_with, Showing}
use Rattle.allocative.proofs.Common.{Nothing, Both, InsideAs, Inside, sized, Field, IsField, Shared, each_shows, HasFailed}
use Rattle.allocative.proofs.Common.{OpensEntry, stays_failed, is_refused, is_entered, OpensShared, stays_shared}
use Rattle.allocative.proofs.Common.{is_refused_shared, enters_first, enters_again, all_bytes, HasRoomFor}
use Rattle.allocative.proofs.Common.{ShowsContents, IsDeclared, CanTake, MayRefuse, FailsOnlyIfFull, has_added}
use Rattle.allocative.proofs.Common.{has_refused, ClosesEntry, is_too_large_shared, counts}
use Rattle.std.proofs.Math.Seq.{split_at}
use Rattle.std.proofs.lemmas.Bool.{false≢true, and_parts}
use Rattle.std.proofs.lemmas.Grind.{flat_map-append}
use Rattle.allocative_graph.specs.declared.refusal.Refusal.TheVariants.{Open}
use Rattle.allocative_graph.specs.Path.{Path}
use Rattle.allocative_graph.specs.Forest.{Inline, Unique, Bag, own_behind, contents, content_entries}
use Rattle.allocative_graph.specs.Sums.{Sums, bytes_entered, add}
use Rattle.allocative_graph.specs.Collector.{entries_at, plus_live}
use Rattle.allocative_graph.specs.Visits.{HasRoom, Refuses}
use Rattle.allocative_graph.proofs.Sums.{bytes_entered-add}
use Rattle.allocative_graph.proofs.Showings.{own-following, contents-following}
use Rattle.allocative_graph.proofs.Plus.{plus-nothing, plus-following, takes_nothing, takes_both, inside_entry}
use Rattle.allocative_graph.proofs.Plus.{takes_entry, inside_first, takes_shared, counted_again, forest_bytes-again}
use Rattle.allocative_graph.proofs.Plus.{forest_bytes-following, forest_bytes-entry, is_graph-plus, is_graph-enter}
use Rattle.allocative.specs.Strict.{FitsWords, had_failed}

-- ---- the bytes of all entries
abbrev bag_bytes : Bag → ℕ
bag_bytes [] = 0
bag_bytes (e ∷ b) = e.size + bag_bytes b

-- Adding a bag to sums adds its bytes to all bytes entered.
bytes_entered-add_all : (s : Sums) (b : Bag) → bytes_entered (add_all s b) ≡ bytes_entered s + bag_bytes b
bytes_entered-add_all s [] = omega arith
bytes_entered-add_all s (e ∷ b) = omega (arith, bytes_entered-add_all (add s e) b, bytes_entered-add s e)

-- The bytes of two bags one after the other add up.
bag-append : (a b : Bag) → bag_bytes (a ++ b) ≡ bag_bytes a + bag_bytes b
bag-append [] b = omega arith
bag-append (e ∷ a) b = omega (arith, bag-append a b)

-- The bytes of the contents of two forests, listed one after the other, add up.
contents-append : (f g : Forest) → bag_bytes (flat_map (λ c. c.1) (contents f ++ contents g))
    ≡ bag_bytes (content_entries f) + bag_bytes (content_entries g)
contents-append f g = ap bag_bytes (flat_map-append (λ c. c.1) (contents f) (contents g))
    ∙ bag-append (content_entries f) (content_entries g)

-- The bytes of a forest's own entries, behind any path, and those of its contents are all its bytes.
bytes_of_all : (p : Path) (f : Forest) → bag_bytes (own_behind p f) + bag_bytes (content_entries f) ≡ all_bytes f
bytes_of_all p Empty = refl
bytes_of_all p (Inline k n inside after) =
    omega (arith, bag-append, contents-append inside after, bytes_of_all (p ++ k ∷ []) inside, bytes_of_all p after)
bytes_of_all p (Unique k n inside after) =
    omega (arith, bag-append, contents-append inside after, bytes_of_all (p ++ k ∷ []) inside, bytes_of_all p after)
bytes_of_all p (First k n i inside after) =
    omega (arith, bag-append, contents-append inside after, bytes_of_all [] inside, bytes_of_all p after)
bytes_of_all p (Again k n i after) = omega (arith, bytes_of_all p after)

-- A forest that is added to the collector of a flame graph adds all its bytes to those entered.
pub bytes_entered-plus : (c : Live) (f : Forest) →
    bytes_entered (plus_live c f).sums ≡ bytes_entered c.sums + all_bytes f
bytes_entered-plus c f = bytes_entered-add_all c.sums (entries_at c.here f)
    ∙ ap (λ n. bytes_entered c.sums + n) (bag-append (own_behind c.here f) (content_entries f) ∙ bytes_of_all c.here f)

-- All bytes of two forests one after the other add up.
all_bytes-following : (f g : Forest) → all_bytes (followed_by f g) ≡ all_bytes f + all_bytes g
all_bytes-following f g =
    let own = ap bag_bytes (own-following [] f g) ∙ bag-append (own_behind [] f) (own_behind [] g) in
    let shared = ap (λ cs. bag_bytes (flat_map (λ c. c.1) cs)) (contents-following f g) ∙ contents-append f g in
    omega (arith, own, shared, bytes_of_all [] (followed_by f g), bytes_of_all [] f, bytes_of_all [] g)

-- ---- room
-- If two forests one after the other fit words, with so many visitors open, each of them does.
pub words_both : (o : ℕ) (f g : Forest) → FitsWords o (followed_by f g) → FitsWords o f × FitsWords o g
words_both o Empty g h = (tt, h)
words_both o (Inline k n f after) g h = let r = words_both o after g h.3 in ((h.0, h.1, h.2, r.0), r.1)
words_both o (Unique k n f after) g h = let r = words_both o after g h.3 in ((h.0, h.1, h.2, r.0), r.1)
words_both o (First k n i f after) g h = words_both o after g h
words_both o (Again k n i after) g h = words_both o after g h

-- What is added first has room, and what comes after it has room then.
room_apart : (b : Kind) (f g : Forest) → HasRoomFor b (followed_by f g) → HasRoomFor b f × HasRoomFor (plus b f) g
room_apart (OfGraph c) f g h = grind (arith, all_bytes-following f g, bytes_entered-plus c f)
room_apart (OfSum s) f g h = grind (arith, forest_bytes-following s.figure f g, words_both s.open_visitors f g)

-- An entry's bytes fit a word, it has room, and so has then what is inside it.
room_within : (u : Bool) (k : Key) (n : ℕ) (b : Kind) (f : Forest) → HasRoomFor b (entry_of u k n f) →
    (n < 2 ^ 64) × HasRoom u n b × HasRoomFor (enter u k n b) f
room_within true k n (OfGraph c) f h = grind (arith, bytes_entered-plus c (Unique k n Empty Empty))
room_within false k n (OfGraph c) f h = grind (arith, bytes_entered-plus c (Inline k n Empty Empty))
room_within true k n (OfSum s) f h = grind (arith, forest_bytes-entry s.figure true k n f)
room_within false k n (OfSum s) f h = grind (arith, forest_bytes-entry s.figure false k n f)

-- ---- contents
-- What holds in front of a pair holds in front of its first part.
in_front : {A B C D : Type 0} → C ↔ (A × B) → (D × C) ↔ ((D × A) × B)
in_front r = (λ h. let w = r.0 h.1 in ((h.0, w.0), w.1), λ h. (h.0.0, r.1 (h.0.1, h.1)))

-- Two forests one after the other show all their contents exactly if each of them does.
contents_both : (f g : Forest) → ShowsContents (followed_by f g) ↔ (ShowsContents f × ShowsContents g)
contents_both Empty g = (λ h. (tt, h), λ h. h.1)
contents_both (Inline k n f after) g = in_front (contents_both after g)
contents_both (Unique k n f after) g = in_front (contents_both after g)
contents_both (First k n i f after) g = in_front (contents_both after g)
contents_both (Again k n i after) g = (λ h. absurd h, λ h. absurd h.0)

-- ---- what is declared
-- A showing of no entry is declared.
pub declared_nothing : IsDeclared Nothing
declared_nothing = (Empty, refl, tt)

-- If two showings one after the other are declared, the first is.
pub declared_first : {p q : Showing} → IsDeclared (Both p q) → IsDeclared p
declared_first (f, (g, h, x, y, e), s) = (g, x, ((contents_both g h).0 (rw e at s)).0)

-- If two showings one after the other are declared, the second is.
pub declared_second : {p q : Showing} → IsDeclared (Both p q) → IsDeclared q
declared_second (f, (g, h, x, y, e), s) = (h, y, ((contents_both g h).0 (rw e at s)).1)

-- If two showings are declared, so are both one after the other.
pub declared_both : {p q : Showing} → IsDeclared p → IsDeclared q → IsDeclared (Both p q)
declared_both (f, x, s) (g, y, t) = (followed_by f g, (f, g, x, y, refl), (contents_both f g).1 (s, t))

-- If an entry with p inside it is declared, p is.
pub declared_inside : (u : Bool) (k : Key) (n : ℕ) {p : Showing} → IsDeclared (InsideAs u k n p) → IsDeclared p
declared_inside true k n (f, (g, x, e), s) = (g, x, (subst ShowsContents e s).0)
declared_inside false k n (f, (g, x, e), s) = (g, x, (subst ShowsContents e s).0)

-- If p is declared, so is an entry with p inside it.
pub declared_entry : (u : Bool) (k : Key) (n : ℕ) {p : Showing} → IsDeclared p → IsDeclared (InsideAs u k n p)
declared_entry true k n (f, x, s) = (entry_of true k n f, (f, x, refl), (s, tt))
declared_entry false k n (f, x, s) = (entry_of false k n f, (f, x, refl), (s, tt))

-- If a shared entry with p as its content is declared, p is.
pub declared_content : (k : Key) (n : ℕ) (i : Identity) {p : Showing} → IsDeclared (Shared k n i p) → IsDeclared p
declared_content k n i (f, inl (g, x, e), s) = (g, x, (subst ShowsContents e s).0)
declared_content k n i (f, inr e, s) = absurd (subst ShowsContents e s)

-- If p is declared, so is a shared entry with p as its content.
pub declared_shared : (k : Key) (n : ℕ) (i : Identity) {p : Showing} → IsDeclared p → IsDeclared (Shared k n i p)
declared_shared k n i (g, x, s) = (First k n i g Empty, inl (g, x, refl), (s, tt))

-- ---- what can be added
-- A collector that can take two showings one after the other can take the first.
pub can_first : {p q : Showing} (b : Kind) → CanTake b (Both p q) → CanTake b p
can_first b (d, room) =
    let r = declared_second d in
    (declared_first d, λ f x. (room_apart b f r.0 (room (followed_by f r.0) (f, r.0, x, r.1, refl))).0)

-- A collector that can take p and then q can take q once a forest of p is added.
pub can_second : {p q : Showing} (b : Kind) (f : Forest) → p f → CanTake b (Both p q) → CanTake (plus b f) q
can_second b f x (d, room) =
    (declared_second d, λ g y. (room_apart b f g (room (followed_by f g) (f, g, x, y, refl))).1)

-- A collector that can take an entry with p inside it has room for the entry, whose bytes fit a word.
can_entry : {p : Showing} (u : Bool) (k : Key) (n : ℕ) (b : Kind) → CanTake b (InsideAs u k n p) →
    (n < 2 ^ 64) × HasRoom u n b
can_entry u k n b (d, room) =
    let r = declared_inside u k n d in
    let w = room_within u k n b r.0 (room (entry_of u k n r.0) (r.0, r.1, refl)) in
    (w.0, w.1)

-- If the collector of a flame graph can take a shared entry, it can take the content once the entry is opened.
can_content : {p : Showing} (k : Key) (n : ℕ) (i : Identity) (c : Live) → CanTake (OfGraph c) (Shared k n i p) →
    CanTake (OfGraph (enter_first k n i c)) p
can_content k n i c (d, room) = (
  declared_content k n i d,
  λ f x. let h = room (First k n i f Empty) (inl (f, x, refl)) in
      omega (arith, h, bytes_entered-plus c (First k n i Empty Empty)),
)

-- ---- why a visit may be refused
-- If b takes p whenever c takes q, and both or neither make a graph, what may refuse p at b may refuse q at c.
pub may_refuse : {p q : Showing} (b c : Kind) → (CanTake c q → CanTake b p) → is_graph c ≡ is_graph b → (e : Refusal) →
    MayRefuse p b e → MayRefuse q c e
may_refuse b c up same Memory m = same ∙ m
may_refuse b c up same TooLarge m = λ x. m (up x)
may_refuse b c up same Open m = m

-- If a collector refuses an entry with e, a visit that shows the entry may be refused with e.
entry_refuses : (p : Showing) (u : Bool) (k : Key) (n : ℕ) (b : Kind) (e : Refusal) → Refuses u n b e →
    MayRefuse (InsideAs u k n p) b e
entry_refuses p u k n (OfGraph c) e (inl (i, h)) = rw i (λ w. omega (arith, h, (can_entry u k n (OfGraph c) w).1))
entry_refuses p u k n (OfGraph c) e (inr (i, h)) = rw i refl
entry_refuses p u k n (OfSum s) e (i, inl h) = rw i (λ w. omega (arith, h, (can_entry u k n (OfSum s) w).1.0))
entry_refuses p u k n (OfSum s) e (i, inr h) = rw i (λ w. omega (arith, h, (can_entry u k n (OfSum s) w).1.1))

-- ---- visits
-- A visit that shows nothing, changes nothing and returns Ok fails only if full.
pub only_if_full_nothing : (s : State) (u : Unit) → FailsOnlyIfFull Nothing s (Ok u) s
only_if_full_nothing (Failed r) u = had_failed
only_if_full_nothing (Going b) u = has_added Empty refl (takes_nothing b) (sym (plus-nothing b))

-- What fails as p only if full does so as q, if p allows no more than q, and is declared if q can be added.
pub only_if_full_as : {p q : Showing} {a b : State} {r : Result Unit Refusal} → ((f : Forest) → p f → q f) →
    ((k : Kind) → CanTake k q → IsDeclared p) → FailsOnlyIfFull p a r b → FailsOnlyIfFull q a r b
only_if_full_as up down had_failed = had_failed
only_if_full_as up down (has_added f x t e) = has_added f (up f x) t e
only_if_full_as up down (has_refused {b = b} {e = e} m) =
    has_refused (may_refuse b b (λ w. (down b w, λ f x. w.1 f (up f x))) refl e m)

-- What fails as p only if full does so as q, if q allows all that p allows, and p is declared when q is.
pub only_if_full_weaker : {p q : Showing} {a b : State} {r : Result Unit Refusal} → ((f : Forest) → p f → q f) →
    (IsDeclared q → IsDeclared p) → FailsOnlyIfFull p a r b → FailsOnlyIfFull q a r b
only_if_full_weaker up down = only_if_full_as up (λ k w. down w.0)

-- The bytes of an entry that can be added fit a word.
pub entry_fits : {p : Showing} (u : Bool) (k : Key) (n : ℕ) (b : Kind) → CanTake b (InsideAs u k n p) → n < 2 ^ 64
entry_fits u k n b w = (can_entry u k n b w).0

-- A visit of p that returns Ok, followed by one of q, fails only if full, if each of the two does.
pub only_if_full_both : {p q : Showing} {a b c : State} {u : Unit} {r : Result Unit Refusal} →
    FailsOnlyIfFull p a (Ok u) b → FailsOnlyIfFull q b r c → FailsOnlyIfFull (Both p q) a r c
only_if_full_both had_failed s = had_failed
only_if_full_both (has_added {b = b} f x t e) (has_added g y s k) =
    has_added (followed_by f g) (f, g, x, y, refl) (takes_both b f g t (rw e at s)) (cc (plus-following b f g))
only_if_full_both (has_added {b = b} f x t e) (has_refused {e = r} m) =
    has_refused (may_refuse (plus b f) b (can_second b f x) (sym (is_graph-plus b f)) r (rw e at m))

-- If a visit of p returns Err and fails only if full, it fails only if full as a visit of p and then q.
pub only_if_full_first : {p q : Showing} {a b : State} {e : Refusal} → FailsOnlyIfFull p a (Err e) b →
    FailsOnlyIfFull (Both p q) a (Err e) b
only_if_full_first had_failed = had_failed
only_if_full_first (has_refused {b = b} {e = e} m) = has_refused (may_refuse b b (can_first b) refl e m)

-- If an entry was opened, and the visit inside it fails only if full, so does the visit of the entry.
pub only_if_full_within : {u : Bool} {p : Showing} {k : Key} {n : ℕ} {o : Restore} {s t c d : State}
    {r : Result Unit Refusal} →
    OpensEntry u k (Some n) s (Ok o) t → FailsOnlyIfFull p t r c → ClosesEntry o c d →
    FailsOnlyIfFull (InsideAs u k n p) s r d
only_if_full_within {u} {k = k} {n = n} (is_entered {b = b} h f e) (has_added {c = c} g x t i) l =
    rw (l.closes, f) (has_added {c = leave (outer_of n b) c} (entry_of u k n g) (g, x, refl)
    (takes_entry u k n b g (rw e at t)) (cc (inside_entry u k n b g)))
only_if_full_within {u} {k = k} {n = n} (is_entered {b = b} h f e) (has_refused {e = r} m) l =
    rw l.closes (has_refused (may_refuse (enter u k n b) b (λ w.
    (declared_inside u k n w.0, λ f x. (room_within u k n b f (w.1 (entry_of u k n f) (f, x, refl))).2))
    (sym (is_graph-enter u k n b)) r (rw e at m)))

-- If opening an entry is refused, the visit that shows the entry fails only if full.
pub only_if_full_not_within : {u : Bool} {p : Showing} {k : Key} {n : ℕ} {s t : State} {e : Refusal} →
    OpensEntry u k (Some n) s (Err e) t → FailsOnlyIfFull (InsideAs u k n p) s (Err e) t
only_if_full_not_within stays_failed = had_failed
only_if_full_not_within {u} {k = k} {n = n} (is_refused {b = b} {e = e} h) = has_refused (entry_refuses _ u k n b e h)

-- If a field with a size is declared, so is the inline entry of that size.
in_sized : {k : Key} {n : ℕ} {p : Showing} → IsDeclared (Field k (Some n) p) → IsDeclared (Inside k n p)
in_sized (f, sized x, s) = (f, x, s)

-- If there is no size, there is no forest.
pub none_of_it : {k : Key} {p : Showing} {f : Forest} → IsField k p None f → ⊥
none_of_it h = elim h [ ]

-- If a visit fails only if full inside a field that is opened and closed, so does the visit of the field.
pub only_if_full_field : {p : Showing} {k : Key} {y : Option ℕ} {o : Restore} {s t c d : State}
    {r : Result Unit Refusal} →
    OpensEntry false k y s (Ok o) t → FailsOnlyIfFull p t r c → ClosesEntry o c d → FailsOnlyIfFull (Field k y p) s r d
only_if_full_field {y = None} g h e = elim g [ ]
only_if_full_field {y = Some n} g h e = only_if_full_weaker (λ f x. sized x) in_sized (only_if_full_within g h e)

-- If opening a field is refused, with or without a size, the visit of the field fails only if full.
pub only_if_full_not_field : {p : Showing} {k : Key} {y : Option ℕ} {s t : State} {e : Refusal} →
    OpensEntry false k y s (Err e) t → FailsOnlyIfFull (Field k y p) s (Err e) t
only_if_full_not_field stays_failed = had_failed
only_if_full_not_field {y = None} (is_refused i) = has_refused (rw i (λ w. none_of_it w.0.1))
only_if_full_not_field {k = k} {y = Some n} (is_refused h) =
    only_if_full_weaker (λ f x. sized x) in_sized (only_if_full_not_within {u = false} {k = k} (is_refused h))

-- If both of two visits have to be strict, the first has to be.
pub first_true : (d e : Bool) → IsTrue (d && e) → IsTrue d
first_true d e h = (and_parts d e h).0

-- If both of two visits have to be strict, the second has to be.
pub second_true : (d e : Bool) → IsTrue (d && e) → IsTrue e
second_true d e h = (and_parts d e h).1

-- ---- items one after another
-- A forest followed by no entry stays as it is.
pub followed_by-empty : (f : Forest) → followed_by f Empty ≡ f
followed_by-empty Empty = refl
followed_by-empty (Inline k n i a) = ap (Inline k n i) (followed_by-empty a)
followed_by-empty (Unique k n i a) = ap (Unique k n i) (followed_by-empty a)
followed_by-empty (First k n j i a) = ap (First k n j i) (followed_by-empty a)
followed_by-empty (Again k n j a) = ap (Again k n j) (followed_by-empty a)

-- Three forests one after another are the same forest, whichever two of them are joined first.
pub followed_by_assoc : (f g h : Forest) → followed_by (followed_by f g) h ≡ followed_by f (followed_by g h)
followed_by_assoc Empty g h = refl
followed_by_assoc (Inline k n i a) g h = ap (Inline k n i) (followed_by_assoc a g h)
followed_by_assoc (Unique k n i a) g h = ap (Unique k n i) (followed_by_assoc a g h)
followed_by_assoc (First k n j i a) g h = ap (First k n j i) (followed_by_assoc a g h)
followed_by_assoc (Again k n j a) g h = ap (Again k n j) (followed_by_assoc a g h)

-- A forest of the items of one list, followed by one of another list, is a forest of both lists joined.
pub each_append : {T : Type 0} (p : T → Showing) (xs ys : List T) (f : Forest) →
    Both (each_shows p xs) (each_shows p ys) f → each_shows p (xs ++ ys) f
each_append p [] ys f (g, h, none, rest, e) = subst (each_shows p ys) (sym (e ∙ rw none refl)) rest
each_append p (x ∷ xs) ys f (g, h, (g1, g2, first, more, e1), rest, e) =
    let rest' = each_append p xs ys (followed_by g2 h) (g2, h, more, rest, refl) in
    (g1, followed_by g2 h, first, rest', e ∙ rw e1 (followed_by_assoc g1 g2 h))

-- If the items of two lists joined are declared, so are those of one list followed by those of the other.
pub declared_append : {T : Type 0} (p : T → Showing) (xs ys : List T) → IsDeclared (each_shows p (xs ++ ys)) →
    IsDeclared (Both (each_shows p xs) (each_shows p ys))
declared_append p [] ys d = declared_both declared_nothing d
declared_append p (x ∷ xs) ys d =
    let r = declared_append p xs ys (declared_second d) in
    declared_both (declared_both (declared_first d) (declared_first r)) (declared_second r)

-- A forest of one item is a forest of the list that has only this item.
pub each_one : {T : Type 0} (p : T → Showing) (x : T) (f : Forest) → p x f → each_shows p (x ∷ []) f
each_one p x f h = (f, Empty, h, refl, sym (followed_by-empty f))

-- The list is the items before the one with this index, that item, and those after it.
pub around_item : {T : Type 0} (xs : List T) (i : ℕ) (x : T) → i < length xs → x ≡ get_or xs i x →
    take i xs ++ x ∷ drop (suc i) xs ≡ xs
around_item xs i x l e = (λ k. take i xs ++ e k ∷ drop (suc i) xs) ∙ sym (split_at xs i x l)

-- ---- a shared entry
-- If a visit fails only if full at a new content that is opened and closed, so does the visit of the shared entry.
pub only_if_full_content : {p : Showing} {k : Key} {n : ℕ} {i : Identity} {o : Restore} {s t c d : State}
    {r : Result Unit Refusal} →
    OpensShared k n i s (Ok true) t → FailsOnlyIfFull p t r c → ClosesEntry o c d →
    FailsOnlyIfFull (Shared k n i p) s r d
only_if_full_content {k = k} {n} {i} {o} (enters_first {c = b} room new e) (has_added {c = c} f x t j) m =
    rw m.closes (has_added {b = OfGraph b} {c = leave o c} (First k n i f Empty) (inl (f, x, refl))
    (takes_shared k n i b f new (rw e at t)) (cc (inside_first k n i b f o)))
only_if_full_content {k = k} {n} {i} (enters_first {c = b} room new e) (has_refused {e = r} w) m = rw m.closes
    (has_refused (may_refuse (OfGraph (enter_first k n i b)) (OfGraph b) (can_content k n i b) refl r (rw e at w)))

-- If the content of an opened shared entry is not to be shown, a visit that returns Ok then fails only if full.
pub only_if_full_again : {p : Showing} {k : Key} {n : ℕ} {i : Identity} {is_first : Bool} {s t : State} {x : Unit} →
    OpensShared k n i s (Ok is_first) t → is_first ≡ false → FailsOnlyIfFull (Shared k n i p) s (Ok x) t
only_if_full_again {k = k} {n = n} {i = i} (counts {a = a} r e) is =
    has_added (Again k n i Empty) (inr refl) tt (ap OfSum e ∙ sym (counted_again k n i a))
only_if_full_again {k = k} {n = n} {i = i} (enters_again {c = c} r h e) is =
    has_added (Again k n i Empty) (inr refl) (h, tt) (ap OfGraph e)
only_if_full_again (enters_first r h e) is = absurd (false≢true (sym is))

-- If opening a shared entry is refused, the visit that shows the entry fails only if full.
pub only_if_full_not_shared : {p : Showing} {k : Key} {n : ℕ} {i : Identity} {s t : State} {e : Refusal} →
    OpensShared k n i s (Err e) t → FailsOnlyIfFull (Shared k n i p) s (Err e) t
only_if_full_not_shared stays_shared = had_failed
only_if_full_not_shared {k = k} {n} {i} (is_refused_shared (inl (j, h))) =
    has_refused (rw j (λ w. omega (arith, h, w.1 (Again k n i Empty) (inr refl))))
only_if_full_not_shared (is_refused_shared (inr (j, h))) = has_refused (rw j refl)
only_if_full_not_shared {k = k} {n} {i} (is_too_large_shared {a = a} j h) = has_refused (rw j (λ w.
    omega (arith, h.1, (w.1 (Again k n i Empty) (inr refl)).0, forest_bytes-again a.figure k n i)))

-- Of a visit that is not strict nothing is asked.
pub not_strict : {p : Showing} {a b : State} {r : Result Unit Refusal} → IsTrue false → FailsOnlyIfFull p a r b
not_strict h = absurd (false≢true h)

-- ---- errors that are returned by hand
-- A visit that is refused, followed by refusing with the same error.
pub only_if_full_refused : {p : Showing} {a b : State} {y : Refusal} (c : State) (x : Refusal) →
    FailsOnlyIfFull p a (Err y) b → c ≡ failed_with y b → HasFailed c x → FailsOnlyIfFull p a (Err x) c
only_if_full_refused c x had_failed e h = had_failed
only_if_full_refused c x (has_refused {e = y} m) e h = let i : y ≡ x = cc in rw h (has_refused (rw i at m))

-- What is declared nowhere may be refused as TooLarge.
pub only_if_full_undeclared : {p : Showing} (a b : State) (e : Refusal) → (IsDeclared p → ⊥) →
    b ≡ failed_with TooLarge a → HasFailed b e → FailsOnlyIfFull p a (Err e) b
only_if_full_undeclared (Failed q) b e n i h = had_failed
only_if_full_undeclared {p} (Going k) b e n i h =
    let j : TooLarge ≡ e = cc in
    rw h (has_refused (subst (MayRefuse p k) j (λ w. n w.0)))
