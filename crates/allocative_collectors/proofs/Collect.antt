-- The parts of a flame graph's collector after each step: an entry, a visitor that is entered or left, an identity
-- that is met.
use Rattle.std.proofs.Common.{◌≡◌, ℕ, ◌+◌, ◌^◌, ◌<◌, Bool, true, false, cond, not, ◌&&◌, ◌==◌, List, [], rules, ◌∷◌}
use Rattle.std.proofs.Common.{◌++◌, map, reverse, length, refl, sym, ap, ◌∙◌, arith, length-append, ◌↔◌}
use Rattle.allocative_collectors.proofs.Common.{contains, Key, Path, Live, go, leave_live, enter_live, Listed, path_at}
use Rattle.allocative_collectors.proofs.Common.{map_of, live, IsPlaced, map-append, length-map, nil_from_length}
use Rattle.allocative_collectors.proofs.Common.{nat_tests, list_any, IsAbove, reverse-append, length-reverse}
use Rattle.std.specs.FinSet.{from_list, insert, same_set, contains-from_list, contains-insert}
use Rattle.allocative_graph.proofs.Sums.{bytes_entered-empty}
use Rattle.allocative_graph.specs.Identity.{Identity, identity_cmp, is_same_identity}
use Rattle.allocative_graph.specs.Forest.{Entry}
use Rattle.allocative_graph.specs.Sums as bag
use Rattle.allocative_graph.proofs.Basics.{identity_total, identity_antisymmetric, same_identity_turned}
use Rattle.allocative_collectors.specs.Places.{to_root, outside, back_from, back_at, AddedAt}
use Rattle.allocative_collectors.proofs.Arena.{bytes_more, length_entered, path_entered, map_of-entered, mark_of}
use Rattle.allocative_collectors.proofs.Arena.{map_same, not_nil}

-- ---- the identities
-- equal in both parts
abbrev is_equal : Identity → Identity → Bool
is_equal i j = i.maker == j.maker && i.number == j.number

-- Both parts of two identities are equal exactly if the identities are the same.
one_identity : (i j : Identity) → is_equal i j ≡ is_same_identity i j
one_identity i j = grind (arith, nat_tests)

-- An identity equals one of a list exactly if the set of the list contains it.
among : (is : List Identity) (q : Identity) → list_any (is_equal q) is ≡ contains (from_list {R = identity_cmp} is) q
among is q = (λ k. list_any (λ i. one_identity q i k) is) ∙ sym (contains-from_list identity_total is q)

-- the set of the identities after one was inserted
pub met_more : (old new : List Identity) (i : Identity) →
    ((q : Identity) → list_any (is_equal q) new ≡ cond (is_equal i q) true (list_any (is_equal q) old)) →
    from_list {R = identity_cmp} new ≡ insert (from_list old) i
met_more old new i more = same_set identity_total identity_antisymmetric _ _ (λ q.
    let one = one_identity i q ∙ same_identity_turned i q in
    let set = contains-insert identity_total (from_list old) i q in
    grind (arith, nat_tests, more q, among new q, among old q, one, set))

-- If `new` says whether a list lacks i, the set of the list contains i exactly if `new` is false.
pub met_is : (ks : List Identity) (i : Identity) (new : Bool) → new ≡ not (list_any (is_equal i) ks) →
    contains (from_list {R = identity_cmp} ks) i ≡ not new
met_is ks i new e = sym (among ks i) ∙ grind arith

-- ---- going down and back
-- Above a path with one more key are the path itself and then the paths above it.
outside_push : (p : Path) (k : Key) → outside (p ++ k ∷ []) ≡ p ∷ outside p
outside_push [] k = refl
outside_push (x ∷ p) k = ap (λ (l : List Path). map (λ (q : Path). x ∷ q) l ++ [] ∷ []) (outside_push p k)

module _ (t : Listed) (met : List Identity) where
  -- a node and the one above it
  one_up : (outer inner : ℕ) (places : List ℕ) (rooted : Bool) (k : Key) →
      path_at t inner ≡ path_at t outer ++ k ∷ [] →
      back_at t inner places rooted ≡ path_at t outer ∷ back_at t outer places rooted
  one_up outer inner places rooted k path = rw (path, outside_push (path_at t outer) k) refl

  -- back to the node above
  pub came_up : (places : List ℕ) (rooted : Bool) {inner outer : ℕ} → IsAbove t inner outer →
      live t met outer places rooted ≡ leave_live (live t met inner places rooted)
  came_up places rooted {inner} {outer} above =
      rw (one_up outer inner places rooted above.key above.path) refl

  -- A root visitor at the root is where the collector began.
  pub at_root : (current : ℕ) → path_at t current ≡ [] →
      live t met current [] true ≡ go [] (live t met current [] false)
  at_root current root = rw root refl

-- a content that was met for the first time
pub gone_in : (t : Listed) (met now : List Identity) (current : ℕ) (places : List ℕ) (rooted : Bool) (i : Identity) →
    path_at t 0 ≡ []
    → from_list {R = identity_cmp} now ≡ insert (from_list met) i →
    live t now 0 (places ++ current ∷ []) rooted
    ≡ go [] (record (live t met current places rooted) { met = insert (from_list met) i })
gone_in t met now current places rooted i root one_new =
    let turned = reverse-append (map (path_at t) places) (path_at t current ∷ []) in
    rw (root, one_new, map-append (path_at t) places (current ∷ []), turned) refl

-- ---- no visitor is open
-- If there is no path to go back to, the current one is the root, and no content and no root visitor is open.
none_back : (p : Path) (ps : List Path) (rooted : Bool) → length (outside p ++ back_from ps (to_root rooted)) ≡ 0 →
    (p ≡ []) × (length ps ≡ 0) × (rooted ≡ false)
none_back [] [] true e = absurd (omega arith)
none_back [] [] false e = (refl, refl, refl)
none_back [] (p ∷ ps) rooted e = absurd (omega arith)
none_back (k ∷ p) ps rooted e =
    let all = length-append (outside (k ∷ p)) (back_from ps (to_root rooted)) in
    absurd (omega (arith, e, length-append (map (λ (q : Path). k ∷ q) (outside p)) ([] ∷ [])))

-- the current place is the root, and no content and no root visitor is open
pub record IsOut (t : Listed) (current : ℕ) (places : List ℕ) (rooted : Bool) : Type 0 where
  pub root : path_at t current ≡ []
  pub no_place : places ≡ []
  pub no_visitor : rooted ≡ false

-- No visitor is open exactly then.
pub closed_is : (t : Listed) (met : List Identity) (current : ℕ) (places : List ℕ) (rooted : Bool) {v : Live} →
    live t met current places rooted ≡ v → (v.open_visitors ≡ 0) ↔ IsOut t current places rooted
closed_is t met current places rooted view =
    let visitors = ap (λ (v : Live). v.open_visitors) view in (
      (λ none.
          let out = none_back (path_at t current) (reverse (map (path_at t) places)) rooted (visitors ∙ none) in
          record {
            root = out.0;
            no_place = nil_from_length places
                (omega (arith, out.1, length-reverse (map (path_at t) places), length-map places (path_at t)));
            no_visitor = out.2;
          }),
      (λ o. sym visitors ∙ rw (o.root, o.no_place, o.no_visitor) refl),
    )

-- ---- a whole step
-- Adding an entry to the sums and going down to its path is the same as entering it.
pub enter_is : (u : Bool) (k : Key) (n : ℕ) (c : Live) →
    go (c.here ++ k ∷ []) (record c {
      sums = bag.add c.sums
          (record { path = c.here ++ k ∷ []; size = n; mark = mark_of u });
    }) ≡ enter_live u k n c
enter_is true k n c = refl
enter_is false k n c = refl

module _ {t new : Listed} {current : ℕ} {places : List ℕ} {n : ℕ} (ok : IsPlaced t current places n) {k : Key}
    {size : ℕ} {u : Bool} {more node : ℕ} (entered : AddedAt t new current k size u n more node) where
  -- the entry in the bag
  abbrev one : Entry
  one = record { path = path_at t current ++ k ∷ []; size = size; mark = mark_of u }

  -- the current place may stay or be that of the entry
  pub placed_added : (now : ℕ) → now < length new → IsPlaced new now places more
  placed_added now within =
      let longer = length_entered entered.is in
      let more = bytes_more entered.is ok.rooted in
      let root = path_entered entered.is 0 ok.rooted in
      search (rules, arith)

  module _ (met : List Identity) (rooted : Bool) where
    -- The entry is added to the sums, and nothing else changes.
    pub live_added : live new met current places rooted
        ≡ record (live t met current places rooted) { sums = bag.add (map_of t) one }
    live_added = cc (map_of-entered entered.is ok.rooted, path_entered entered.is current ok.here, back)
      where
        back : back_at new current places rooted ≡ back_at t current places rooted
        back = rw (
          path_entered entered.is current ok.here,
          map_same (path_at new) (path_at t) places
              (λ j h. path_entered entered.is _ (ok.back j h)),
        ) refl

    module _ {v : Live} (view : live t met current places rooted ≡ v) where
      -- The entry fits what was entered.
      pub fits_map : bag.bytes_entered v.sums + size < 2 ^ 63
      fits_map = omega (arith, ok.entered_is, entered.fits, ap (λ (c : Live). bag.bytes_entered c.sums) view)

      -- With a visitor at the entry, the collector is as after entering it.
      pub gone_down : live new met node places rooted ≡ enter_live u k size v
      gone_down =
          let path = entered.is.path ∙ ap (λ (q : Path). q ++ k ∷ []) (sym (path_entered entered.is current ok.here)) in
          let down : live new met node places rooted ≡ go (path_at new node) (live new met current places rooted) =
          rw (one_up new met current node places rooted k path) refl in
          down ∙ (λ i. go (entered.is.path i) (live_added i))
          ∙ enter_is u k size (live t met current places rooted)
          ∙ ap (enter_live u k size) view

-- Nothing is entered at first.
pub ruleset nothing_entered = (bytes_entered-empty)

-- What shows that a visitor was left.
pub ruleset closing = (closed_is, not_nil, nil_from_length)
