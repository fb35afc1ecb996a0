-- Numbers in chunks as one list: reads, a number that is put in, a chunk that is cut in two, and what a search finds.
use Rattle.std.proofs.Common.{◌≡◌, ℕ, zero, suc, true, refl, ◌+◌, ◌-◌, ◌<◌, ◌≤◌, List, [], ◌∷◌, length, get_or, map}
use Rattle.std.proofs.Common.{Result, Ok, Err, Some, IfOk, IfErr, sym, ap, subst₂, ◌∙◌, arith, ◌++◌, length-append, set}
use Rattle.std.proofs.Common.{take, append_assoc, append-nil}
use Rattle.allocative_collectors.proofs.Common.{Less, Greater, is_lt, ordering_reverse, Key, key_cmp, key_in, KeysRise}
use Rattle.allocative_collectors.proofs.Common.{IsKeyGap, get_or-map, length-map, flat_map-append, Chunk, numbers_in}
use Rattle.allocative_collectors.proofs.Common.{keys_of, flat, before, chunk_at, slice_get, insert, Contains}
use Rattle.allocative_collectors.proofs.Common.{get_or_past, take_all, take-length, drop-length, Node, key_at}
use Rattle.std.specs.List.Sorted.{IsSearchInRange, IsBinarySearchResult, IsSortedBy}
use Rattle.std.proofs.lemmas.Option.{get_or_from_slice_get, slice_get_within, slice_get-get_or}
use Rattle.std.proofs.lemmas.List.Sorted.{searchable_from_sorted}
use Rattle.allocative_collectors.proofs.Arena.{key_total, key_same}
use Rattle.std.proofs.lemmas.List.Concat.{get_or-flat_map, length-flat_map}
use Rattle.std.proofs.lemmas.List.Folds.{length-flat_map-take}
use Rattle.std.proofs.lemmas.List.Sums.{sum_by_more}
use Rattle.std.proofs.lemmas.List.Edits.{insert-append_left, insert-append_right}

-- ---- what a comparison with one key says of the others, if keys rise
module _ (ks : List Key) (rise : KeysRise ks) (k : Key) where
  smaller_up_to : (m : ℕ) → m < length ks → key_cmp (key_in ks m) k ≡ Less → (j : ℕ) → j < m + 1 →
      key_cmp (key_in ks j) k ≡ Less
  smaller_up_to m h less j lt = grind (arith, less, key_total.trans (key_in ks j) (key_in ks m) k, rise j m)

  -- a key belongs at a place if the key there is greater, and those before are smaller
  gap_here : (n : ℕ) → n < length ks → key_cmp (key_in ks n) k ≡ Greater →
      ((j : ℕ) → j < n → key_cmp (key_in ks j) k ≡ Less) → IsKeyGap ks k n
  gap_here n h greater less = record {
    in_range = omega arith;
    smaller_before = less;
    greater_after = λ j le hj.
        let before = key_total.antisymm k (key_in ks n) in
        let after = key_total.antisymm (key_in ks j) k in
        grind (arith, before, after, key_total.trans k (key_in ks n) (key_in ks j), rise n j);
  }

module _ (ns : List Node) (xs : List ℕ) where
  -- the key of a number that is read
  key_read : (j n : ℕ) → slice_get xs j ≡ Some n →
      (j < length (keys_of ns xs)) × (key_in (keys_of ns xs) j ≡ key_at ns n)
  key_read j n is =
      let within = slice_get_within xs j n is in
      let key = get_or-map (key_at ns) xs j 0 [] within ∙ ap (key_at ns) (get_or_from_slice_get xs j n 0 is) in
      (omega (arith, length-map xs (key_at ns)), key)

  module _ (rise : KeysRise (keys_of ns xs)) (k : Key) where
    -- A key after that of the last number belongs behind the numbers.
    pub behind_last : (p n : ℕ) → p ≡ length xs → slice_get xs (length xs - 1) ≡ Some n →
        is_lt (key_cmp (key_at ns n) k) ≡ true → IsKeyGap (keys_of ns xs) k p
    behind_last p n behind last lt =
        let count = length-map xs (key_at ns) in
        let there = key_read (length xs - 1) n last in
        let less : key_cmp (key_at ns n) k ≡ Less = grind arith in
        record {
          in_range = omega arith;
          smaller_before = λ j h. smaller_up_to (keys_of ns xs) rise k (length xs - 1) there.0
              (ap (λ (l : Key). key_cmp l k) there.1 ∙ less) j (omega arith);
          greater_after = λ j le h. absurd (omega arith);
        }

    -- A key belongs at the place of a number with a greater key, if the number before has a smaller one.
    pub gap_at : (j n : ℕ) → slice_get xs j ≡ Some n → key_cmp (key_at ns n) k ≡ Greater →
        ((m : ℕ) → j ≡ m + 1 → key_cmp (key_at ns (get_or xs m 0)) k ≡ Less) → IsKeyGap (keys_of ns xs) k j
    gap_at j n is greater smaller =
        let there = key_read j n is in
        let order = λ (l : Key). key_cmp l k in
        gap_here (keys_of ns xs) rise k j there.0 (ap order there.1 ∙ greater)
        (λ i lt. smaller_up_to (keys_of ns xs) rise k (j - 1) (omega (arith, there.0))
        (ap order (get_or-map (key_at ns) xs (j - 1) 0 [] (omega (arith, there.0, length-map xs (key_at ns))))
        ∙ smaller (j - 1) (omega arith)) i (omega arith))

    sorted : IsSortedBy (λ (a b : ℕ). is_lt (key_cmp (key_at ns a) (key_at ns b))) xs
    sorted i d low high =
        let count = length-map xs (key_at ns) in
        let up = subst₂ (λ a b. key_cmp a b ≡ Less) (get_or-map (key_at ns) xs i d [] (omega arith))
        (get_or-map (key_at ns) xs (i + 1) d [] (omega arith)) (rise i (i + 1) (omega arith) (omega arith)) in
        ap is_lt (key_total.antisymm (key_at ns (get_or xs (i + 1) d)) (key_at ns (get_or xs i d))
        ∙ ap ordering_reverse up)

    -- What a binary search by the keys finds.
    pub searched : (r : Result ℕ ℕ) → IsSearchInRange r (length xs) →
        IsBinarySearchResult (λ x. key_cmp (key_at ns x) k) xs r →
        IfOk r (λ i. (i < length xs) × (key_at ns (get_or xs i 0) ≡ k)) × IfErr r (IsKeyGap (keys_of ns xs) k)
    searched (Ok i) within equal = ((within, key_same _ _ (equal 0)), tt)
    searched (Err i) within parted =
        let count = length-map xs (key_at ns) in
        let rises = searchable_from_sorted key_total (key_at ns) xs k sorted in
        let order = λ (l : Key). key_cmp l k in (
          tt,
          record {
            in_range = omega arith;
            smaller_before = λ j h. ap order (get_or-map (key_at ns) xs j 0 [] (omega arith))
                ∙ (parted rises).0 j 0 (omega arith) h;
            greater_after = λ j le h. ap order (get_or-map (key_at ns) xs j 0 [] (omega arith))
                ∙ (parted rises).1 j 0 le (omega arith);
          },
        )

-- ---- reads
-- A number that is read is in the list.
pub stands : (xs : List ℕ) (j n : ℕ) → slice_get xs j ≡ Some n → Contains xs n
stands xs j n is = (j, slice_get_within xs j n is, get_or_from_slice_get xs j n n is)

-- All numbers come before a place behind the last chunk.
pub before_all : (cs : List Chunk) (i : ℕ) → length cs ≤ i → before cs i ≡ length (flat cs)
before_all cs i h = ap (λ (l : List Chunk). length (flat l)) (take_all i cs h)

-- chunk i has the numbers xs
module _ (cs : List Chunk) (i : ℕ) (e : Chunk) (h : i < length cs) {xs : List ℕ} (is : xs ≡ numbers_in (get_or cs i e))
  where
    -- If there is a chunk i, `chunk_at` has its numbers.
    pub chunk_is : chunk_at cs i ≡ xs
    chunk_is = get_or-map numbers_in cs i e [] h ∙ sym is

    -- The numbers before the next chunk are those before chunk i and its own.
    pub before_more : before cs (i + 1) ≡ before cs i + length xs
    before_more =
        let now = length-flat_map numbers_in (take (i + 1) cs) in
        let old = length-flat_map numbers_in (take i cs) in
        let one = ap length is in omega (arith, sum_by_more (λ c. length (numbers_in c)) cs i e h)

    -- number j of the chunk is one of all
    pub number_read : (p j n : ℕ) → p ≡ before cs i + j → slice_get xs j ≡ Some n → slice_get (flat cs) p ≡ Some n
    number_read p j n place at =
        let within : j < length (numbers_in (get_or cs i e)) =
        omega (arith, ap length is, slice_get_within xs j n at) in
        let inside = length-flat_map-take numbers_in cs i e h in
        rw place (slice_get-get_or (flat cs) (before cs i + j) 0 (omega arith)
        ∙ ap Some (get_or-flat_map numbers_in cs i j e 0 h within ∙ (ap (λ (l : List ℕ). get_or l j 0) (sym is)
        ∙ get_or_from_slice_get xs j n 0 at)))

    pub contained : (n : ℕ) → Contains xs n → Contains (flat cs) n
    contained n there = stands (flat cs) _ n
        (number_read _ there.0 n refl (slice_get-get_or xs there.0 n there.1 ∙ ap Some there.2))

    -- the last number of the last chunk is the last one of all
    pub last_read : i + 1 ≡ length cs → (n : ℕ) → slice_get xs (length xs - 1) ≡ Some n →
        slice_get (flat cs) (length (flat cs) - 1) ≡ Some n
    last_read last n at =
        let some = slice_get_within xs (length xs - 1) n at in
        let all = before_all cs (i + 1) (omega arith) in
        number_read (length (flat cs) - 1) (length xs - 1) n (omega (arith, before_more)) at

    module _ (ns : List Node) (rise : KeysRise (keys_of ns (flat cs))) where
      -- the key of number j
      part_key : (j : ℕ) → j < length (keys_of ns xs) → (before cs i + j < length (keys_of ns (flat cs)))
          × (key_in (keys_of ns xs) j ≡ key_in (keys_of ns (flat cs)) (before cs i + j))
      part_key j lt =
          let number = slice_get-get_or xs j 0 (omega (arith, length-map xs (key_at ns))) in
          let there = key_read ns (flat cs) _ _ (number_read _ j _ refl number) in
          (there.0, (key_read ns xs j _ number).1 ∙ sym there.1)

      -- The keys of a chunk rise.
      pub part_rises : KeysRise (keys_of ns xs)
      part_rises a b lt hb = subst₂ (λ x y. key_cmp x y ≡ Less) (sym (part_key a (omega arith)).1)
          (sym (part_key b hb).1) (rise _ _ (omega arith) (part_key b hb).0)

      module _ (k : Key) (less : (j : ℕ) → j < before cs i → key_cmp (key_in (keys_of ns (flat cs)) j) k ≡ Less) (m : ℕ)
          (gap : IsKeyGap (keys_of ns xs) k m) where
        -- the keys before a gap in the chunk are smaller
        pub less_part : (j : ℕ) → j < before cs i + m → key_cmp (key_in (keys_of ns (flat cs)) j) k ≡ Less
        less_part j lt = let index : before cs i ≤ j → before cs i + (j - before cs i) ≡ j = λ h. omega arith in
            grind (arith, index, less j, part_key (j - before cs i), gap.smaller_before (j - before cs i), gap.in_range)

        -- a gap before the end of the chunk is one among all
        pub gap_part : m < length (keys_of ns xs) → IsKeyGap (keys_of ns (flat cs)) k (before cs i + m)
        gap_part lt = gap_here (keys_of ns (flat cs)) rise k (before cs i + m) (part_key m lt).0
            (ap (λ (l : Key). key_cmp l k) (sym (part_key m lt).1) ∙ gap.greater_after m (omega arith) lt) less_part

-- ---- a number that is put in
-- a chunk with the same numbers
pub kept_in : (cs : List Chunk) (i : ℕ) (new : Chunk) → i < length cs → numbers_in new ≡ chunk_at cs i →
    flat (set cs i new) ≡ flat cs
kept_in [] i new h is = absurd (omega arith)
kept_in (c ∷ cs) zero new h is = ap (λ (l : List ℕ). l ++ flat cs) is
kept_in (c ∷ cs) (suc i) new h is = ap (λ (l : List ℕ). numbers_in c ++ l) (kept_in cs i new (omega arith) is)

-- Putting a number at place j of chunk i puts it j places after the numbers before that chunk.
pub put_in : (cs : List Chunk) (i j x : ℕ) (new : Chunk) → i < length cs → j ≤ length (chunk_at cs i) →
    numbers_in new ≡ insert (chunk_at cs i) j x → flat (set cs i new) ≡ insert (flat cs) (before cs i + j) x
put_in [] i j x new h le is = absurd (omega arith)
put_in (c ∷ cs) zero j x new h le is =
    let index : before (c ∷ cs) 0 + j ≡ j = omega arith in
    rw index (ap (λ (l : List ℕ). l ++ flat cs) is ∙ sym (insert-append_left (numbers_in c) (flat cs) j x le))
put_in (c ∷ cs) (suc i) j x new h le is =
    let n = before (c ∷ cs) (suc i) + j in
    let more = length-append (numbers_in c) (flat (take i cs)) in
    let rest : n - length (numbers_in c) ≡ before cs i + j = omega (arith, more) in
    ap (λ (l : List ℕ). numbers_in c ++ l) (put_in cs i j x new (omega arith) le is)
    ∙ sym (insert-append_right (numbers_in c) (flat cs) (length (numbers_in c)) n x refl
    (omega (arith, more)) ∙ ap (λ (m : ℕ). numbers_in c ++ insert (flat cs) m x) rest)

-- behind the last chunk it is a chunk of its own
pub put_behind : (cs : List Chunk) (i j x : ℕ) (new : Chunk) → length cs ≤ i → j ≤ length (chunk_at cs i) →
    numbers_in new ≡ x ∷ [] → flat (cs ++ new ∷ []) ≡ insert (flat cs) (before cs i + j) x
put_behind cs i j x new h le is =
    let none = ap length (get_or_past (map numbers_in cs) i [] (omega (arith, length-map cs numbers_in))) in
    let place : before cs i + j ≡ length (flat cs) = omega (arith, before_all cs i h) in
    flat_map-append numbers_in cs (new ∷ []) ∙ ap (λ (l : List ℕ). flat cs ++ l) (append-nil (numbers_in new) ∙ is)
    ∙ sym (ap (λ (n : ℕ). insert (flat cs) n x) place ∙ (λ k. take-length (flat cs) k ++ x ∷ drop-length (flat cs) k))

-- a chunk that is cut in two
pub cut_in : (cs : List Chunk) (i : ℕ) (lower upper : Chunk) → i < length cs →
    chunk_at cs i ≡ numbers_in lower ++ numbers_in upper → flat (insert (set cs i lower) (suc i) upper) ≡ flat cs
cut_in [] i lower upper h is = absurd (omega arith)
cut_in (c ∷ cs) zero lower upper h is = sym (append_assoc (numbers_in lower) (numbers_in upper) (flat cs))
    ∙ ap (λ (l : List ℕ). l ++ flat cs) (sym is)
cut_in (c ∷ cs) (suc i) lower upper h is =
    ap (λ (l : List ℕ). numbers_in c ++ l) (cut_in cs i lower upper (omega arith) is)

-- What the calls of chunks cite.
pub ruleset in_chunks = (
  slice_get-get_or,
  number_read,
  before_more,
  last_read,
  chunk_is,
  kept_in,
  put_in,
  put_behind,
  cut_in,
)

-- What a search in chunks cites.
pub ruleset among_chunks = (behind_last, gap_at, stands, key_same)
