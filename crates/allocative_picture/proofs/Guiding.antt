-- What guides the children of an outline: that a guide which is taken for a child is the child's, and which are left.
use Rattle.std.proofs.Common.{◌≡◌, ℕ, ◌<◌, ◌^◌, ◌⊎◌, inl, inr, List, [], ◌∷◌, length, get_or, refl, sym, ap, subst, ◌∙◌, arith}
use Rattle.std.proofs.Common.{Less, Greater}
use Rattle.allocative_picture.proofs.Common.{Child, Graph, Key, AreChildren, InOrder, node, total, total_of, total-node, key_cmp}
use Rattle.allocative_picture.proofs.Common.{tied_itself, nat_list_cmp_total, length-map, get_or-map}
use Rattle.allocative_graph.specs.Graph.{IsTree}
use Rattle.allocative_graph.specs.Rows.{keys_of}
use Rattle.allocative_graph.specs.Representation.Children.{AllAbove, IsFound, IsChildGap, IsNode}
use Rattle.allocative_graph.proofs.Nodes.{behind_root, behind_child, missing_key}
use Rattle.std.specs.List.Sorted.{IsStrictlySortedBy}
use Rattle.std.proofs.Math.Seq.{map-set_same}
use Rattle.std.proofs.lemmas.List.{get_or-set_other}
use Rattle.std.proofs.lemmas.List.Elements.{All-from_recursion}
use Rattle.std.proofs.lemmas.Bool.{cases_eq}
use Rattle.allocative_picture.specs.Views.{GuidesChild, TakesGuide}

-- Of the guides us there are vs left: they have the same keys, and each is as it was, or its key is below those of all
-- children that wait.
pub record AreLeft (us vs waiting : List Child) : Type 0 where
  pub keys : keys_of vs ≡ keys_of us
  pub each : (j : ℕ) (d : Child) → j < length us →
      (get_or vs j d ≡ get_or us j d) ⊎ AllAbove waiting (get_or us j d).key

-- At the start all guides are left.
pub all_left : (us waiting : List Child) → AreLeft us us waiting
all_left us waiting = record { keys = refl; each = λ j d w. inl refl }

-- The guides that are left are as many.
same_length : (us vs : List Child) → keys_of vs ≡ keys_of us → length vs ≡ length us
same_length us vs e =
    omega (
      arith,
      ap (λ (ks : List Key). length ks) e,
      length-map us (λ (c : Child). c.key),
      length-map vs (λ (c : Child). c.key),
    )

-- They have the same keys at each place.
same_key : (us vs : List Child) (j : ℕ) (d : Child) → keys_of vs ≡ keys_of us → j < length us →
    (get_or vs j d).key ≡ (get_or us j d).key
same_key us vs j d e w =
    sym (get_or-map (λ (c : Child). c.key) vs j d [] (omega (arith, same_length us vs e, w)))
    ∙ ap (λ (ks : List Key). get_or ks j []) e ∙ get_or-map (λ (c : Child). c.key) us j d [] w

-- They are in the order of their keys.
pub left_in_order : (us vs waiting : List Child) → AreLeft us vs waiting → InOrder us → InOrder vs
left_in_order us vs waiting h o = subst (λ (ks : List Key). IsStrictlySortedBy key_cmp ks) (sym h.keys) o

-- No key is below itself.
not_below : (k : Key) → key_cmp k k ≡ Less → ⊥
not_below k e = let tied = tied_itself nat_list_cmp_total k in cc

module _ (g : Graph) (n : ℕ) (us : List Child) (whole : g ≡ node n us)
    (h : AreChildren us) (fits : total g < 2 ^ 64) where
  is_node : IsNode us (total_of us) n
  is_node = record { children = h; size = refl; fits = omega (arith, ap total whole, total-node n us h.sorted, fits) }

  -- The graph at the key of a child guides it.
  guides-found : (c : Child) (i : ℕ) (d : Child) → IsFound us c.key i → GuidesChild g c (get_or us i d).graph
  guides-found c i d f = inl (behind_child (sym whole) is_node refl refl d f (get_or us i d).graph
      (behind_root (get_or us i d).graph (All-from_recursion (λ (u : Child). IsTree u.graph) us h.trees i d f.within)))

  -- If there is none, the child guides itself.
  guides-missing : (c : Child) (i : ℕ) → IsChildGap us c.key i → GuidesChild g c c.graph
  guides-missing c i gap = inr (missing_key (sym whole) is_node refl refl gap, refl)

  module _ (vs ws waiting : List Child) (c : Child) (x : Graph) (left : AreLeft us vs (c ∷ waiting))
      (o : InOrder (c ∷ waiting)) where
    found_there : (i : ℕ) → IsFound vs c.key i → IsFound us c.key i
    found_there i f =
        let w : i < length us = omega (arith, f.within, same_length us vs left.keys) in
        record { within = w; same = λ d. sym (same_key us vs i d left.keys w) ∙ f.same d }

    gap_there : (i : ℕ) → IsChildGap vs c.key i → IsChildGap us c.key i
    gap_there i gap =
        let many = same_length us vs left.keys in
        record {
          within = omega (arith, gap.within, many);
          between = (
            λ j d low high. subst (λ k. key_cmp k c.key ≡ Less)
                (same_key us vs j d left.keys (omega (arith, gap.within, many, high))) (gap.between.0 j d low high),
            λ j d low high. subst (λ k. key_cmp k c.key ≡ Greater)
                (same_key us vs j d left.keys high) (gap.between.1 j d low (omega (arith, many, high))),
          );
        }

    -- A guide that is found is as it was.
    untouched : (i : ℕ) (d : Child) → IsFound vs c.key i → get_or vs i d ≡ get_or us i d
    untouched i d f = is (left.each i d (found_there i f).within)
      where
        is : (get_or vs i d ≡ get_or us i d) ⊎ AllAbove (c ∷ waiting) (get_or us i d).key →
            get_or vs i d ≡ get_or us i d
        is (inl e) = e
        is (inr above) =
            absurd (not_below c.key (subst (λ k. key_cmp k c.key ≡ Less) ((found_there i f).same d) above.0))

    -- What is taken for a child guides it.
    pub guides-taken : TakesGuide vs c x ws → GuidesChild g c x
    guides-taken (inl (i, v, f, key, graph, e)) =
        subst (GuidesChild g c) (ap (λ (u : Child). u.graph) (sym (untouched i c f)) ∙ graph c)
        (guides-found c i c (found_there i f))
    guides-taken (inr (i, gap, is, e)) = subst (GuidesChild g c) (sym is) (guides-missing c i (gap_there i gap))

    -- The others are left for the children that wait.
    pub left-taken : TakesGuide vs c x ws → AreLeft us ws waiting
    unfolding IsStrictlySortedBy
    left-taken (inl (i, v, f, key, graph, e)) =
        let same : keys_of ws ≡ keys_of vs = ap keys_of e
        ∙ map-set_same (λ (u : Child). u.key) vs i v c (key ∙ sym (f.same c)) in
        record { keys = same ∙ left.keys; each = λ j d w. step j d w (cases_eq j i) (left.each j d w) }
      where
        step : (j : ℕ) (d : Child) → j < length us → (j ≡ i) ⊎ (j ≡ i → ⊥) →
            (get_or vs j d ≡ get_or us j d) ⊎ AllAbove (c ∷ waiting) (get_or us j d).key →
            (get_or ws j d ≡ get_or us j d) ⊎ AllAbove waiting (get_or us j d).key
        step j d w (inl at) m =
            inr (subst (AllAbove waiting) (sym (ap (λ m. (get_or us m d).key) at ∙ (found_there i f).same d)) o.0)
        step j d w (inr other) (inl is) =
            inl (ap (λ (us : List Child). get_or us j d) e ∙ get_or-set_other vs i j v d other ∙ is)
        step j d w (inr other) (inr above) = inr above.1
    left-taken (inr (i, gap, is, e)) = record {
      keys = ap keys_of e ∙ left.keys;
      each = λ j d w. step j d (left.each j d w);
    }
      where
        step : (j : ℕ) (d : Child) → (get_or vs j d ≡ get_or us j d) ⊎ AllAbove (c ∷ waiting) (get_or us j d).key →
            (get_or ws j d ≡ get_or us j d) ⊎ AllAbove waiting (get_or us j d).key
        step j d (inl is) = inl (ap (λ (us : List Child). get_or us j d) e ∙ is)
        step j d (inr above) = inr above.1
