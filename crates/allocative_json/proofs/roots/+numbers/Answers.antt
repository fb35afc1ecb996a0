-- of numbers: the steps of its loops, and keys
use Rattle.std.proofs.Common.{◌∙◌, map, take, subst, List, refl, IsTrue}
use Rattle.allocative_json.proofs.Common.{view, items_view, members_view, deref_pair, map-append, take_more}
use Rattle.allocative_json.proofs.Common.{items_from_drains}
use Rattle.allocative_json.specs.Roots.{AddsNumbers, items_numbers, members_numbers, numbers_of}
use Rattle.std.proofs.lemmas.Iterator.Consumers.{YieldsList-from_rest}
use Rattle.std.proofs.lemmas.List.Folds.{list_all-append}
use Rattle.allocative_json.proofs.NumbersLemmas.{AddsNumbers-append, items_numbers-snoc, members_numbers-snoc}
use Rattle.allocative_json.proofs.roots.+numbers.Goals as goal

-- One item more is looked at.
pub add_items-loop-item-preserved : goal.add_items-loop-item-preserved
add_items-loop-item-preserved t c =
    let h = c.loop-item.invariant in
    rw (take_more _ _ c.item-item.result c.loop-item-test.true, ← c.item-item.is) (record {
      whole = rw (items_numbers-snoc, list_all-append, ← h.whole, ← c.in_ok-all_whole.ensures.whole) refl;
      keys = λ i. rw items_numbers-snoc (AddsNumbers-append
          (items_numbers (items_view (take c.loop-item.item-index c.deref-item-items.result.now)))
          (numbers_of (view c.item-item.result)) c.args.set.now _ _ (h.keys i) (c.in_ok-all_whole.ensures.keys i));
      ordered = λ o. c.add_numbers.ensures.ordered (h.ordered o);
    })

-- One member more is looked at.
pub add_members-loop-key-preserved : goal.add_members-loop-key-preserved
add_members-loop-key-preserved t c =
    let h = c.loop-key.invariant in
    rw map-append (record {
      whole = rw (members_numbers-snoc, list_all-append, ← h.whole, ← c.in_ok-all_whole.ensures.whole) refl;
      keys = λ i. rw members_numbers-snoc (AddsNumbers-append
          (members_numbers (members_view (map deref_pair c.loop-key.yielded)))
          (numbers_of (view c.in-Some.member.now)) c.args.set.now _ _ (h.keys i) (c.in_ok-all_whole.ensures.keys i));
      ordered = λ o. c.add_numbers.ensures.ordered (h.ordered o);
    })

-- After the last member the set has the numbers of all.
pub add_members-returns-clause-keys : goal.add_members-returns-clause-keys
add_members-returns-clause-keys t c =
    let e = items_from_drains c.loop-key.yielded
    (c.loop-key._key-iterator, c.loop-key.yielded_by, λ _. (c.next.new.self, c.in-None.ensures.steps))
    (YieldsList-from_rest _ (c.into_iter-key-iterator.ensures.into_iter_gives ∙ c.iter-key-items.ensures.rest)) in
    let Q : List _ → Type 0 = λ ms. IsTrue c.args.index →
    AddsNumbers (members_numbers (members_view ms)) c.args.set.now c.loop-key.set in
    subst Q e c.loop-key.invariant.keys
