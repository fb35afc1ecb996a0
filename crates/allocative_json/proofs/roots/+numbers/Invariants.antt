-- of numbers: the invariants of its loops
use Rattle.std.proofs.Common.{◌≡◌, map, take, IsTrue, int_cmp}
use Rattle.allocative_json.proofs.Common.{deref_pair, items_view, members_view, list_all, IsOrdered}
use Rattle.allocative_json.specs.Roots.{AddsNumbers, is_whole_number, items_numbers, members_numbers}
use Rattle.allocative_json.proofs.roots.+numbers.Given as goal

-- The flag says whether the numbers of the items before this one are whole, and the set has them with `index`. It
-- stays in order.
abbrev pub invariant-add_items-loop-item : goal.invariant-add_items-loop-item
invariant-add_items-loop-item l = record {
  whole : l.all_whole ≡ list_all is_whole_number (items_numbers (items_view (take l.item-index l.item-items)));
  keys : IsTrue l.index → AddsNumbers (items_numbers (items_view (take l.item-index l.item-items))) l.fn.set l.set;
  ordered : IsOrdered int_cmp l.fn.set → IsOrdered int_cmp l.set;
}

-- The same for the members so far.
abbrev pub invariant-add_members-loop-key : goal.invariant-add_members-loop-key
invariant-add_members-loop-key l = record {
  whole : l.all_whole ≡ list_all is_whole_number (members_numbers (members_view (map deref_pair l.yielded)));
  keys : IsTrue l.index → AddsNumbers (members_numbers (members_view (map deref_pair l.yielded))) l.fn.set l.set;
  ordered : IsOrdered int_cmp l.fn.set → IsOrdered int_cmp l.set;
}
