-- of fields: the invariants of its loops
use Rattle.std.proofs.Common.{◌≡◌, map, take, length, codes, vec_capacity}
use Rattle.allocative_json.proofs.Common.{deref_pair, sum_of_all, bytes_alone, array_bytes, value_below, member_of}
use Rattle.allocative_json.proofs.fields.+fields.Given as goal

-- The graph has the items before this one.
abbrev pub invariant-graph_of_items-loop-item : goal.invariant-graph_of_items-loop-item
invariant-graph_of_items-loop-item l =
    l.graph ≡ sum_of_all (bytes_alone (array_bytes (length l.fn.items.items) (vec_capacity l.fn.items)))
    (map (value_below (codes "[]")) (take l.item-index l.item-items))

-- The children are the members so far.
abbrev pub invariant-graph_of_members-loop-name : goal.invariant-graph_of_members-loop-name
invariant-graph_of_members-loop-name l = l.children.items ≡ map member_of (map deref_pair l.yielded)
