-- What refuses an item, a member, or adding one, refuses the whole graph.
use Rattle.std.proofs.Common.{List, subst, ◌≡◌, ◌+◌, length, map, take, ap, ◌∙◌, arith, codes, string_capacity, vec_capacity}
use Rattle.allocative_json.proofs.Common.{total, sum_of_all, bytes_alone, array_bytes, value_below, member_below, member_of}
use Rattle.allocative_json.proofs.Common.{fields_of, Value, Makes}
use Rattle.std.proofs.lemmas.Iterator.Consumers.{YieldsList-from_rest, YieldsList-turn}
use Rattle.allocative_json.proofs.FieldsLemmas.{refused_more, refused_sum, more_within, total-add_self}
use Rattle.allocative_json.proofs.fields.+fields.Goals as goal

pub graph_of_items-returns-in_err-graph_of : goal.graph_of_items-returns-in_err-graph_of
graph_of_items-returns-in_err-graph_of t c =
    let xs = c.deref-item-items.result.now in
    let f = value_below (codes "[]") in
    let start = bytes_alone (array_bytes (length c.args.items.now.items) (vec_capacity c.args.items.now)) in
    let within =
    more_within f start xs c.loop-item.item-index c.item-item.result c.loop-item-test.true c.item-item.is in
    subst (λ (ys : List Value). Makes (sum_of_all start (map f ys)) c.from_residual-in_err-graph_of.result)
    c.deref-item-items.ensures.value (refused_more _ (fields_of c.item-item.result) (sum_of_all start (map f xs))
    c.from_residual-in_err-graph_of.result c.in_err-graph_of.field-0.0 c.from_residual-in_err-graph_of.ensures.1
    (omega (arith, within)) c.in_err-graph_of.ensures)

pub graph_of_items-returns-in_err-add_child : goal.graph_of_items-returns-in_err-add_child
graph_of_items-returns-in_err-add_child t c =
    let xs = c.deref-item-items.result.now in
    let f = value_below (codes "[]") in
    let start = bytes_alone (array_bytes (length c.args.items.now.items) (vec_capacity c.args.items.now)) in
    let within =
    more_within f start xs c.loop-item.item-index c.item-item.result c.loop-item-test.true c.item-item.is in
    let before : total c.loop-item.graph ≡ total (sum_of_all start (map f (take c.loop-item.item-index xs))) =
    ap total c.loop-item.invariant in
    let next : total c.in_ok-graph_of.field-0 ≡ total (fields_of c.item-item.result) =
    ap total c.in_ok-graph_of.ensures in
    subst (λ (ys : List Value). Makes (sum_of_all start (map f ys)) c.from_residual-in_err-add_child.result)
    c.deref-item-items.ensures.value (refused_sum _ (sum_of_all start (map f xs)) _
    c.from_residual-in_err-add_child.result c.in_err-add_child.field-0.0 c.from_residual-in_err-add_child.ensures.1
    c.in_err-add_child.ensures.too_large.0 c.in_err-add_child.ensures.never_open (omega (arith, within, before, next)))

pub graph_of_members-returns-in_err-value : goal.graph_of_members-returns-in_err-value
graph_of_members-returns-in_err-value t c =
    let entries = c.args.members.now.entries in
    let turn = YieldsList-turn (YieldsList-from_rest
    _ (c.into_iter-name-iterator.ensures.into_iter_gives ∙ c.iter-name-items.ensures.rest)) c.loop-name.yielded
    _ c.loop-name.yielded_by _ _ (c.in-Some.name, c.in-Some.member) c.in-Some.is c.next.ensures.steps in
    let within = more_within member_of (bytes_alone 32) entries (length c.loop-name.yielded)
    (c.in-Some.name.now, c.in-Some.member.now) turn.0 turn.1 in
    refused_more _ (fields_of c.in-Some.member.now) (sum_of_all (bytes_alone 32) (map member_of entries))
    c.from_residual-in_err-value.result c.in_err-value.field-0.0 c.from_residual-in_err-value.ensures.1
    (omega (arith, within, total-add_self (24 + string_capacity c.in-Some.name.now) (fields_of c.in-Some.member.now)))
    c.in_err-value.ensures

pub graph_of_members-returns-in_err-member_of : goal.graph_of_members-returns-in_err-member_of
graph_of_members-returns-in_err-member_of t c =
    let entries = c.args.members.now.entries in
    let turn = YieldsList-turn (YieldsList-from_rest
    _ (c.into_iter-name-iterator.ensures.into_iter_gives ∙ c.iter-name-items.ensures.rest)) c.loop-name.yielded
    _ c.loop-name.yielded_by _ _ (c.in-Some.name, c.in-Some.member) c.in-Some.is c.next.ensures.steps in
    let within = more_within member_of (bytes_alone 32) entries (length c.loop-name.yielded)
    (c.in-Some.name.now, c.in-Some.member.now) turn.0 turn.1 in
    let size = 24 + string_capacity c.in-Some.name.now in
    let made : total c.in_ok-value.value ≡ total (fields_of c.in-Some.member.now) = ap total c.in_ok-value.ensures in
    refused_more _ (member_below (c.in-Some.name.now, c.in_ok-value.value)).graph
    (sum_of_all (bytes_alone 32) (map member_of entries)) c.from_residual-in_err-member_of.result
    c.in_err-member_of.field-0.0 c.from_residual-in_err-member_of.ensures.1 (omega (
      arith,
      within,
      made,
      total-add_self size c.in_ok-value.value,
      total-add_self size (fields_of c.in-Some.member.now),
    ))
    c.in_err-member_of.ensures
