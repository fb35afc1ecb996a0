-- of place_by_halving: both clauses, by what the binary search says
use Rattle.std.proofs.Common.{rules}
use Rattle.allocative_graph.proofs.{Common.Child, Common.key_cmp, Common.always_returns_same, Children.searched}
use Rattle.allocative_graph.proofs.flamegraph.place_by_halving.Goals as goal

pub returns : goal.returns
returns c =
    let facts = c.binary_search_by.ensures in
    let by_key = facts.position (λ (child : Child). key_cmp child.key c.args.key.now)
    (always_returns_same _ _ _ (λ a r g called. search rules)) in
    searched _ c.requires c.args.key.now _ facts.bound by_key
