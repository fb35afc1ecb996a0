-- of place_of: both clauses, by what the binary search says
use Rattle.std.proofs.Common.{rules}
use Rattle.allocative_picture.proofs.Common.{Child, key_cmp}
use Rattle.std.proofs.lemmas.Fn.{always_returns_same}
use Rattle.allocative_graph.proofs.Children.{searched}
use Rattle.allocative_picture.proofs.views.place_of.Goals as goal

pub returns : goal.returns
returns c =
    let facts = c.binary_search_by.ensures in
    let by_key = facts.position (λ (child : Child). key_cmp child.key c.args.key.now)
    (always_returns_same _ _ _ (λ a r g called. search rules)) in
    searched _ c.requires c.args.key.now _ facts.bound by_key
