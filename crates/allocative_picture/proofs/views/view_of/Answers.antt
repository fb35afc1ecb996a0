-- of view_of: what is made
use Rattle.std.proofs.Common.{ap, sym, ◌∙◌}
use Rattle.allocative_picture.proofs.Common.{entries, sum_of_all, texts}
use Rattle.allocative_picture.specs.Views.{viewed}
use Rattle.allocative_picture.specs.Table.{behind}
use Rattle.allocative_picture.proofs.Walking.{behind_none}
use Rattle.allocative_picture.proofs.views.view_of.Goals as goal

pub returns : goal.returns
returns c =
    let v = c.args.view.now in
    let es = entries c.args.graph.now in
    let keys = c.new-path.ensures.items in
    sym (ap (sum_of_all c.add_waiting.new.self.view) c.in_ok-add_waiting.ensures.none) ∙ c.in_ok-add_waiting.ensures.all
    ∙ c.in_ok-add_all.ensures.all
    ∙ (λ i. viewed v (sum_of_all (c.default.ensures i) (c.new.ensures.items i)) (behind (texts (keys i)) es))
    ∙ ap (viewed v _) (behind_none es)
