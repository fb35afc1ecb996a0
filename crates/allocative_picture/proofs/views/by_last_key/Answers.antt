-- of by_last_key: its total and its sizes
use Rattle.std.proofs.Common.{[], ◌∷◌, ap, ◌∙◌}
use Rattle.std.proofs.lemmas.Result.{IfOk-weaker}
use Rattle.allocative_picture.proofs.Common.{Graph, total, size_at}
use Rattle.allocative_picture.proofs.Viewing.{size_at-by_last_key, total-by_last_key}
use Rattle.allocative_picture.proofs.views.by_last_key.Goals as goal

pub returns-clause-total : goal.returns-clause-total
returns-clause-total c = IfOk-weaker c.view_of.result _ _
    (λ view is. ap total is ∙ total-by_last_key c.args.graph.now) c.view_of.ensures

pub returns-clause-sizes : goal.returns-clause-sizes
returns-clause-sizes c = IfOk-weaker c.view_of.result _ _
    (λ view is k. ap (λ (h : Graph). size_at h (k ∷ [])) is ∙ size_at-by_last_key c.args.graph.now k) c.view_of.ensures
