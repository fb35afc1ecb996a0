-- of reverse: its total and its sizes
use Rattle.std.proofs.Common.{ap, ◌∙◌}
use Rattle.std.proofs.lemmas.Result.{IfOk-weaker}
use Rattle.allocative_picture.proofs.Common.{Graph, total, size_at}
use Rattle.allocative_picture.proofs.Viewing.{size_at-reversed, total-reversed}
use Rattle.allocative_picture.proofs.views.reverse.Goals as goal

pub returns-clause-total : goal.returns-clause-total
returns-clause-total c = IfOk-weaker c.view_of.result _ _
    (λ view is. ap total is ∙ total-reversed c.args.graph.now) c.view_of.ensures

pub returns-clause-sizes : goal.returns-clause-sizes
returns-clause-sizes c = IfOk-weaker c.view_of.result _ _
    (λ view is p. ap (λ (h : Graph). size_at h p) is ∙ size_at-reversed c.args.graph.now p) c.view_of.ensures
