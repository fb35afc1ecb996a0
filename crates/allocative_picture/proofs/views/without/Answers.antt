-- of without: its total and its sizes
use Rattle.std.proofs.Common.{◌+◌, ap, ◌∙◌}
use Rattle.std.proofs.lemmas.Result.{IfOk-weaker}
use Rattle.allocative_picture.proofs.Common.{Graph, total, size_at}
use Rattle.allocative_picture.specs.Views.{bytes_within, paths_of}
use Rattle.allocative_picture.proofs.Viewing.{size_at-without, total-without}
use Rattle.allocative_picture.proofs.views.without.Goals as goal

pub returns-clause-total : goal.returns-clause-total
returns-clause-total c =
    let ps = paths_of c.args.paths.now in
    IfOk-weaker c.view_of.result _ _
    (λ view is. ap (λ (h : Graph). total h + bytes_within ps c.args.graph.now) is
    ∙ total-without ps c.args.graph.now) c.view_of.ensures

pub returns-clause-sizes : goal.returns-clause-sizes
returns-clause-sizes c = IfOk-weaker c.view_of.result _ _
    (λ view is p. ap (λ (h : Graph). size_at h p) is ∙ size_at-without (paths_of c.args.paths.now) c.args.graph.now p)
    c.view_of.ensures
