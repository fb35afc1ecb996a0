-- of outline: its clauses
use Rattle.std.proofs.Common.{ap, ◌∙◌}
use Rattle.allocative_picture.proofs.Common.{total}
use Rattle.allocative_picture.specs.declared.views.Guided.{Guided}
use Rattle.allocative_picture.proofs.Viewing.{total-outline}
use Rattle.allocative_picture.proofs.views.outline.Goals as goal

pub returns-clause-outline : goal.returns-clause-outline
returns-clause-outline c = rw c.in_ok-both.ensures.ok at c.in_ok-add_outline.ensures.outline

pub returns-clause-total : goal.returns-clause-total
returns-clause-total c =
    let both = c.in_ok-both.both.value in
    total-outline c.args.depth c.args.most both.guide
    both.graph c.add_outline.new.view c.in_ok-add_outline.ensures.outline
    ∙ ap (λ (b : Guided). total b.graph) c.in_ok-both.ensures.ok

pub returns-clause-whole : goal.returns-clause-whole
returns-clause-whole c = rw c.in_ok-both.ensures.ok at c.in_ok-add_outline.ensures.whole
