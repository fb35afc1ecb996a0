-- of take_guide: the guide that is found
use Rattle.std.proofs.Common.{List, inl, refl, sym, ap, subst, ◌∙◌}
use Rattle.std.proofs.lemmas.List.{get_or_default}
use Rattle.allocative_graph.specs.Representation.Children.{IsFound}
use Rattle.allocative_picture.proofs.Common.{Child}
use Rattle.allocative_picture.proofs.views.take_guide.Goals as goal

-- The guide keeps its key, and gives its graph away.
pub returns-in-Ok : goal.returns-in-Ok
returns-in-Ok c =
    let us = c.args.guides.now.items in
    let i = c.in-Ok.place in
    let u = c.index_mut-guide.result.now in
    let found : IsFound us c.args.child.now.key i =
    subst (λ (vs : List Child). IsFound vs c.args.child.now.key i) c.as_slice.ensures.value c.in-Ok.ensures.found in
    inl (
      i,
      record { key = u.key; graph = c.replace.new.dest },
      found,
      ap (λ (x : Child). x.key) c.index_mut-guide.ensures.value ∙ found.same u,
      λ d. ap (λ (x : Child). x.graph) (get_or_default us i d u found.within ∙ sym c.index_mut-guide.ensures.value)
          ∙ sym c.replace.ensures.value,
      refl,
    )
