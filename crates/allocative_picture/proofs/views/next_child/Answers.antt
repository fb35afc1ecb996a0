-- of next_child: the child that is next
use Rattle.std.proofs.Common.{List, ◌∷◌, ap, sym, subst, ◌∙◌}
use Rattle.allocative_picture.proofs.Common.{Child}
use Rattle.allocative_picture.specs.declared.views.Level.{Level}
use Rattle.allocative_picture.specs.Views.{TakesGuide}
use Rattle.allocative_picture.proofs.views.next_child.Goals as goal

pub returns-clause-some : goal.returns-clause-some
returns-clause-some c =
    let before = c.deref_mut.ensures.value in
    let after = c.deref_mut-2.ensures.value in
    rw c.in_ok-both.ensures.ok (record {
      front = ap (λ (l : Level). l.waiting.items) (sym before) ∙ c.in-Some.ensures.items
          ∙ ap (λ (l : Level). c.in-Some.child ∷ l.waiting.items) (sym after);
      taken =
          subst (λ (us : List Child). TakesGuide us c.in-Some.child c.in_ok-guide.guide c.take_guide.new.guides.items)
          (ap (λ (l : Level). l.guides.items) after ∙ ap (λ (l : Level). l.guides.items) before) c.in_ok-guide.ensures;
    })
