-- of joined: the step of its loop, and the last graph
use Rattle.std.proofs.Common.{◌≡◌, [], ◌∷◌, List, ap, sym, ◌∙◌, rules}
use Rattle.std.proofs.lemmas.List.{nil_from_length}
use Rattle.allocative_picture.proofs.Common.{Child, sum_of}
use Rattle.allocative_picture.specs.Views.{joined}
use Rattle.allocative_picture.proofs.Viewing.{joined_turned, onto_default}
use Rattle.allocative_picture.proofs.views.joined.Goals as goal

pub returns-in_default-pop_front : goal.returns-in_default-pop_front
returns-in_default-pop_front c =
    let first = c.in-Some.child in
    let none : c.pop_front.new.self.items ≡ [] = search (rules, nil_from_length) in
    sym (onto_default first.graph c.total_size-all.ensures.tree)
    ∙ ap (λ (xs : List Child). joined (first ∷ xs)) (sym none)
    ∙ ap joined (sym c.in-Some.ensures.items) ∙ c.loop-child.invariant

pub loop-child-preserved : goal.loop-child-preserved
loop-child-preserved c =
    let first = c.in-Some.child in
    let next = c.in-Some-pop_front.next in
    let sum : c.add.new.self ≡ sum_of first.graph next.graph = search rules in
    ap joined c.in_ok-push_back.ensures.items ∙ joined_turned first next _ c.pop_front-in-Some.new.self.items sum
    ∙ ap (λ (xs : List Child). joined (first ∷ xs)) (sym c.in-Some-pop_front.ensures.items)
    ∙ ap joined (sym c.in-Some.ensures.items) ∙ c.loop-child.invariant
