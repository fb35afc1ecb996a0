-- of in_order: the step of its loop, and the result
use Rattle.std.proofs.Common.{◌≡◌, ◌+◌, ◌++◌, [], ◌∷◌, take, length, get_or, arith, ap, sym, subst, ◌∙◌, take_all, List, IsPermutation}
use Rattle.std.proofs.lemmas.List.{take_more, length-take}
use Rattle.allocative_picture.proofs.Common.{Child}
use Rattle.allocative_picture.proofs.Starting.{by_key, by_size, numbered-push}
use Rattle.allocative_picture.specs.Places.{numbered, placed}
use Rattle.allocative_picture.specs.declared.places.Place.{Place}
use Rattle.allocative_picture.proofs.places.in_order.Goals as goal

pub loop-index-preserved : goal.loop-index-preserved
loop-index-preserved c =
    let cs = c.args.children.now in
    let i = c.loop-index.index in
    let d = c.index-children-index.result in
    let many : i ≡ 0 + length (take i cs) = omega (arith, length-take i cs) in
    c.in_ok-push.ensures.items
    ∙ (λ t. c.loop-index.invariant t
    ++ record { bytes = record { 0 = c.total_size.ensures.total t }; index = many t } ∷ [])
    ∙ ap (λ (x : Child). numbered 0 (take i cs) ++ placed x (0 + length (take i cs)) ∷ []) c.index-children-index.is
    ∙ sym (ap (numbered 0) (take_more cs i d (omega arith)) ∙ numbered-push 0 (take i cs) (get_or cs i d))

pub returns-in-Key : goal.returns-in-Key
returns-in-Key c =
    let cs = c.args.children.now in
    rw (c.in-Key.is, c.loop-index.invariant, take_all c.loop-index.index cs (omega arith)) (by_key cs)

pub returns-in_ok-sort-in-Size : goal.returns-in_ok-sort-in-Size
returns-in_ok-sort-in-Size c =
    let cs = c.args.children.now in
    let ys = c.sort.new.self.items in
    let all = c.loop-index.invariant ∙ ap (numbered 0) (take_all c.loop-index.index cs (omega arith)) in
    rw c.in-Size.is (by_size cs ys (subst (λ (xs : List Place). IsPermutation xs ys) all
    c.in_ok-sort-in-Size.ensures.permutation) c.in_ok-sort-in-Size.ensures.sorted)
