-- of keep_all: the step of its loop, and what is kept
use Rattle.std.proofs.Common.{◌≡◌, [], ◌∷◌, ◌++◌, List, map, arith, ap, refl, sym, subst, ◌∙◌, take_all, take, option_copied}
use Rattle.allocative_picture.proofs.Common.{Child, Sizes, texts, popped}
use Rattle.allocative_graph.specs.Rows.{rows_of}
use Rattle.allocative_picture.specs.Table.{Keeps, behind, growth_in, growths}
use Rattle.allocative_picture.proofs.Growing.{child_grew, given, node_grew}
use Rattle.allocative_picture.proofs.Heaviest.{Weighed, keeps_then}
use Rattle.allocative_picture.proofs.Walking.{pushed_key}
use Rattle.allocative_picture.proofs.table.+keep_all.Goals as goal

pub loop-child-preserved : goal.loop-child-preserved
loop-child-preserved t c =
    let ks = texts c.args.path.now.items in
    let cs = c.children-children.result.now in
    let i = c.loop-child.child-index in
    let d = c.child-item.result in
    let o = option_copied c.args.other in
    let u = option_copied c.below-below.result in
    let grew = growth_in c.args.size o c.args.graph.now in
    let own : Weighed = (ks, grew []) in
    let new = c.keep_all.new.heaviest in
    let pushed : c.push.new.self.items ≡ c.args.path.now.items ++ c.as_str.result ∷ [] =
    rw (c.in_ok-push.ensures.items, c.loop-child.invariant.path) refl in
    let here = pushed_key _ _ c.as_str.result d.key pushed c.as_str.ensures in
    let rows = child_grew c.args.size o u _ cs i d c.args.graph.now ks c.children-children.ensures.whole
    c.children-children.ensures.children (omega arith) c.child-item.is c.below-below.ensures.sizes
    c.below-below.ensures.totals in
    record {
      path = popped _ _ _ c.as_str.result _ c.pop.ensures.rest c.keep_all.new.path.ok.0
          (c.in_ok-keep_all.ensures.path ∙ pushed);
      kept = subst (λ (es : Sizes). Keeps c.args.most es c.args.heaviest.now new)
          ((λ j. own ∷ map (given grew ks) (rows_of (take i cs)) ++ behind (here j) (growths c.args.size u d.graph))
          ∙ ap (λ (es : Sizes). own ∷ es) (sym rows))
          (keeps_then c.args.most (own ∷ map (given grew ks) (rows_of (take i cs))) _ c.args.heaviest.now
          c.loop-child.heaviest new c.loop-child.invariant.kept c.in_ok-keep_all.ensures.kept);
    }

pub returns-clause-kept : goal.returns-clause-kept
returns-clause-kept t c =
    let ks = texts c.args.path.now.items in
    let cs = c.children-children.result.now in
    let o = option_copied c.args.other in
    let grew = growth_in c.args.size o c.args.graph.now in
    let own : Weighed = (ks, grew []) in
    subst (λ (es : Sizes). Keeps c.args.most es c.args.heaviest.now c.loop-child.heaviest)
    (ap (λ (xs : List Child). own ∷ map (given grew ks) (rows_of xs))
    (take_all c.loop-child.child-index cs (omega arith))
    ∙ sym (node_grew c.args.size o ks _ cs c.args.graph.now c.children-children.ensures.whole
    c.children-children.ensures.children))
    c.loop-child.invariant.kept
