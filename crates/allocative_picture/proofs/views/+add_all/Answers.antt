-- of add_all: the step of its loop, and what is added
use Rattle.std.proofs.Common.{◌≡◌, [], ◌∷◌, ◌++◌, List, arith, ap, refl, sym, ◌∙◌, take_all, take}
use Rattle.allocative_picture.proofs.Common.{Child, entries, size_at, texts, popped}
use Rattle.allocative_graph.specs.Rows.{rows_of}
use Rattle.allocative_picture.specs.Views.{all_of, is_kept, moved, viewed}
use Rattle.allocative_picture.specs.Table.{behind}
use Rattle.allocative_picture.proofs.Viewing.{moved-append}
use Rattle.allocative_picture.proofs.Walking.{behind_more, node_behind, pushed_key}
use Rattle.allocative_picture.proofs.views.+add_all.Goals as goal

pub loop-child-preserved : goal.loop-child-preserved
loop-child-preserved t c =
    let v = c.args.view.now in
    let ks = texts c.args.path.now.items in
    let cs = c.children-children.result.now in
    let i = c.loop-child.child-index in
    let d = c.child-item.result in
    let start = viewed v (all_of c.args.gathered.now) ((ks, size_at c.args.graph.now []) ∷ []) in
    let pushed : c.push.new.self.items ≡ c.args.path.now.items ++ c.as_str.result ∷ [] =
    rw (c.in_ok-push.ensures.items, c.loop-child.invariant.path) refl in
    let here = pushed_key _ _ c.as_str.result d.key pushed c.as_str.ensures in
    record {
      path = popped _ _ _ c.as_str.result _ c.pop.ensures.rest c.add_all.new.path.ok.0
          (c.in_ok-add_all.ensures.path ∙ pushed);
      all = c.in_ok-add_all.ensures.all
          ∙ (λ j. viewed v (c.loop-child.invariant.all j) (behind (here j) (entries d.graph)))
          ∙ sym (moved-append (is_kept v) (moved v) start (behind ks (rows_of (take i cs))) _)
          ∙ ap (viewed v start) (sym (behind_more ks cs i d (omega arith) c.child-item.is));
    }

pub returns-clause-all : goal.returns-clause-all
returns-clause-all t c =
    let v = c.args.view.now in
    let ks = texts c.args.path.now.items in
    let cs = c.children-children.result.now in
    let n = size_at c.args.graph.now [] in
    let start = all_of c.args.gathered.now in
    c.loop-child.invariant.all
    ∙ ap (λ (xs : List Child). viewed v start ((ks, n) ∷ behind ks (rows_of xs)))
    (take_all c.loop-child.child-index cs (omega arith))
    ∙ ap (viewed v start) (sym
    (node_behind ks n cs c.args.graph.now c.children-children.ensures.whole c.children-children.ensures.children))
