-- of grown: a number fits, the start and the step of its loop, and its result
use Rattle.std.proofs.Common.{◌≡◌, ℕ, ◌+◌, [], ◌∷◌, List, arith, ap, sym, ◌∙◌, take_all, map, take, option_copied}
use Rattle.allocative_picture.proofs.Common.{Child, Path, fold-map, sum_by-append, sum_by-cons, total}
use Rattle.allocative_picture.proofs.Common.{sum_by-take-le}
use Rattle.allocative_graph.specs.Rows.{rows_of}
use Rattle.allocative_picture.proofs.Placing.{bytes_of}
use Rattle.allocative_picture.proofs.Walking.{behind_none, node_total, total_of_more}
use Rattle.allocative_picture.specs.declared.table.Size.TheVariants.{Own}
use Rattle.allocative_picture.specs.Table.{behind, growth_in, growths}
use Rattle.allocative_picture.proofs.Growing.{child_grew, given, node_grew}
use Rattle.allocative_picture.proofs.table.+grown.Goals as goal

pub overflow_add-bytes : goal.overflow_add-bytes
overflow_add-bytes t c =
    let g = c.args.graph.now in
    let cs = c.children-children.result.now in
    let i = c.loop-child.child-index in
    let d = c.child-item.result in
    omega (
      arith,
      node_total g cs c.children-children.ensures.whole c.children-children.ensures.children,
      c.total_size-all.ensures.total,
      c.loop-child.invariant.bound,
      c.grown-bytes.ensures.bound,
      total_of_more cs i d
          (omega arith) c.child-item.is,
      sum_by-take-le (λ (x : Child). total x.graph) cs (i + 1),
    )

pub loop-child-preserved : goal.loop-child-preserved
loop-child-preserved t c =
    let g = c.args.graph.now in
    let cs = c.children-children.result.now in
    let i = c.loop-child.child-index in
    let d = c.child-item.result in
    let o = option_copied c.args.other in
    let u = option_copied c.below.result in
    let before = map (given (growth_in Own o g) []) (rows_of (take i cs)) in
    let bytes : bytes_of (behind (d.key ∷ []) (growths Own u d.graph)) ≡ c.grown-bytes.result =
    fold-map (λ n (e : Path × ℕ). n + e.1) (λ (e : Path × ℕ). (d.key ∷ e.0, e.1)) 0 (growths Own u d.graph)
    ∙ sym c.grown-bytes.ensures.sum in
    let more = ap bytes_of (child_grew Own o u _ cs i d g [] c.children-children.ensures.whole
    c.children-children.ensures.children (omega arith) c.child-item.is c.below.ensures.sizes c.below.ensures.totals)
    ∙ sum_by-append (λ (e : Path × ℕ). e.1) before (behind (d.key ∷ []) (growths Own u d.graph)) in
    record {
      sum = omega (arith, c.loop-child.invariant.sum, more, bytes);
      bound = omega (
        arith,
        c.loop-child.invariant.bound,
        c.grown-bytes.ensures.bound,
        total_of_more cs i d (omega arith) c.child-item.is,
      );
    }

pub returns-clause-sum : goal.returns-clause-sum
returns-clause-sum t c =
    let g = c.args.graph.now in
    let cs = c.children-children.result.now in
    let o = option_copied c.args.other in
    let rows = map (given (growth_in Own o g) []) (rows_of cs) in
    omega (
      arith,
      c.loop-child.invariant.sum,
      ap (λ (xs : List Child). bytes_of (map (given (growth_in Own o g) []) (rows_of xs)))
          (take_all c.loop-child.child-index cs (omega arith)),
      ap bytes_of (sym (behind_none (growths Own o g)) ∙ node_grew Own o [] _ cs g c.children-children.ensures.whole
          c.children-children.ensures.children),
      sum_by-cons (λ (e : Path × ℕ). e.1) ([], growth_in Own o g []) rows,
    )

pub returns-clause-bound : goal.returns-clause-bound
returns-clause-bound t c =
    let g = c.args.graph.now in
    let cs = c.children-children.result.now in
    omega (
      arith,
      node_total g cs c.children-children.ensures.whole c.children-children.ensures.children,
      c.loop-child.invariant.bound,
      sum_by-take-le (λ (x : Child). total x.graph) cs c.loop-child.child-index,
    )
