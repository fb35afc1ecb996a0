-- of growth_table: the result
use Rattle.std.proofs.Common.{List, map, ap, ◌∙◌, arith, flat_map, take_all}
use Rattle.allocative_picture.specs.declared.table.Heavy.{Heavy}
use Rattle.allocative_picture.specs.Table.{weight_of, growth_line}
use Rattle.allocative_picture.proofs.table.growth_table.Goals as goal

pub returns : goal.returns
returns c =
    let lines = c.in_ok-lines.lines.items in
    let line = growth_line c.args.size c.args.before.now c.args.after.now in (
      map weight_of lines,
      c.in_ok-lines.ensures,
      c.loop-line.invariant
          ∙ ap (λ (hs : List Heavy). flat_map (line c.grown-all.result) (map weight_of hs))
          (take_all c.loop-line.line-index c.deref-line-items.result.now (omega arith)
          ∙ c.deref-line-items.ensures.value)
          ∙ ap (λ t. flat_map (line t) (map weight_of lines)) c.grown-all.ensures.sum,
    )
