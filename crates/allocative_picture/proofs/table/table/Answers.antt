-- of table: the result
use Rattle.std.proofs.Common.{List, map, ap, subst, ◌∙◌, arith, flat_map, take_all}
use Rattle.allocative_picture.proofs.Common.{Sizes}
use Rattle.allocative_picture.specs.declared.table.Heavy.{Heavy}
use Rattle.allocative_picture.specs.Table.{weight_of, table_line, IsTop}
use Rattle.allocative_picture.proofs.Growing.{all_grew}
use Rattle.allocative_picture.proofs.table.table.Goals as goal

pub returns : goal.returns
returns c =
    let lines = c.in_ok-lines.lines.items in (
      map weight_of lines,
      subst (λ (es : Sizes). IsTop c.args.most es (map weight_of lines))
          (all_grew c.args.size c.args.graph.now) c.in_ok-lines.ensures,
      c.loop-line.invariant
          ∙ ap (λ (hs : List Heavy). flat_map (table_line c.total_size-all.result) (map weight_of hs))
          (take_all c.loop-line.line-index c.deref-line-items.result.now (omega arith)
          ∙ c.deref-line-items.ensures.value)
          ∙ ap (λ t. flat_map (table_line t) (map weight_of lines)) c.total_size-all.ensures.total,
    )
