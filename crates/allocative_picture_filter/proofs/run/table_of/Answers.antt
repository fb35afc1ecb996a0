-- of table_of: the table of a change
use Rattle.allocative_picture_filter.proofs.Common.{IfOk-weaker}
use Rattle.allocative_picture_filter.proofs.run.table_of.Goals as goal

-- The table of what grew is that of a change.
pub returns-then-change : goal.returns-then-change
returns-then-change c = IfOk-weaker c.growth_table.result _ _
    (λ made is. rw (c.if-change.true, ← c.size_of-size.ensures) is) c.growth_table.ensures
