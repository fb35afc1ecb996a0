-- of Tables::add: no table, or one
use Rattle.std.proofs.Common.{inl}
use Rattle.allocative_tally.proofs.{refl, arith, table_counted, tallies_none, told_by}
use Rattle.allocative_tally.proofs.pack.Tables.add.Goals as goal

pub returns-then-items-eq0 : goal.returns-then-items-eq0
returns-then-items-eq0 c = told_by _ (tallies_none (inl (c.if-items-eq0.true, refl)))

pub returns : goal.returns
returns c = told_by _ (table_counted _ _ _ _ (omega arith) c.raw_table_alloc_size_for_len.ensures c.in-Some.is
    c.in_ok-self.ensures c.in_ok-self-2.ensures (omega arith))
