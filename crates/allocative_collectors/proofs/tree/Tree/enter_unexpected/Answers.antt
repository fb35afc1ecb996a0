-- An entry of 0 bytes, and then one of all bytes.
use Rattle.std.proofs.Common.{arith}
use Rattle.allocative_collectors.proofs.Arena.{entered_twice}
use Rattle.allocative_collectors.proofs.tree.Tree.enter_unexpected.Goals as goal

pub returns-clause-entered : goal.returns-clause-entered
returns-clause-entered c = record {
  fits = omega arith;
  count = c.add_bytes.ensures.room;
  is = rw (← c.new.ensures) (entered_twice _ _ _ _ _ _ _ _ c.in_ok-node.ensures.entered (rw
      (← c.set_follower.ensures, ← c.expect_follower.ensures, ← c.cut_long_list.ensures) c.add_bytes.ensures.raised));
}
