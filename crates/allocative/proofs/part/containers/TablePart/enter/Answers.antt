-- of TablePart::enter: the result
use Rattle.std.proofs.Common.{◌<◌, arith}
use Rattle.allocative.proofs.Meaning.{entered_none, entered_as}
use Rattle.allocative.proofs.ContainerMeaning.{means_no_table, means_some_table}
use Rattle.allocative.proofs.part.containers.TablePart.enter.Goals as goal

pub returns-then-self-eq0 : goal.returns-then-self-eq0
returns-then-self-eq0 c = entered_none _ (means_no_table c.if-self-eq0.true)

pub returns : goal.returns
returns c =
    let some : 0 < c.args.self.0 = omega arith in
    entered_as c.enter.ensures (means_some_table some c.raw_table_alloc_size_for_len-bytes.ensures)
