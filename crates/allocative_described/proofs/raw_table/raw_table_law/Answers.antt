-- of raw_table_law: the result
use Rattle.allocative_described.proofs.Sizes.{raw_table_size_same}
use Rattle.allocative_described.proofs.raw_table.raw_table_law.Goals as goal

pub returns : goal.returns
returns c = raw_table_size_same
