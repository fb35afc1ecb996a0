-- of a text's tally: the text's entries
use Rattle.allocative_tally.proofs.{arith, text_counted}
use Rattle.allocative_tally.proofs.sequence.StringTallied.tally.Goals as goal

pub returns : goal.returns
returns c = text_counted (omega arith) (omega arith) (omega arith) (omega arith) (omega arith)
