-- of write_line: beginning
use Rattle.std.proofs.Common.{[], arith}
use Rattle.allocative_io.proofs.Printed.{texts_split, texts_end}
use Rattle.allocative_io.proofs.Writes.{written_partly}
use Rattle.allocative_io.proofs.write_line.Goals as goal

-- A text is cut off.
pub returns-in_err-write_printable-clause-beginning : goal.returns-in_err-write_printable-clause-beginning
returns-in_err-write_printable-clause-beginning g c =
    written_partly _ _ _ _ _ _ _ c.loop-text.invariant c.write_printable.ensures.beginning
    (texts_split c.args.texts.now c.loop-text.text-index _ c.loop-text-test.true)

-- The line feed is cut off.
pub returns-clause-beginning : goal.returns-clause-beginning
returns-clause-beginning g c =
    written_partly _ _ _ _ _ _ [] c.loop-text.invariant c.write_text.ensures.beginning
    (texts_end c.args.texts.now c.loop-text.text-index (omega arith))
