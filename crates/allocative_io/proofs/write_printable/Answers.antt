-- of write_printable: beginning
use Rattle.std.proofs.Common.{sym, ◌∙◌}
use Rattle.allocative_io.proofs.Printed.{plain_split, control_split}
use Rattle.allocative_io.proofs.Writes.{written_partly}
use Rattle.allocative_io.proofs.write_printable.Goals as goal

-- A control character is cut off.
pub returns-in_err-write_bytes-clause-beginning : goal.returns-in_err-write_bytes-clause-beginning
returns-in_err-write_bytes-clause-beginning g c =
    written_partly _ _ _ _ _ _ _ c.loop-byte.invariant c.write_bytes.ensures.beginning
    (control_split c.loop-byte.rest.now _ c.in-Some.byte.now _ _ c.in-Some.ensures.cases.0
    (sym c.is_ascii_control.ensures.value ∙ c.if-is_ascii_control.true)
    c.last_digit-high.ensures c.last_digit-low.ensures)

-- The bytes before one are cut off.
pub returns-in_err-write_bytes-2-clause-beginning : goal.returns-in_err-write_bytes-2-clause-beginning
returns-in_err-write_bytes-2-clause-beginning g c =
    written_partly _ _ _ _ _ _ _ c.loop-byte.invariant c.write_bytes-in-Some.ensures.beginning
    (plain_split c.loop-byte.rest.now _ _ c.plain_len.result c.plain_len.ensures.plain
    c.split_at.ensures.front c.split_at.ensures.back)
