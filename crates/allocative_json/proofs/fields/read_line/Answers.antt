-- of read_line: ok, if no line feed ended the line
use Rattle.std.proofs.Common.{◌≡◌, arith, length, drop, ap, subst, sym, refl, ◌∙◌}
use Rattle.std.specs.Io.{StopsAt}
use Rattle.std.specs.Io.KnownBytes.{Consumes}
use Rattle.allocative_json.proofs.FieldsLemmas.{at_end, unended}
use Rattle.allocative_json.proofs.fields.read_line.Goals as goal

-- What was read is all that the reader had.
pub returns-in-Ok-2-clause-ok : goal.returns-in-Ok-2-clause-ok
returns-in-Ok-2-clause-ok g c =
    let line = c.read_until.new.buf.items in
    let known = g.R.Read.remaining c.args.input.now in
    let now = g.R.Read.remaining c.read_until.new.self in
    let all : drop (length c.clear.new.self.items) line ≡ line = ap (λ l. drop (length l) line) c.clear.ensures.items in
    let one = unended line c.last.result _ (rw c.deref.ensures.value at (c.last.ensures.item.4 (omega arith) 0)) refl
    (sym c.if-eq.false ∙ c.eq.ensures) (subst (λ l. StopsAt l 10) all c.read_until.ensures.stops) in
    let taken = subst (Consumes known now) all c.read_until.ensures.none_lost in
    let bytes = rw c.clear.ensures.items at c.in-Ok-2.ensures.bytes in
    record { one = one; taken = taken; last = λ _. at_end known now line taken bytes one }
