-- of escaped: the result
use Rattle.std.proofs.Common.{ap, sym, ◌∙◌, flat_map}
use Rattle.allocative_json.proofs.Common.{map-id, YieldsList-from_chars, escaped_char}
use Rattle.std.proofs.lemmas.Iterator.Consumers.{YieldsList-end}
use Rattle.allocative_json.proofs.fields.escaped.Goals as goal

-- After the last character the key of the whole name is made.
pub returns : goal.returns
returns c =
    let t = YieldsList-end (YieldsList-from_chars c.args.name.now c.utf8.name cc) c.loop-c.yielded _ c.loop-c.yielded_by
    _ _ c.in-None.is c.next.ensures.steps in
    c.loop-c.invariant ∙ ap (flat_map escaped_char) (sym (map-id c.loop-c.yielded) ∙ t.0)
