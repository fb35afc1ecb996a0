-- of escaped: the result
use Rattle.std.proofs.Common.{flat_map, map-id, ap, sym, ◌∙◌}
use Rattle.allocative_picture.specs.Escape.{escaped_char}
use Rattle.std.proofs.lemmas.Iterator.{YieldsList-from_chars}
use Rattle.std.proofs.lemmas.Iterator.Consumers.{YieldsList-end}
use Rattle.allocative_picture.proofs.escape.escaped.Goals as goal

-- After the last character the markup of the whole text is made.
pub returns : goal.returns
returns c =
    let t = YieldsList-end (YieldsList-from_chars c.args.text.now c.utf8.text cc) c.loop-c.yielded _ c.loop-c.yielded_by
    _ _ c.in-None.is c.next.ensures.steps in
    c.loop-c.invariant ∙ ap (flat_map escaped_char) (sym (map-id c.loop-c.yielded) ∙ t.0)
