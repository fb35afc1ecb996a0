-- of push_label: the step of its loop, and the result
use Rattle.std.proofs.Common.{◌++◌, encode_utf8_all, map-id, ap, sym, ◌∙◌, string_bytes}
use Rattle.std.proofs.lemmas.Iterator.{YieldsList-from_chars}
use Rattle.std.proofs.lemmas.Iterator.Consumers.{YieldsList-end}
use Rattle.allocative_service.specs.Metrics.{escaped}
use Rattle.allocative_service.proofs.metrics.push_label.Goals as goal

pub returns : goal.returns
returns c =
    let t = YieldsList-end (YieldsList-from_chars c.args.value.now c.utf8.value cc) c.loop-c.yielded _
    c.loop-c.yielded_by _ _ c.in-None.is c.next.ensures.steps in
    let all = sym (map-id c.loop-c.yielded) ∙ t.0 in
    c.loop-c.invariant ∙ ap (λ cs. string_bytes c.args.text.now ++ encode_utf8_all (escaped cs)) all
