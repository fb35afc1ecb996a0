-- of made_of: ok and too_large
use Rattle.std.proofs.Common.{string_bytes, subst₂}
use Rattle.allocative_picture.specs.Views.{new_key}
use Rattle.allocative_picture_filter.proofs.Common.{IfOk-weaker}
use Rattle.allocative_picture_filter.specs.Run.{Shows}
use Rattle.allocative_picture_filter.proofs.run.made_of.Goals as goal

-- What is written of the turned graphs is written.
pub returns-clause-ok : goal.returns-clause-ok
returns-clause-ok c = IfOk-weaker c.made_of_turned.result _ _
    (λ made is. (
      new_key c.in_ok-names.names,
      subst₂ (λ g h. Shows c.args.asked.now c.args.change g h (string_bytes made))
          c.in_ok-turned_earlier.ensures.turned c.in_ok-turned_later.ensures.turned is,
    )) c.made_of_turned.ensures.ok

-- A turned graph has the bytes of the graph.
pub returns-clause-too_large : goal.returns-clause-too_large
returns-clause-too_large c =
    rw (← c.in_ok-turned_earlier.ensures.total, ← c.in_ok-turned_later.ensures.total) c.made_of_turned.ensures.too_large
