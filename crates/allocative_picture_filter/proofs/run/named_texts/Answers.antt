-- of named_texts: the input at its place
use Rattle.allocative_picture_filter.proofs.Common.{IfSome_then}
use Rattle.allocative_picture_filter.proofs.Moments.{named-at}
use Rattle.allocative_picture_filter.proofs.run.named_texts.Goals as goal

-- The input is put among the files.
pub returns-clause-ok : goal.returns-clause-ok
returns-clause-ok g c =
    IfSome_then (g.R.Read.remaining c.args.input.now) c.in_ok-text.ensures.ok
    (λ known e. named-at c.args.files.now c.in_ok-texts.texts.items c.insert.new.self.items c.args.input_at
    c.in-Some.place c.min-at.result c.in_ok-text.text known c.in-Some.is c.min-at.ensures c.in_ok-texts.ensures.items
    c.in_ok-insert.ensures.items c.in_ok-text.ensures.source e)
