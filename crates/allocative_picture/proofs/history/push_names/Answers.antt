-- of push_names: the result
use Rattle.std.proofs.Common.{◌≡◌, ◌-◌, length, ap, ◌∙◌, slice_get, string_bytes}
use Rattle.allocative_picture.specs.Escape.{escaped}
use Rattle.allocative_picture.specs.History.{name_of, names}
use Rattle.allocative_picture.proofs.history.push_names.Goals as goal

-- The names are appended.
pub returns : goal.returns
unfolding names
returns c =
    let ms = c.args.moments.now in
    let first : string_bytes c.in_ok-first.first ≡ escaped (name_of (slice_get ms 0)) =
    c.in_ok-first.ensures ∙ ap escaped (c.name_of-first.ensures ∙ ap name_of c.first.ensures.value) in
    let last : string_bytes c.in_ok-last.last ≡ escaped (name_of (slice_get ms (length ms - 1))) =
    c.in_ok-last.ensures ∙ ap escaped (c.name_of-last.ensures ∙ ap name_of c.last.ensures.value) in
    rw (← first, ← last) c.in_ok-write.ensures.bytes
