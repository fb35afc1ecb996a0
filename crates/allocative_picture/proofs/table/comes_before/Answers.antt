-- of comes_before: its answer for paths with as many bytes
use Rattle.std.proofs.Common.{◌≡◌, ap, sym, ◌∙◌, is_lt, nat_cmp, Equal}
use Rattle.allocative_picture.proofs.Common.{path_cmp, texts, ordering_then}
use Rattle.allocative_picture.proofs.Heaviest.{slice_cmp-texts}
use Rattle.allocative_picture.proofs.table.comes_before.Goals as goal

pub returns-in-Equal : goal.returns-in-Equal
returns-in-Equal c =
    let paths = path_cmp (texts c.args.path.now) (texts c.args.other.now.path.items) in
    let tied : nat_cmp c.args.other.now.bytes.0 c.args.bytes ≡ Equal = cc c.in-Equal.ensures in
    let by_path : c.cmp-in-Equal.result ≡ paths =
    rw (← slice_cmp-texts c.args.path.now c.args.other.now.path.items, ← c.as_slice.ensures.value)
    c.cmp-in-Equal.ensures in
    c.is_lt.ensures ∙ ap is_lt (by_path ∙ ap (λ o. ordering_then o paths) (sym tied))
