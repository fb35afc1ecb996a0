-- The entries that the iterator gives are the slab's, and it has as many values.
use Rattle.std.proofs.Common.{◌≡◌, ℕ, length, rules, ◌∙◌}
use denote.Ref.{Bor}
use Rattle.slab.proofs.DrainLemmas.{length-values}
use Rattle.allocative.proofs.Common.{values, deref}
use Rattle.std.proofs.lemmas.Iterator.{YieldsList-from_map_by}
use Rattle.std.proofs.lemmas.Iterator.Consumers.{YieldsList-from_first}
use Rattle.allocative.proofs.Meaning.{entered_if, strict_always, means_same}
use Rattle.allocative.proofs.ContainerMeaning.{entered_plain, entered_one_by_one}
use Rattle.allocative.proofs.Runs.{entered_list, values_from}
use Rattle.allocative.proofs.impls.crate_impls.ValuesPart.enter.Goals as goal

pub returns-then-are_shown_each : goal.returns-then-are_shown_each
returns-then-are_shown_each g c =
    let slab = c.args.self.0.now in
    let entries = YieldsList-from_first {A = ℕ × Bor g.row.T.Denot} (λ e. (e.0, e.1.now)) (λ rest. rest)
    _ (c.map-values.ensures.source ∙ c.iter.ensures.rest) in
    entered_one_by_one g.T.Described.layout.name g.T.Described.layout.size g.T.Described.layout.needs_drop
    g.T.Allocative.may_show
    (values slab) (search rules)
    (entered_list (rw (← values_from 0 slab.slots)
    (YieldsList-from_map_by _ deref (λ (e : ℕ × g.row.T.Denot). e.1) entries c.map-values.ensures.closure
    (λ x r q k. search rules)))
    c.visit_run.ensures.entered c.visit_run.ensures.only_if_full)

pub returns : goal.returns
returns g c =
    let slab = c.args.self.0.now in
    let n : c.len.result ≡ length (values slab) = c.len.ensures ∙ length-values slab.slots in
    let entered = rw (c.for_type_name.ensures, n) at c.visit_total_bytes.ensures.entered in
    entered_plain g.T.Described.layout.name g.T.Described.layout.size g.T.Described.layout.needs_drop
    g.T.Allocative.may_show (values slab)
    (search rules) (entered_if entered strict_always means_same)
