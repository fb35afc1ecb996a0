-- of the tally of `Slab`: its entry, and inside it its buffer
use Rattle.std.{proofs.Common.ℕ, specs.Map.Iter.deref, proofs.lemmas.Iterator.YieldsList-from_map_by}
use Rattle.std.{proofs.lemmas.Iterator.Consumers.YieldsList-from_first}
use denote.Ref.{Bor}
use Rattle.slab.proofs.DrainLemmas.{length-values}
use Rattle.allocative.proofs.Runs.{values_from}
use Rattle.allocative_tally.proofs.{◌≡◌, ◌∙◌, arith, false, rules, container, of_every, as_itself, told_by}
use Rattle.allocative_tally.proofs.pack.SlabTallied.tally.Goals as goal

pub returns : goal.returns
returns g c =
    let slab = c.args.self.now in
    let entries = YieldsList-from_first {A = ℕ × Bor g.row.T.Denot} (λ e. (e.0, e.1.now)) (λ rest. rest)
    _ (c.map-values.ensures.source ∙ c.iter.ensures.rest) in
    let capacity : c.capacity.result ≡ slab.capacity = search rules in
    let told = of_every (rw (← values_from 0 slab.slots) (YieldsList-from_map_by _ deref
    (λ (e : ℕ × g.row.T.Denot). e.1) entries c.map-values.ensures.closure (λ x r q k. search rules)))
    c.count_buffer.ensures (c.len.ensures ∙ length-values slab.slots) false in
    container 40 _ (omega arith) (omega arith) as_itself (told_by _ (rw (c.len.ensures, capacity) at told))
