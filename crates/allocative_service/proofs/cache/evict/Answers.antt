-- Each round is one step of evicting, and finds an entry.
use Rattle.std.proofs.Common.{◌≡◌, ◌-◌, ◌∙◌, List, None, ap, arith, length, refl, slice_get, sym, of_calls}
use Rattle.std.proofs.lemmas.Option.{gets}
use Rattle.allocative_service.proofs.Caching.{goes}
use Rattle.allocative_service.proofs.cache.evict.Goals as goal

-- One entry more is evicted.
pub loop-left-preserved : goal.loop-left-preserved
loop-left-preserved g c =
    let step = goes _ _ _ _ _ _ (c.in-Some.key, c.in-Some.gone) c.loop-left.invariant.evicted (omega arith)
    (sym c.in-Some.ensures.value) in
    rw (c.in-Some.ensures.entries, c.saturating_sub-left.ensures) (record {
      callable = search of_calls;
      evicted = step.1 c.on_evict.new.self c.on_evict.ensures;
      left = ap (λ n. n - c.in-Some.gone.bytes) c.loop-left.invariant.left ∙ step.0;
      capacity = c.loop-left.invariant.capacity;
    })

-- A list without a last entry is empty.
none_left : {X : Type 0} (es : List X) → slice_get es (length es - 1) ≡ None → length es ≡ 0
none_left es none = grind (arith, gets)

-- If no entry is left, no bytes are.
pub returns-in_default-clause-bytes : goal.returns-in_default-clause-bytes
returns-in_default-clause-bytes g c = rw (c.in_default.ensures.entries, none_left _ (sym c.in_default.ensures.value))
    refl
