-- The keys of the chunks so far are smaller.
use Rattle.std.proofs.Common.{◌≡◌, ℕ, ◌<◌}
use Rattle.allocative_collectors.proofs.Common.{Less, key_cmp, key_in, keys_of, flat, before}
use Rattle.allocative_collectors.proofs.tree.search_chunks.Given as goal

abbrev pub invariant-loop-chunk : goal.invariant-loop-chunk
invariant-loop-chunk l = (j : ℕ) → j < before l.chunks l.chunk →
    key_cmp (key_in (keys_of l.nodes (flat l.chunks)) j) l.key ≡ Less
