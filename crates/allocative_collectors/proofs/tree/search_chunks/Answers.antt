-- What is found in a chunk, whose keys come after those of the chunks before.
use Rattle.std.proofs.Common.{arith}
use Rattle.allocative_collectors.proofs.Common.{key_at, length-map}
use Rattle.allocative_collectors.proofs.Chunks.{contained, before_more, less_part, gap_part}
use Rattle.allocative_collectors.proofs.tree.search_chunks.Goals as goal

pub returns-in-Ok-clause-found : goal.returns-in-Ok-clause-found
returns-in-Ok-clause-found c = (
  contained c.args.chunks.now c.loop-chunk.chunk c.index-chunks-chunk.result c.loop-chunk-test.true
      c.as_slice-numbers.ensures.value c.in-Ok.number c.in-Ok.ensures.found.0,
  c.in-Ok.ensures.found.1,
)

pub returns-in-Err-clause-absent : goal.returns-in-Err-clause-absent
returns-in-Err-clause-absent c =
    let K = key_at c.args.nodes.now in
    gap_part c.args.chunks.now c.loop-chunk.chunk c.index-chunks-chunk.result c.loop-chunk-test.true
    c.as_slice-numbers.ensures.value c.args.nodes.now c.requires.rise c.args.key.now c.loop-chunk.invariant
    c.in-Err.index c.in-Err.ensures.absent (omega (arith, length-map c.as_slice-numbers.result.now K))

pub loop-chunk-preserved : goal.loop-chunk-preserved
loop-chunk-preserved c =
    let cs = c.args.chunks.now in
    let xs = c.as_slice-numbers.result.now in
    let K = key_at c.args.nodes.now in
    let next = before_more cs c.loop-chunk.chunk c.index-chunks-chunk.result c.loop-chunk-test.true
    c.as_slice-numbers.ensures.value in
    λ j lt. less_part cs c.loop-chunk.chunk c.index-chunks-chunk.result c.loop-chunk-test.true
    c.as_slice-numbers.ensures.value c.args.nodes.now c.requires.rise c.args.key.now c.loop-chunk.invariant
    c.in-Err.index c.in-Err.ensures.absent j (omega (arith, length-map xs K))
