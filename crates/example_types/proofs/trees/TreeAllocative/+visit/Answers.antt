-- Search does not look below the variant by itself.
use Rattle.std.proofs.Common.{rules}
use Rattle.allocative.proofs.Parts.{parts}
use Rattle.example_types.proofs.trees.TreeAllocative.+visit.Goals as goal

pub returns-in-Leaf : goal.returns-in-Leaf
returns-in-Leaf t c = rw c.in-Leaf.is (search (rules, parts))

pub returns-in-Fork : goal.returns-in-Fork
returns-in-Fork t c = rw c.in-Fork.is (search (rules, parts))
