-- of RequestAllocative::visit: the result
use Rattle.std.proofs.Common.{rules}
use Rattle.allocative.proofs.Parts.{parts}
use Rattle.example_types.proofs.enums.RequestAllocative.visit.Goals as goal

pub returns-in-Draw : goal.returns-in-Draw
returns-in-Draw c = rw c.in-Draw.is (search (rules, parts))
