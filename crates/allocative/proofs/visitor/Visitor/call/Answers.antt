-- of Visitor::call: the result
use Rattle.std.proofs.Common.{refl}
use Rattle.allocative.proofs.Closures.{called_ok, called_err, returned}
use Rattle.allocative.proofs.visitor.Visitor.call.Goals as goal

pub returns-in-Err : goal.returns-in-Err
returns-in-Err g c =
    called_err _ _ c.requires.keeps (returned _ _ c.visit.ensures refl c.in-Err.is refl) c.refuse.ensures

pub returns : goal.returns
returns g c = called_ok _ _ c.requires.keeps (returned _ _ c.visit.ensures refl c.in_default.is refl)
