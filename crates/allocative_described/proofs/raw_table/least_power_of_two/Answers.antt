-- of least_power_of_two: the result
use Rattle.std.proofs.Common.{arith}
use Rattle.allocative_described.proofs.Sizes.{power_answered}
use Rattle.allocative_described.proofs.raw_table.least_power_of_two.Goals as goal

pub returns : goal.returns
returns c =
    let answer = c.checked_next_power_of_two in
    power_answered c.args.number answer.result c.requires (omega arith) answer.ensures
    (λ n is. omega (arith, rw is at answer.type_inv))
