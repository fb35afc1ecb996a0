-- of bucket_count: the result
use Rattle.std.proofs.Common.{refl, arith}
use Rattle.allocative_described.proofs.raw_table.bucket_count.Goals as goal

pub returns-then-len-lt4 : goal.returns-then-len-lt4
returns-then-len-lt4 c = (
  4,
  record {
    empty = λ zero. absurd (omega arith);
    few = λ above below. refl;
    many = λ least. absurd (omega arith);
  },
  refl,
)
