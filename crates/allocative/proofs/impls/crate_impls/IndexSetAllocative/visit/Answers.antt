-- The set's values, the unused places and the table.
use Rattle.std.proofs.Common.{◌≡◌, ◌-◌, length, arith, rules, refl}
use Rattle.indexmap.specs.IndexSet.{spare}
use Rattle.allocative.proofs.Meaning.{visited_if, strict_both, strict_same, strict_always, means_field, means_both}
use Rattle.allocative.proofs.Meaning.{means_same}
use Rattle.allocative.proofs.ContainerMeaning.{means_index_data, means_table}
use Rattle.allocative.proofs.impls.crate_impls.IndexSetAllocative.visit.Goals as goal

pub returns : goal.returns
returns g c =
    let n : c.len-2.result ≡ length c.args.self.now.keys = search rules in
    let unused : c.capacity.result - c.len.result ≡ spare c.args.self.now = omega arith in
    visited_if c.enter.ensures (strict_both (strict_both strict_same strict_always) strict_always)
    (means_field refl refl (means_both (means_index_data c.size.ensures unused means_same) (means_table n)))
