-- of ReadRight: that it is Sync
use denote.Param.Send.{IsSync, struct_sync, array_sync, sendable}
use Rattle.std.proofs.Common.{[]}
use denote.{Struct.Owning.shape, Builtin.u8, RawPtr.block_of, RawPtr.count_of}
use Rattle.allocative_graph.specs.contracts.static_text.ReadRight as C

-- A `ReadRight` can be shared between threads, since what it owns names no thread.
pub sync : IsSync C.the_row
sync = record {
  shared = λ s b o κ. (
    (struct_sync (shape C.the_type) tt).shared tt b o κ,
    ((array_sync u8 0 (search sendable)).shared s.items (block_of s.ptr) (count_of s.ptr) []).1,
  );
}
