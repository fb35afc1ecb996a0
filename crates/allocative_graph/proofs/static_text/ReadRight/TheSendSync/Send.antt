-- of ReadRight: that it is Send
use denote.Param.Send.{IsSend, owning_send, array_sync, sendable}
use Rattle.std.proofs.Common.{[]}
use denote.{Builtin.u8, RawPtr.block_of, RawPtr.count_of}
use Rattle.allocative_graph.specs.contracts.static_text.ReadRight as C

-- A `ReadRight` can be sent to another thread, since what it owns names no thread.
pub send : IsSend C.the_row
send = owning_send C.the_type tt (λ s.
    ((array_sync u8 0 (search sendable)).shared s.items (block_of s.ptr) (count_of s.ptr) []).1) (λ k x w. tt)
