-- of Shelf::bill: the room, and the refusals
use Rattle.std.proofs.Common.{inl, rules, sym}
use Rattle.std.specs.BTreeMap.{is_at}
use Rattle.allocative_service.specs.Book.{account_data}
use Rattle.allocative_service.proofs.Billing.{refuses, refuses_new, room_there}
use Rattle.allocative_service.proofs.store.shelf.Shelf+K+V.bill.Goals as goal

pub returns-in-Ok-clause-room : goal.returns-in-Ok-clause-room
returns-in-Ok-clause-room g c =
    let room = rw c.self.invariant.0 at c.in-Ok.ensures.room in
    rw (← c.self.view_is) (room_there g.K.Described.layout.size g.K.Allocative.may_show g.V.Described.layout.size
    g.V.Allocative.may_show c.self.inside.measure (is_at (g.K.Ord.cmp c.args.key.now)) c.self.inside.entries.entries
    c.args.key.now c.self.invariant.2 c.args.all c.args.most _ _ c.in-Ok.key_bytes c.in_ok-value_bytes.value_bytes room)

pub returns-in_default-clause-refused : goal.returns-in_default-clause-refused
returns-in_default-clause-refused g c =
    let i = c.self.inside in
    let a = account_data i.measure i.budget.limit i.soft_limit i.peak i.entries.entries in
    rw (← c.self.view_is) (refuses_new g.K.Described.layout.size g.K.Allocative.may_show g.V.Described.layout.size
    g.V.Allocative.may_show g.K.Allocative.is_strict g.V.Allocative.is_strict g.K.Ord.cmp c.args.all c.args.most
    c.args.key.now c.args.value.now a c.in-Err.refused c.in_ok-value_bytes.value_bytes c.self.invariant.2
    (search rules) c.in_ok-value_bytes.ensures.measured (rw c.self.invariant.0 at c.in-Err.ensures.rejected))

pub returns-in-Err-check-clause-refused : goal.returns-in-Err-check-clause-refused
returns-in-Err-check-clause-refused g c =
    let i = c.self.inside in
    let a = account_data i.measure i.budget.limit i.soft_limit i.peak i.entries.entries in
    let is = sym c.in-Some.ensures.value in
    let large = rw c.self.invariant.0 at c.in-Err-check.ensures.rejected in
    rw (← c.self.view_is) (refuses g.K.Described.layout.size g.K.Allocative.may_show g.V.Described.layout.size
    g.V.Allocative.may_show g.K.Allocative.is_strict g.V.Allocative.is_strict g.K.Ord.cmp c.args.all c.args.most
    c.args.key.now c.args.value.now a c.in-Err-check.refused 0 c.in_ok-value_bytes.value_bytes c.self.invariant.2
    (λ none. absurd (cc is)) c.in_ok-value_bytes.ensures.measured (inl (rw is large)))
