-- of Shelf::put: the value is kept and billed with its key, or memory runs out
use Rattle.std.proofs.Common.{◌+◌, ◌-◌, ap, arith, inr, option_map, refl, rules}
use Rattle.std.proofs.lemmas.Map.Entries.{sum_by-insert_entry}
use Rattle.std.specs.BTreeMap.{is_at}
use Rattle.std.specs.Map.{lookup}
use Rattle.allocative_service.specs.Book.{account_data}
use Rattle.allocative_service.specs.Kept.{IsBilled, kept_as, kept_bytes, key_bytes_in}
use Rattle.allocative_service.proofs.Billing.{billed-insert, entry_within, key_billed, refuses}
use Rattle.allocative_service.proofs.store.shelf.Shelf+K+V.put.Goals as goal

pub invariant_of-self : goal.invariant_of-self
invariant_of-self g c =
    let test = is_at (g.K.Ord.cmp c.args.key) in
    let es = c.self.inside.entries.entries in
    let entry = kept_as c.args.value (key_bytes_in (lookup test es) c.in-Ok.bill.0) c.in-Ok.bill.1 in
    let given = rw (← c.self.view_is) at c.in-Ok.ensures.key in
    let value = rw (← c.self.view_is) at c.in-Ok.ensures.value in
    let of_key = key_billed g.K.Described.layout.size g.K.Allocative.may_show g.V.Described.layout.size
    g.V.Allocative.may_show c.self.inside.measure test es c.args.key c.self.invariant.2 c.in-Ok.bill.0 given in
    let sorted = c.write.ensures.ordered in
    let sum = sum_by-insert_entry kept_bytes g.met.K.Ord.total es c.args.key entry sorted in
    let part = (entry_within kept_bytes test es).1 in
    rw c.in-Ok-write.ensures.put (
      omega (arith, sum, part, c.in-Ok-write.ensures.had, c.in-Ok-write.ensures.bytes, c.self.invariant.0),
      search rules,
      billed-insert (IsBilled g.K.Described.layout.size g.K.Allocative.may_show g.V.Described.layout.size
          g.V.Allocative.may_show c.self.inside.measure) g.met.K.Ord.total es c.args.key entry sorted
          (record { value_bytes = c.in-Ok.bill.1; of_key = of_key; of_value = value; together = refl })
          c.self.invariant.2,
    )

pub returns-in-Ok-write-clause-ok : goal.returns-in-Ok-write-clause-ok
returns-in-Ok-write-clause-ok g c =
    let test = is_at (g.K.Ord.cmp c.args.key) in
    let es = c.self.inside.entries.entries in
    let given = rw (← c.self.view_is) at c.in-Ok.ensures.key in
    let value = rw (← c.self.view_is) at c.in-Ok.ensures.value in
    let room = rw (← c.self.view_is) at c.in-Ok.ensures.room in
    let of_key = key_billed g.K.Described.layout.size g.K.Allocative.may_show g.V.Described.layout.size
    g.V.Allocative.may_show c.self.inside.measure test es c.args.key c.self.invariant.2 c.in-Ok.bill.0 given in
    let part = (entry_within kept_bytes test es).1 in
    rw (← c.self.view_is) (record {
      entry = kept_as c.args.value (key_bytes_in (lookup test es) c.in-Ok.bill.0) c.in-Ok.bill.1;
      total = c.self.inside.bytes - c.in-Ok-write.had + c.in-Ok-write.bytes;
      value = refl;
      billed = record { value_bytes = c.in-Ok.bill.1; of_key = of_key; of_value = value; together = refl };
      room = room;
      total_is =
          omega (arith, part, c.in-Ok-write.ensures.had, c.in-Ok-write.ensures.bytes, c.self.invariant.0);
      is = search rules;
    })

pub returns-in-Err-write-clause-refused : goal.returns-in-Err-write-clause-refused
returns-in-Err-write-clause-refused g c =
    let i = c.self.inside in
    let a = account_data i.measure i.budget.limit i.soft_limit i.peak i.entries.entries in
    let given = rw (← c.self.view_is) at c.in-Ok.ensures.key in
    let value = rw (← c.self.view_is) at c.in-Ok.ensures.value in
    let room = rw (← c.self.view_is) at c.in-Ok.ensures.room in
    rw (← c.self.view_is) (refuses g.K.Described.layout.size g.K.Allocative.may_show g.V.Described.layout.size
    g.V.Allocative.may_show g.K.Allocative.is_strict g.V.Allocative.is_strict g.K.Ord.cmp c.args.all c.args.most
    c.args.key c.args.value a _ c.in-Ok.bill.0 c.in-Ok.bill.1 c.self.invariant.2 given value
    (inr (refl, ap (option_map kept_bytes) c.in-Err-write.ensures.absent, room)))
