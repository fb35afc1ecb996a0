-- of Shelf::change: the value is changed in its place, or goes
use Rattle.std.proofs.Common.{◌≡◌, ◌+◌, ◌-◌, Some, arith, refl, rules, sym}
use Rattle.std.proofs.lemmas.Option.{same_Some}
use Rattle.std.specs.BTreeMap.{is_at}
use Rattle.std.specs.Map.{remove_entry, set_value}
use Rattle.allocative_service.specs.Kept.{IsBilled, kept_as}
use Rattle.allocative_service.specs.declared.kept.Kept.{Kept}
use Rattle.allocative_service.proofs.Accounts.{sum_by-written}
use Rattle.allocative_service.proofs.Billing.{billed-remove, billed-set, entry_within, found_within, key_written}
use Rattle.allocative_service.proofs.Billing.{lookup_written, removed_sum, removed_written}
use Rattle.allocative_service.proofs.store.shelf.Shelf+K+V.change.Goals as goal
use Rattle.allocative_service.proofs.store.shelf.Shelf+K+V.change.Goals.{in-Some-remove_entry, in-None}

pub invariant_of-self-in-Ok : goal.invariant_of-self-in-Ok
invariant_of-self-in-Ok g c =
    let P = IsBilled g.K.Described.layout.size g.K.Allocative.may_show g.V.Described.layout.size g.V.Allocative.may_show
    c.self.inside.measure in
    let test = is_at (g.K.Ord.cmp c.args.key.now) in
    let es = c.self.inside.entries.entries in
    let w : Kept g.row.V.Denot =
    kept_as c.change.new.arg2 c.in-Some.entry.now.key_bytes c.in-Ok.bytes in
    let written : (c.get_mut.follows.lender w).entries ≡ set_value test es w = search rules in (
      search (rules, sum_by-written, entry_within),
      search rules,
      rw written (billed-set P test es c.in-Some.entry.now w (sym c.in-Some.ensures.value)
          (λ k h. record {
            value_bytes = c.in-Ok.bytes;
            of_key = h.of_key;
            of_value = c.in-Ok.ensures.declared;
            together = refl;
          })
          c.self.invariant.2),
    )

pub invariant_of-self-2 : goal.invariant_of-self-2
invariant_of-self-2 g c =
    let test = is_at (g.K.Ord.cmp c.args.key.now) in
    let es = c.self.inside.entries.entries in
    let sum = removed_sum (λ e. e.bytes) test es c.in-Some.entry.now c.in-Some.ensures.value in
    let left : c.remove_entry.new.self.entries ≡ remove_entry test es = search (rules, removed_written) in
    rw left (
      omega (arith, sum, c.self.invariant.0),
      omega (arith, c.self.invariant.1),
      billed-remove (IsBilled g.K.Described.layout.size g.K.Allocative.may_show g.V.Described.layout.size
          g.V.Allocative.may_show c.self.inside.measure) test es c.self.invariant.2,
    )

pub returns-in-Ok-clause-ok : goal.returns-in-Ok-clause-ok
returns-in-Ok-clause-ok g c =
    let es = c.self.inside.entries.entries in
    let test = is_at (g.K.Ord.cmp c.args.key.now) in
    let part = found_within (λ e. e.bytes) test es c.in-Some.entry.now c.in-Some.ensures.value in
    rw (← c.self.view_is) (record {
      had = c.in-Some.entry.now;
      entry = kept_as c.change.new.arg2 c.in-Some.entry.now.key_bytes c.in-Ok.bytes;
      value_bytes = c.in-Ok.bytes;
      total = c.self.inside.bytes - c.in-Some.entry.now.bytes + (c.in-Some.entry.now.key_bytes + c.in-Ok.bytes);
      found = sym c.in-Some.ensures.value;
      changes = search rules;
      of_value = c.in-Ok.ensures.declared;
      of_key = refl;
      together = refl;
      total_is = omega (arith, part, c.self.invariant.0);
      is = search rules;
    })

pub returns-clause-refused : goal.returns-clause-refused
returns-clause-refused g c =
    let test = is_at (g.K.Ord.cmp c.args.key.now) in
    let es = c.self.inside.entries.entries in
    let had = c.in-Some.entry.now in
    let changed : Kept g.row.V.Denot =
    record { value = c.change.new.arg2; bytes = had.bytes; key_bytes = had.key_bytes } in
    let again = lookup_written test es had changed (sym c.in-Some.ensures.value) in
    elim c.match-remove_entry.branch [
      | in-Some-remove_entry w ↦
          let same : Some w.in-Some-remove_entry.entry ≡ Some changed = search (rules, again) in
          let is = same_Some w.in-Some-remove_entry.entry changed same in
          rw (w.result-is, ← c.self.view_is, is) (record {
            had = had;
            found = sym c.in-Some.ensures.value;
            has_key = search (rules, key_written);
            changes = search rules;
            refuses = search rules;
          })
      | in-None w ↦ rw w.result-is tt
    ]
