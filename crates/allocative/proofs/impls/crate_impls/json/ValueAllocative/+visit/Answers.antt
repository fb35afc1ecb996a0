-- Each variant is one level of the value.
use Rattle.std.proofs.Common.{◌≡◌, length, refl, rules}
use Rattle.allocative.proofs.Common.{out-Value, the_lemmas, Value-F}
use Rattle.allocative.proofs.Meaning.{visited_as, means_inside, means_field, means_same}
use Rattle.allocative.proofs.ContainerMeaning.{means_buffer}
use Rattle.allocative.proofs.Levels.{means_recursive}
use Rattle.allocative.proofs.impls.crate_impls.json.ValueAllocative.+visit.Goals as goal

pub returns-in-Null : goal.returns-in-Null
returns-in-Null t c =
    let e : out-Value c.args.self.now ≡ Value-F.Null = search (rules, the_lemmas) in
    visited_as c.enter.ensures (means_recursive (rw e (means_inside refl means_same)))

pub returns-in-Bool : goal.returns-in-Bool
returns-in-Bool t c =
    let e : out-Value c.args.self.now ≡ Value-F.Bool c.in-Bool.field-0 = search (rules, the_lemmas) in
    visited_as c.enter-in-Bool.ensures (means_recursive (rw e (means_inside refl means_same)))

pub returns-in-Number : goal.returns-in-Number
returns-in-Number t c =
    let e : out-Value c.args.self.now ≡ Value-F.Number c.in-Number.number = search (rules, the_lemmas) in
    visited_as c.enter-in-Number.ensures (means_recursive (rw e (means_inside refl (means_inside refl means_same))))

pub returns-in-String : goal.returns-in-String
returns-in-String t c =
    let e : out-Value c.args.self.now ≡ Value-F.String c.in-String.text = search (rules, the_lemmas) in
    visited_as c.enter-in-String.ensures (means_recursive (rw e (means_inside refl (means_inside refl means_same))))

pub returns-in-Array : goal.returns-in-Array
returns-in-Array t c =
    let items = c.in-Array.items in
    let e : out-Value c.args.self.now ≡ Value-F.Array items = search (rules, the_lemmas) in
    let n : c.len.result ≡ length items.items = search rules in
    visited_as c.enter-in-Array.ensures
    (means_recursive (rw e (means_inside refl
    (means_inside refl (means_field refl refl (means_buffer refl n (search rules) means_same))))))

pub returns-in-Object : goal.returns-in-Object
returns-in-Object t c =
    let e : out-Value c.args.self.now ≡ Value-F.Object c.in-Object.map = search (rules, the_lemmas) in
    visited_as c.enter-in-Object.ensures (means_recursive (rw e (means_inside refl means_same)))
