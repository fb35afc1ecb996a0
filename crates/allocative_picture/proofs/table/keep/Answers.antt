-- of keep: what is kept at each of its returns
use Rattle.std.proofs.Common.{◌≡◌, ◌<◌, ◌≤◌, length, ap, sym, ◌∙◌, is_lt, true, false, arith, refl}
use Rattle.allocative_picture.proofs.Common.{texts, length-map}
use Rattle.std.proofs.lemmas.Result.{on_ok_weaker}
use Rattle.std.specs.BinaryHeap.{heap_items}
use Rattle.allocative_picture.specs.Table.{weight_cmp, weight_of}
use Rattle.allocative_picture.proofs.Heaviest.{Weighed, keeps_empty, keeps_pushed, keeps_full, keeps_replaced, none_after}
use Rattle.allocative_picture.proofs.table.keep.Goals as goal

pub returns-then-bytes-eq0 : goal.returns-then-bytes-eq0
returns-then-bytes-eq0 c =
    keeps_empty c.args.most (texts c.args.path.now.items) c.args.bytes c.args.heaviest.now c.if-bytes-eq0.true

pub returns-then-len-most : goal.returns-then-len-most
returns-then-len-most c =
    on_ok_weaker c.push_heavy.result
    (keeps_pushed c.args.most (texts c.args.path.now.items, c.args.bytes) c.args.heaviest.now c.push_heavy.new.heaviest
    (omega (arith, c.if-bytes-eq0.false))
    (omega (arith, c.if-len-most.true, c.len.ensures, c.args.heaviest.now.data.ok.0)))
    c.push_heavy.ensures

pub returns-in_default : goal.returns-in_default
returns-in_default c =
    let full : c.args.most ≤ length (heap_items c.args.heaviest.now) =
    omega (arith, c.if-len-most.false, c.len.ensures, c.args.heaviest.now.data.ok.0) in
    keeps_full c.args.most (texts c.args.path.now.items, c.args.bytes) c.args.heaviest.now full
    (λ _ k d w. let some : 0 < length (heap_items c.args.heaviest.now) =
    omega (arith, w, length-map (heap_items c.args.heaviest.now) weight_of) in
    cc (c.in_default.ensures.variant.1 (omega (arith, some, c.args.heaviest.now.data.ok.0))))

pub returns : goal.returns
returns c =
    let full : c.args.most ≤ length (heap_items c.args.heaviest.now) =
    omega (arith, c.if-len-most.false, c.len.ensures, c.args.heaviest.now.data.ok.0) in
    let f : Weighed = (texts c.args.path.now.items, c.args.bytes) in
    let later : is_lt (weight_cmp f (weight_of c.in-Some.last.now)) ≡ false =
    ap (λ ks. is_lt (weight_cmp (texts ks, c.args.bytes) (weight_of c.in-Some.last.now))) (sym c.as_slice.ensures.value)
    ∙ sym c.comes_before.ensures ∙ c.if-comes_before.false in
    keeps_full c.args.most f c.args.heaviest.now full
    (λ ordered. none_after c.args.heaviest.now c.in-Some.last.now f (c.in-Some.ensures.greatest ordered) later)

pub returns-then-comes_before : goal.returns-then-comes_before
returns-then-comes_before c =
    let heap = c.args.heaviest.now in
    let full : c.args.most ≤ length (heap_items heap) =
    omega (arith, c.if-len-most.false, c.len.ensures, heap.data.ok.0) in
    let f : Weighed = (texts c.args.path.now.items, c.args.bytes) in
    let before : is_lt (weight_cmp f (weight_of c.in-Some.last.now)) ≡ true =
    ap (λ ks. is_lt (weight_cmp (texts ks, c.args.bytes) (weight_of c.in-Some.last.now))) (sym c.as_slice.ensures.value)
    ∙ sym c.comes_before.ensures ∙ c.if-comes_before.true in
    let some = c.in-Some.ensures.variant.0 refl in
    on_ok_weaker c.push_heavy-then-comes_before.result
    (keeps_replaced c.args.most f c.in-Some.last.now
    c.pop.result heap c.pop.new.self c.push_heavy-then-comes_before.new.heaviest full
    (omega (arith, some, heap.data.ok.0)) (omega (arith, c.if-bytes-eq0.false)) (c.pop.ensures.variant.1 some)
    c.pop.ensures.top c.pop.ensures.permutation c.pop.ensures.heap_order c.pop.ensures.below_top
    c.in-Some.ensures.lookup before)
    c.push_heavy-then-comes_before.ensures
