-- of starts: a number is that of a child, the sum fits, the step of its loop, and the result
use Rattle.std.proofs.Common.{◌<◌, ◌^◌, ◌∙◌, arith, subst, take_all, All}
use Rattle.std.proofs.lemmas.List.{length-set}
use Rattle.std.proofs.lemmas.List.Sums.{sum_by_more}
use Rattle.allocative_picture.proofs.Common.{total_of}
use Rattle.allocative_picture.proofs.Starting.{bytes_in, no_place, of_children, sum_within, starts_more, starts_all, HasStart}
use Rattle.allocative_picture.specs.Places.{AreInOrder}
use Rattle.allocative_picture.proofs.places.starts.Goals as goal

pub index_mut-requires : goal.index_mut-requires
index_mut-requires c =
    let ys = c.deref-place-items.result.now in
    let h : AreInOrder c.args.order c.args.children.now ys =
    rw c.deref-place-items.ensures.value c.in_ok-places.ensures in
    omega (
      arith,
      c.loop-place.invariant.many,
      (of_children c.args.children.now ys h.same c.loop-place.place-index no_place (omega arith)).0,
    )

pub overflow_add-next : goal.overflow_add-next
overflow_add-next c =
    let ys = c.deref-place-items.result.now in
    let h : AreInOrder c.args.order c.args.children.now ys =
    rw c.deref-place-items.ensures.value c.in_ok-places.ensures in
    omega (
      arith,
      c.requires.fits,
      c.loop-place.invariant.next,
      sum_within c.args.children.now ys c.loop-place.place-index no_place h.same (omega arith),
    )

pub loop-place-preserved : goal.loop-place-preserved
loop-place-preserved c =
    let cs = c.args.children.now in
    let ys = c.deref-place-items.result.now in
    let i = c.loop-place.place-index in
    let h : AreInOrder c.args.order cs ys = rw c.deref-place-items.ensures.value c.in_ok-places.ensures in
    let inv = c.loop-place.invariant in
    record {
      many = length-set c.loop-place.starts.items _ _ ∙ inv.many;
      next = omega (arith, inv.next, sum_by_more bytes_in ys i no_place (omega arith));
      each = starts_more c.args.order c.args.first cs c.requires.sorted (omega (arith, c.requires.fits)) ys h i no_place
          (omega arith) c.loop-place.starts.items c.loop-place.next inv.many inv.next inv.each;
    }

pub returns : goal.returns
returns c =
    let cs = c.args.children.now in
    let ys = c.deref-place-items.result.now in
    let h : AreInOrder c.args.order cs ys = rw c.deref-place-items.ensures.value c.in_ok-places.ensures in
    let fits : total_of cs < 2 ^ 64 = omega (arith, c.requires.fits) in
    let Q = HasStart c.args.order c.args.first cs c.requires.sorted fits ys h c.loop-place.starts.items in
    starts_all c.args.order c.args.first cs c.requires.sorted fits ys h c.loop-place.starts.items
    c.loop-place.invariant.many
    (subst (All Q) (take_all c.loop-place.place-index ys (omega arith)) c.loop-place.invariant.each)
