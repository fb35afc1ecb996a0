-- The three cases of a buffer, and an item without a size.
use Rattle.std.proofs.Common.{arith, rules, ◌≡◌, ◌+◌, ◌<◌}
use Rattle.allocative.proofs.Meaning.{entered_if, entered_none, undeclared_refused, strict_same, strict_both}
use Rattle.allocative.proofs.Meaning.{strict_always}
use Rattle.allocative.proofs.ContainerMeaning.{means_without_size, means_without_room, means_with_room, no_buffer}
use Rattle.allocative.proofs.part.containers.BufferPart.enter.Goals as goal

pub returns-in_default : goal.returns-in_default
returns-in_default g c = undeclared_refused (no_buffer (search rules)) c.refuse.ensures

pub returns-then-size-eq0 : goal.returns-then-size-eq0
returns-then-size-eq0 g c = entered_none _ (means_without_size c.in-Some.is c.if-size-eq0.true)

pub returns-then-self-eq0-2 : goal.returns-then-self-eq0-2
returns-then-self-eq0-2 g c =
    let none : c.args.self.count ≡ 0 = omega arith in
    let full : c.args.self.capacity ≡ 0 = omega arith in
    entered_none _ (means_without_room c.in-Some.is none full)

pub returns : goal.returns
returns g c =
    let some : 0 < c.in-Some.size = omega arith in
    let room : 0 < c.args.self.count + c.args.self.capacity = omega arith in
    entered_if c.enter.ensures (strict_both strict_same strict_always)
    (means_with_room c.in-Some.is some room (search rules))
