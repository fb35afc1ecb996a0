-- of starts: the invariant of its loop
use Rattle.std.proofs.Common.{◌≡◌, ◌+◌, length, take, sum_by, get_or, All}
use Rattle.allocative_picture.proofs.Starting.{bytes_in, no_child}
use Rattle.allocative_picture.specs.Places.{bytes_before}
use Rattle.allocative_picture.specs.declared.places.Place.{Place}
use Rattle.allocative_picture.proofs.places.starts.Given as goal

-- The children so far have their starts, and the next one begins behind them.
abbrev pub invariant-loop-place : goal.invariant-loop-place
invariant-loop-place l = record {
  many : length l.starts.items ≡ length l.children;
  next : l.next ≡ l.first + sum_by bytes_in (take l.place-index l.place-items);
  each : All (λ (x : Place). get_or l.starts.items x.index 0
      ≡ l.first + bytes_before l.fn.order l.children (get_or l.children x.index no_child))
      (take l.place-index l.place-items);
}
