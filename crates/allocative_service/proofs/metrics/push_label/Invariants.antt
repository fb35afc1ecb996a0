-- of push_label: the invariant of its loop
use Rattle.std.proofs.Common.{◌≡◌, ◌++◌, encode_utf8_all, string_bytes}
use Rattle.allocative_service.specs.Metrics.{escaped}
use Rattle.allocative_service.proofs.metrics.push_label.Given as goal

-- The characters so far are appended.
abbrev pub invariant-loop-c : goal.invariant-loop-c
invariant-loop-c l = string_bytes l.text ≡ string_bytes l.fn.text ++ encode_utf8_all (escaped l.yielded)
