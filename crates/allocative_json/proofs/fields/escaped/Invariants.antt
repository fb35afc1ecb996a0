-- of escaped: the invariant of its loop
use Rattle.std.proofs.Common.{◌≡◌, flat_map, string_bytes}
use Rattle.allocative_json.proofs.Common.{escaped_char}
use Rattle.allocative_json.proofs.fields.escaped.Given as goal

-- The text is the key of the characters so far.
abbrev pub invariant-loop-c : goal.invariant-loop-c
invariant-loop-c l = string_bytes l.made ≡ flat_map escaped_char l.yielded
