-- of without_unused: the invariant of its loop and its recursion ends
use Rattle.std.proofs.Common.{◌≡◌, ◌++◌, string_bytes, length}
use Rattle.allocative_json.proofs.Common.{kept_lines}
use denote.Text.{Utf8}
use denote.Shadow.{shadow}
use Rattle.allocative_json.proofs.texts.without_unused.Given as goal

-- The lines kept so far, followed by those of the rest.
abbrev pub invariant-loop-line : goal.invariant-loop-line
invariant-loop-line l = shadow (Utf8 l.rest) × (string_bytes l.kept ++ kept_lines l.rest ≡ kept_lines l.text)

-- Each round takes a line off the rest.
abbrev pub decreases-loop-line : goal.decreases-loop-line
decreases-loop-line l = length l.rest
