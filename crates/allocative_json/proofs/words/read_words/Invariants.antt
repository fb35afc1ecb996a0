-- of read_words: the invariant of its loop
use Rattle.std.proofs.Common.{take}
use Rattle.allocative_json.proofs.Common.{words_of, AreWords}
use Rattle.allocative_json.proofs.words.read_words.Given as goal

-- The words so far are accepted.
abbrev pub invariant-loop-at : goal.invariant-loop-at
invariant-loop-at l = AreWords (words_of (take l.at l.words))
