-- A word that is not accepted, and one that is.
use Rattle.std.proofs.Common.{◌+◌, take, drop, refl, sym, ◌∙◌, true≢false, string_bytes}
use Rattle.allocative_json.proofs.Common.{words_of, map-append, take_more}
use Rattle.allocative_json.proofs.WordsLemmas.{at_word, one_more, each_accepted}
use Rattle.allocative_json.proofs.words.read_words.Goals as goal

-- A word that is not accepted is an error.
pub returns-then-not-is_accepted : goal.returns-then-not-is_accepted
returns-then-not-is_accepted c =
    let texts = c.args.words.now in
    let i = c.loop-at.at in
    let word = c.index-words-at.result in (
      refl,
      λ h.
          let accepted = each_accepted (words_of (take i texts)) (words_of (drop (i + 1) texts)) (string_bytes word)
          (rw (at_word texts i word c.loop-at-test.true c.index-words-at.is) at h) in
          true≢false (sym ((rw c.as_str.ensures.value at c.is_accepted.ensures).1 accepted)
          ∙ c.if-not-is_accepted.true),
    )

-- One word more is accepted.
pub loop-at-preserved : goal.loop-at-preserved
loop-at-preserved c =
    rw (take_more _ _ c.index-words-at.result c.loop-at-test.true, ← c.index-words-at.is, map-append)
    (one_more _ (string_bytes c.index-words-at.result) c.loop-at.invariant
    ((rw c.as_str.ensures.value at c.is_accepted.ensures).0 c.if-not-is_accepted.false))
