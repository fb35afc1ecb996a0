-- What a writer holds after some writes of a text.
use Rattle.std.proofs.Common.{◌≡◌, ℕ, ◌-◌, List, [], ◌++◌, length, take, drop, Option, refl, sym, ap, subst, ◌∙◌}
use Rattle.std.proofs.Common.{append_assoc, append-nil, take-append-drop}
use Rattle.std.proofs.lemmas.List.{take_rest}
use Rattle.std.specs.Io.KnownBytes.{Appends, Keeps}
use Rattle.std.proofs.KnownBytes.{Appends-nil, Appends-trans, Appends-kept}
use Rattle.allocative_io.proofs.Printed.{texts_split, texts_end, plain_split, control_split}
use Rattle.allocative_io.specs.Streams.{IsWrittenUpTo, AppendsBeginning}

-- Nothing is written yet.
pub written_none : (old : Option (List ℕ)) (text : List ℕ) → IsWrittenUpTo old old text text
written_none old text = record { written = []; split = refl; follows = Appends-nil old }

-- A first part of the rest is written.
pub written_next : (old mid new : Option (List ℕ)) (text rest part more : List ℕ) → IsWrittenUpTo old mid text rest →
    Appends mid new part → rest ≡ part ++ more → IsWrittenUpTo old new text more
written_next old mid new text rest part more h w e = record {
  written = h.written ++ part;
  split = h.split ∙ ap (λ l. h.written ++ l) e ∙ sym (append_assoc h.written part more);
  follows = Appends-trans old mid new h.written part h.follows w;
}

-- A beginning of a first part of the rest is written.
pub written_partly : (old mid new : Option (List ℕ)) (text rest part more : List ℕ) → IsWrittenUpTo old mid text rest →
    AppendsBeginning mid new part → rest ≡ part ++ more → AppendsBeginning old new text
written_partly old mid new text rest part more h (left, w) e = (
  left ++ more,
  record {
    written = h.written ++ w.written;
    split = h.split ∙ ap (λ l. h.written ++ l) (e ∙ ap (λ l. l ++ more) w.split ∙ append_assoc w.written left more)
        ∙ sym (append_assoc h.written w.written (left ++ more));
    follows = Appends-trans old mid new h.written w.written h.follows w.follows;
  },
)

-- A write takes the first n bytes of the rest.
pub written_more : (old mid new : Option (List ℕ)) (text rest : List ℕ) (n : ℕ) → IsWrittenUpTo old mid text rest →
    Appends mid new (take n rest)
    → IsWrittenUpTo old new text (take (length rest - n) (drop n rest))
written_more old mid new text rest n h w = written_next old mid new text rest (take n rest) _
    h w (sym (ap (λ l. take n rest ++ l) (take_rest rest n) ∙ take-append-drop n rest))

-- A write fails, or nothing more is to be written.
pub written_kept : (old mid new : Option (List ℕ)) (text rest : List ℕ) → IsWrittenUpTo old mid text rest →
    Keeps mid new → IsWrittenUpTo old new text rest
written_kept old mid new text rest h k =
    record { written = h.written; split = h.split; follows = Appends-kept old mid new h.written h.follows k }

-- No rest is left.
pub written_all : (old new : Option (List ℕ)) (text rest : List ℕ) → IsWrittenUpTo old new text rest → rest ≡ [] →
    Appends old new text
written_all old new text rest h e = subst (Appends old new)
    (sym (h.split ∙ ap (λ l. h.written ++ l) e ∙ append-nil h.written)) h.follows

-- The lemmas on what a writer holds.
pub ruleset writing = (written_none, written_more, written_kept, written_all)

-- The lemmas on parts of a text that are written one after another.
pub ruleset passing = (written_next, texts_split, texts_end, plain_split, control_split)
