-- The texts as they are named, and the moments of a history.
use Rattle.std.proofs.Common.{◌≡◌, ℕ, zero, suc, ◌+◌, ◌<◌, inl, inr, Option, Some, List, [], ◌∷◌, ◌++◌, map, take, length}
use Rattle.std.proofs.Common.{◌-◌, ap, get_or, refl, arith, min}
use Rattle.std.proofs.lemmas.List.{length-map, take-map, drop-map, drop_min, take_min}
use Rattle.std.specs.Prelude.{insert}
use Rattle.std.specs.List.{AllZip}
use Rattle.allocative_graph.specs.Graph.{total}
use Rattle.allocative_picture.specs.History.{first_graph, graph_at, last_graph}
use Rattle.allocative_picture.specs.declared.history.Moment.{Moment}
use Rattle.allocative_picture_filter.proofs.Common.{Fault, Input, Memory, Text, map-append, take_more}
use Rattle.allocative_picture_filter.specs.Run.{sourced, named_texts, without_mark, IsMomentOf, StopsReading, StopsReadingEach}
use Rattle.allocative_picture_filter.specs.declared.arguments.Arguments.{Arguments}

-- ---- the texts as they are named
-- The input is put among the files at its place, or at their end.
pub named-at : (xs ys zs : List Text) (o : Option ℕ) (n at : ℕ) (x : Text) (known : List ℕ) → o ≡ Some n →
    at ≡ min n (length xs) → ys ≡ xs → zs ≡ insert ys at x → x.source ≡ Input → x.bytes.now ≡ without_mark known →
    map sourced zs ≡ named_texts xs o known
named-at xs ys zs o n at x known some place same put source bytes =
    rw (some, put, same, place, take_min n xs, drop_min n xs, map-append, take-map, drop-map, source, bytes)

-- ---- the moments of texts
-- R holds of one item more of two lists.
pub zip-push : {A B : Type 0} (R : A → B → Type 0) (xs : List A) (ys : List B) (x : A) (y : B) → AllZip R xs ys →
    R x y → AllZip R (xs ++ x ∷ []) (ys ++ y ∷ [])
zip-push R [] [] x y h r = (r, tt)
zip-push R [] (b ∷ ys) x y h r = absurd h
zip-push R (a ∷ xs) [] x y h r = absurd h
zip-push R (a ∷ xs) (b ∷ ys) x y (h, hs) r = (h, zip-push R xs ys x y hs r)

-- One text more of a list has its moment.
pub moments-more : (asked : Arguments) (xs : List Text) (i : ℕ) (d : Text) (ms : List Moment) (m : Moment) →
    i < length xs → AllZip (IsMomentOf asked) (map sourced (take i xs)) ms →
    IsMomentOf asked (sourced (get_or xs i d)) m →
    AllZip (IsMomentOf asked) (map sourced (take (i + 1) xs)) (ms ++ m ∷ [])
moments-more asked xs i d ms m within are is =
    rw (take_more xs i d within, map-append) (zip-push (IsMomentOf asked) _ ms _ m are is)

-- What stops a text, once those before it are read, stops them all.
pub stops-reading : (asked : Arguments) (xs : List Text) (i : ℕ) (d : Text) (ms : List Moment) (f : Fault) →
    i < length xs → AllZip (IsMomentOf asked) (map sourced (take i xs)) ms → StopsReading (sourced (get_or xs i d)) f →
    StopsReadingEach (map sourced xs) f
stops-reading asked [] i d ms f within are h = absurd (omega arith)
stops-reading asked (y ∷ xs) zero d ms f within are h = inl h
stops-reading asked (y ∷ xs) (suc i) d [] f within are h = absurd are
stops-reading asked (y ∷ xs) (suc i) d (m ∷ ms) f within (is, are) h =
    inr (is.graph, is.reads, stops-reading asked xs i d ms f (omega arith) are h)

-- Memory stops the texts, if there is one.
pub stops-memory : (xs : List Text) (i : ℕ) → i < length xs → StopsReadingEach (map sourced xs) Memory
stops-memory [] i within = absurd (omega arith)
stops-memory (x ∷ xs) i within = inl tt

-- ---- the bytes of moments
-- Moments with the same totals have them at each place.
same-at : (xs ys : List Moment) (i : ℕ) → map (λ m. total m.graph) xs ≡ map (λ m. total m.graph) ys →
    total (graph_at xs i) ≡ total (graph_at ys i)
same-at [] [] i e = refl
same-at [] (y ∷ ys) i e = absurd (cc)
same-at (x ∷ xs) [] i e = absurd (cc)
same-at (x ∷ xs) (y ∷ ys) zero e = cc
same-at (x ∷ xs) (y ∷ ys) (suc i) e = same-at xs ys i (cc)

-- They have the same first and last total.
pub same-ends : (xs ys : List Moment) → map (λ m. total m.graph) xs ≡ map (λ m. total m.graph) ys →
    total (first_graph xs) + total (last_graph xs) ≡ total (first_graph ys) + total (last_graph ys)
same-ends xs ys e =
    let same : length xs ≡ length ys = simp length-map at (ap length e) in
    rw (same, same-at xs ys 0 e, same-at xs ys (length ys - 1) e) refl
