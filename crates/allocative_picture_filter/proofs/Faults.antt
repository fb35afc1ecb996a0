-- Faults and their status.
use Rattle.std.proofs.Common.{◌≡◌, inl, inr, ℕ, ◌^◌, ◌≤◌, List, [], ◌∷◌, Option, None, Some, Ok, Err, Result, refl}
use Rattle.std.proofs.Common.{Bool, true, false, MatchBool, IfSome, IfErr, IsErrOf, IsErrAnd}
use Rattle.allocative_picture_filter.proofs.Common.{Graph, Fault, Text, Writing}
use Rattle.allocative_picture_filter.proofs.Common.{fault_of}
use Rattle.allocative_picture_filter.specs.Run.{Sourced, StopsAddingUp, StopsJoining, StopsSums, StopsReadingEach, StopsMoments, Stops}
use Rattle.allocative_graph.specs.declared.refusal.Refusal as refusal
use Rattle.allocative_graph.specs.declared.refusal.Refusal.TheVariants as refused
use Rattle.allocative_picture_filter.specs.declared.arguments.Arguments as words

-- Texts are added up without writing.
added-unwritten : (g : Graph) (ts : List Sourced) → StopsAddingUp g ts Writing → ⊥
added-unwritten g [] h = h
added-unwritten g (t ∷ ts) (inl (inl h)) = h
added-unwritten g (t ∷ ts) (inl (inr (read, is, h))) = h
added-unwritten g (t ∷ ts) (inr (next, adds, h)) = added-unwritten next ts h

-- Nothing is made of sums by writing.
sums-unwritten : (asked : words.Arguments) (before : List Text) (after : List Sourced) →
    StopsSums asked before after Writing → ⊥
sums-unwritten asked before after (inl h) = added-unwritten _ _ h
sums-unwritten asked before after (inr (g, up, inl h)) = added-unwritten _ _ h
sums-unwritten asked before after (inr (g, up, inr (inl (h, later, b, none, e)))) = absurd (cc)
sums-unwritten asked before after (inr (g, up, inr (inr (h, later, joins)))) = joins

-- Texts are read without writing.
read-unwritten : (ts : List Sourced) → StopsReadingEach ts Writing → ⊥
read-unwritten [] h = h
read-unwritten (t ∷ ts) (inl h) = h
read-unwritten (t ∷ ts) (inr (g, reads, h)) = read-unwritten ts h

-- Nothing is made of moments by writing.
moments-unwritten : (asked : words.Arguments) (after : List Sourced) → StopsMoments asked after Writing → ⊥
moments-unwritten asked after (inl h) = read-unwritten _ h
moments-unwritten asked after (inr (ms, read, inl (b, none, e))) = absurd (cc)
moments-unwritten asked after (inr (ms, read, inr joins)) = joins

-- The fact that a test chooses, if it passes.
pub chosen : {b : Bool} (P Q : Type 0) → b ≡ true → P → MatchBool b P Q
chosen P Q e p = rw e p

-- The fact that a test chooses, if it fails.
pub otherwise : {b : Bool} (P Q : Type 0) → b ≡ false → Q → MatchBool b P Q
otherwise P Q e q = rw e q

-- Of two facts that do not hold, none holds.
neither : {P Q : Type 0} (b : Bool) → (P → ⊥) → (Q → ⊥) → MatchBool b P Q → ⊥
neither true p q h = p h
neither false p q h = q h

-- A run is not stopped by a write before it writes.
pub made-unwritten : (asked : words.Arguments) (before files : List Text) (known : List ℕ) →
    Stops asked before files known Writing → ⊥
made-unwritten asked before files known (inl (inl e)) = absurd (cc)
made-unwritten asked before files known (inl (inr (some, e))) = e
made-unwritten asked before files known (inr h) =
    neither asked.history (moments-unwritten asked _) (sums-unwritten asked _ _) h

-- Graphs are not joined for memory, or since their bytes exceed a word.
pub stops-joining : {T : Type 0} (bytes : ℕ) (r : refusal.Refusal) →
    (IsErrOf {T = T} (Err r) refused.TooLarge → 2 ^ 64 ≤ bytes) → StopsJoining bytes (fault_of r)
stops-joining bytes refused.Memory h = tt
stops-joining bytes refused.TooLarge h = h refl
stops-joining bytes refused.Open h = tt

-- What holds of each value holds of the one that there is.
pub of_each : {A : Type 0} {Q : A → Type 0} (o : Option A) → ((a : A) → Q a) → IfSome o Q
of_each None f = tt
of_each (Some a) f = f a

-- What holds of a fault holds if the result is that fault.
pub holds-of : {T : Type 0} (r : Result T Fault) (P : Fault → Type 0) (f : Fault) → IsErrAnd r (λ e. e ≡ f) → P f →
    IfErr r P
holds-of (Ok x) P f is h = tt
holds-of (Err e) P f is h = rw is h

-- The lemmas by which a run is stopped by its first fault.
pub ruleset stopping = (holds-of, of_each)
