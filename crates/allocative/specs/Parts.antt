-- What a part that may be absent shows, and what one of two parts shows.
use Rattle.std.specs.Prelude.{Option, None, Some}
use Rattle.either.specs.declared.Either.{Either}
use Rattle.either.specs.declared.Either.TheVariants.{Left, Right}
use Rattle.allocative_graph.specs.Shows.{Showing, Nothing}

-- What p says of a value, or nothing if there is none.
abbrev pub optional_shows : {T : Type 0} → (T → Showing) → Option T → Showing
optional_shows p None = Nothing
optional_shows p (Some x) = p x

-- What p says of the left value, or q of the right one.
abbrev pub either_shows : {L R : Type 0} → (L → Showing) → (R → Showing) → Either L R → Showing
either_shows p q (Left x) = p x
either_shows p q (Right y) = q y
