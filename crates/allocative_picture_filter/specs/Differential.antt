-- The differential form of collapsed stacks, whose lines have two counts.
use Rattle.std.specs.Prelude.{◌≡◌, ℕ, ◌⊎◌, List, length, All}
use Rattle.std.specs.Str.Lines.{lines}
use Rattle.std.specs.Str.Parse.{IsNumeral}
use Rattle.allocative_graph.specs.Read.{IsCut}

-- The line ends in a space, digits alone, a space and digits alone.
pub record HasTwoCounts (line : List ℕ) : Type 0 where
  pub front : List ℕ
  pub path : List ℕ
  pub first : List ℕ
  pub second : List ℕ
  pub last_cut : IsCut line front second
  pub cut : IsCut front path first
  pub first_count : IsNumeral 10 first
  pub second_count : IsNumeral 10 second

-- The text has a line that is not blank, and each such line ends in two counts.
pub record IsDifferential (t : List ℕ) : Type 0 where
  pub some : ¬ All (λ l. length l ≡ 0) (lines t)
  pub each : All (λ l. (length l ≡ 0) ⊎ HasTwoCounts l) (lines t)
