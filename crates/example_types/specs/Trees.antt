-- What a tree in boxes may show.
use Rattle.std.specs.Prelude.{Some, codes}
use Rattle.allocative.specs.Shows.{Field}
use Rattle.allocative.specs.StdShows.{Leaf as simple}
use Rattle.allocative.specs.Levels.{Level, plain, child, both, inside, field, box_of}
use Rattle.example_types.specs.declared.trees.Tree.{Tree, Leaf, Fork'}

-- A tree: its number, or the two trees below it.
abbrev pub tree_level : Tree → Level Tree
tree_level (Leaf n) = inside (codes "Tree") 24 (plain (Field (codes "Leaf") (Some 8) (simple (codes "u64") 8)))
tree_level (Fork' p l q r) =
    inside (codes "Tree") 24 (both (field (codes "left") (Some 8) (box_of (child l)))
    (field (codes "right") (Some 8) (box_of (child r))))
