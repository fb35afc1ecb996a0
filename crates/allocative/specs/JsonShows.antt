-- What a JSON value may show, with the room of its texts and arrays.
use Rattle.std.specs.Prelude.{List, Some, codes, length, String, string_bytes, string_capacity}
use Rattle.std.specs.declared.alloc.Global.{Global}
use Rattle.serde_json.specs.declared.value.Value.{Value, out-Value}
use Rattle.serde_json.specs.declared.value.Value.TheOpen.{Value-F}
use Rattle.allocative_graph.specs.Shows.{Showing, Nothing, Inside, Unique, Field, each_shows}
use Rattle.allocative.specs.Bodies.{text_shows}
use Rattle.allocative.specs.Levels.{Level, plain, child, inside, unique, each, vec_of, pair_of, recursive}
use Rattle.allocative.specs.Runs.{pair_shows}

-- What a number shows.
abbrev pub number_shows : Showing
number_shows = Inside (codes "Number") 16 Nothing

-- What a String shows.
abbrev pub stored_string : String Global → Showing
stored_string s =
    Field (codes "String") (Some 24) (text_shows (length (string_bytes s)) (string_capacity s))

-- What is inside a value's own entry, with the values below it named in it.
abbrev pub value_level : Value-F Value → Level Value
value_level Value-F.Null = plain Nothing
value_level (Value-F.Bool b) = plain Nothing
value_level (Value-F.Number n) = plain (Inside (codes "Number") 16 number_shows)
value_level (Value-F.String s) = inside (codes "String") 24 (plain (stored_string s))
value_level (Value-F.Array v) = inside (codes "Array") 24 (vec_of 32 child v)
value_level (Value-F.Object m) = inside (codes "Object") 24
    (inside (codes "Map") 24 (unique (codes "data") 8 (each (pair_of (Some 24) stored_string 32 child) m.entries)))

-- One level of a value: its own entry, and what is inside it.
abbrev pub json_level : Value → Level Value
json_level v = inside (codes "Value") 32 (value_level (out-Value v))

-- What a value shows, with the room that its texts and arrays have.
abbrev pub stored_value : Value → Showing
stored_value = recursive json_level

-- What the members of an object show, where p gives what a value shows: a field for the text of the key, and one for
-- the value of 32 bytes.
abbrev pub stored_members : {V : Type 0} → (V → Showing) → List (String Global × V) → Showing
stored_members p es = each_shows (pair_shows (Some 24) stored_string (Some 32) p) es

-- What an object's map shows.
abbrev pub stored_map : List (String Global × Value) → Showing
stored_map es = Inside (codes "Map") 24 (Unique (codes "data") 8 (stored_members stored_value es))
