-- Worked examples: what some forests print.
use Rattle.std.specs.Prelude.{◌≡◌, ℕ, List, [], zero, suc}
use lib.Chars.{codes}
use Rattle.allocative_graph.specs.Path.{Key}
use Rattle.allocative_graph.specs.Identity.{Identity}
use Rattle.allocative_graph.specs.Forest.{Forest, Empty, Inline, Unique, First, Again, all, followed_by}
use Rattle.allocative_graph.specs.Meaning.{IsWhole}
use Rattle.allocative_graph.specs.Sums.{sums_of}
use Rattle.allocative_graph.specs.Graph.{graph, text, warnings, sum_of, CanBeAdded}
use Rattle.allocative_graph.specs.Owned.{held}

-- The identity of the shared entries in these examples.
abbrev pub one : Identity
one = record { maker = 0; number = 1 }

-- Two structs that share one value.
abbrev pub shared_twice : Forest
shared_twice = Inline (codes "Struct") 10
    (Inline (codes "a") 3 Empty (First (codes "p") 6 one (Inline (codes "Shared") 13 Empty Empty) Empty))
    (Inline (codes "Struct") 10 (Inline (codes "a") 3 Empty (Again (codes "p") 6 one Empty)) Empty)

-- A shared value that points to itself.
abbrev pub shared_ring : Forest
shared_ring = First (codes "p") 8 one (Again (codes "p") 8 one Empty) Empty

-- Two pointers to one identity, of which the first shows an entry of this name and size.
abbrev pub first_content : Key → ℕ → Forest
first_content k n = Inline (codes "A") 8 (First (codes "ptr") 8 one (Inline k n Empty Empty) Empty)
    (Inline (codes "A") 8 (Again (codes "ptr") 8 one Empty) Empty)

-- A field of one byte for each of n items.
abbrev pub byte_fields : ℕ → Forest
byte_fields zero = Empty
byte_fields (suc n) = Inline (codes "data") 1 (Inline (codes "u8") 1 Empty Empty) (byte_fields n)

-- A full vector of three bytes.
abbrev pub vec_body : Forest
vec_body = Unique (codes "ptr") 8
    (Inline (codes "capacity") 3
    (Inline (codes "u8") 3 Empty (Inline (codes "unused_capacity") 0 Empty Empty)) Empty) Empty

-- A path entered inline.
abbrev pub part_inline : Forest
part_inline = Inline (codes "n") 8 (Inline (codes "x") 8 Empty Empty) Empty

-- The same path entered as unique.
abbrev pub part_unique : Forest
part_unique = Unique (codes "n") 8 (Inline (codes "y") 3 Empty Empty) Empty

-- The forest f has this text and these warnings.
pub record Prints (f : Forest) (lines complaints : List ℕ) : Type 0 where
  pub text_is : text (graph (sums_of (all f))) ≡ lines
  pub warnings_are : warnings (sums_of (all f)) ≡ complaints

-- What some forests print, which of them are whole, how many bytes some hold, and which cannot be added: a pointer
-- that owns one number; a struct with an inline field and one that owns its bytes; an entry that declares fewer bytes
-- than those inside it; a struct with a box of 100 bytes and one byte more; a shared value in an inner value that has
-- more bytes; a map of one pair; and those above.
pub record WorkedExamples : Type 0 where
  pub unique_pointer_prints : Prints (Inline (codes "T") 8
      (Unique (codes "ptr") 8 (Inline (codes "u8") 3 Empty Empty) Empty) Empty)
      (codes "T;ptr 8\nT;ptr;u8 3\n") []
  pub unique_field_prints : Prints (Inline (codes "Struct") 10
      (Inline (codes "a") 3 Empty (Unique (codes "p") 6 (Inline (codes "x") 13 Empty Empty) Empty)) Empty)
      (codes "Struct 1\nStruct;a 3\nStruct;p 6\nStruct;p;x 13\n") []
  pub shared_twice_prints : Prints shared_twice (codes "Shared 13\nStruct 2\nStruct;a 6\nStruct;p 12\n") []
  pub shared_ring_prints : Prints shared_ring (codes "p 16\n") []
  pub first_content_prints : Prints (first_content (codes "D") 10) (codes "A;ptr 16\nD 10\n") []
  pub first_content_turned_prints : Prints (first_content (codes "E") 20) (codes "A;ptr 16\nE 20\n") []
  pub short_of_children_prints : Prints (Inline (codes "a") 10 (Inline (codes "b") 13 Empty Empty) Empty)
      (codes "a;b 13\n")
      (codes "Incorrect size declaration for node `a`, size of self: 10, size of inline children: 13\n")
  pub inline_and_unique_prints : Prints (followed_by part_inline part_unique) (codes "n 16\nn;x 8\nn;y 3\n") []
  pub boxed_bytes_prints : Prints (Inline (codes "TestData") 24
      (Inline (codes "data") 16 (Inline (codes "Box") 16
      (Unique (codes "ptr") 16 (Inline (codes "u8") 100 (byte_fields 100) Empty) Empty) Empty)
      (Inline (codes "b") 1 (Inline (codes "u8") 1 Empty Empty) Empty)) Empty)
      (codes "TestData 7\nTestData;b;u8 1\nTestData;data;Box;ptr 16\nTestData;data;Box;ptr;u8;data;u8 100\n") []
  pub shared_value_prints : Prints (Inline (codes "Arc") 8
      (First (codes "ptr") 8 one (Inline (codes "ArcInner") 128 (Inline (codes "CacheLine") 64
      (Inline (codes "0") 1 (Inline (codes "u8") 1 Empty Empty) Empty) Empty) Empty) Empty) Empty)
      (codes "Arc;ptr 8\nArcInner 64\nArcInner;CacheLine 63\nArcInner;CacheLine;0;u8 1\n") []
  pub map_pair_prints : Prints (Inline (codes "BTreeMap") 24
      (Inline (codes "data") 8 (Inline (codes "key") 8 (Inline (codes "u64") 8 Empty Empty)
      (Inline (codes "value") 8 (Inline (codes "u64") 8 Empty Empty) Empty)) Empty) Empty)
      (codes "BTreeMap 16\nBTreeMap;data;key;u64 8\nBTreeMap;data;value;u64 8\n")
      (codes "Incorrect size declaration for node `BTreeMap;data`, size of self: 8, size of inline children: 16\n")
  pub vec_body_prints : Prints vec_body (codes "ptr 8\nptr;capacity;u8 3\n") []
  pub inline_and_unique_added : text (sum_of (graph (sums_of (all part_inline))) (graph (sums_of (all part_unique))))
      ≡ codes "n 8\nn;x 8\nn;y 3\n"
  pub shared_twice_whole : IsWhole shared_twice
  pub shared_ring_whole : IsWhole shared_ring
  pub unique_in_unique_held : held (Inline (codes "T") 8
      (Unique (codes "p") 8 (Unique (codes "q") 8 (Inline (codes "d") 5 Empty Empty) Empty) Empty) Empty) ≡ 5
  pub vec_body_held : held vec_body ≡ 3
  pub inline_and_unique_cannot_be_added : CanBeAdded (sums_of (all part_inline)) (sums_of (all part_unique)) → ⊥
