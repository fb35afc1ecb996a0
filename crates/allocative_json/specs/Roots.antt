-- The document that an input is, its numbers at any depth, and why it is none.
use Rattle.std.specs.Prelude.{◌≡◌, ℕ, ℤ, pos, ◌<◌, Bool, true, false, ◌||◌, List, [], ◌∷◌, ◌++◌, length, Option, None, Some, IsUtf8}
use Rattle.std.specs.List.{list_all, list_any}
use Rattle.std.specs.Ordering.{int_cmp, int_eq}
use Rattle.std.specs.BTreeSet.{BTreeSet, contains, IsOrdered}
use Rattle.serde_json.specs.Data.{Num, unsigned, negative, float, Data, null, boolean, number, string, array, object}
use Rattle.serde_json.specs.Data.{Items, no_items, item, Members, no_members, member}
use Rattle.serde_json.specs.Read.{read}
use Rattle.allocative_json.specs.declared.fault.Fault.{Fault}
use Rattle.allocative_json.specs.declared.fault.Fault.TheVariants.{Memory, NotJson, NotWhole}

-- ---- numbers
abbrev mutual
  -- The numbers of a document, at any depth.
  pub numbers_of : Data → List Num
  numbers_of null = []
  numbers_of (boolean b) = []
  numbers_of (number n) = n ∷ []
  numbers_of (string s) = []
  numbers_of (array ds) = items_numbers ds
  numbers_of (object ms) = members_numbers ms

  -- The numbers of the items of an array.
  pub items_numbers : Items → List Num
  items_numbers no_items = []
  items_numbers (item d ds) = numbers_of d ++ items_numbers ds

  -- The numbers of the values of the members of an object.
  pub members_numbers : Members → List Num
  members_numbers no_members = []
  members_numbers (member k d ms) = numbers_of d ++ members_numbers ms

-- Whether a number is an i64 or a u64.
abbrev pub is_whole_number : Num → Bool
is_whole_number (unsigned n) = true
is_whole_number (negative z) = true
is_whole_number (float x) = false

-- Whether each number of a document is an i64 or a u64.
abbrev pub is_whole : Data → Bool
is_whole d = list_all is_whole_number (numbers_of d)

-- Whether a number is the whole number k.
abbrev pub is_number : Num → ℤ → Bool
is_number (unsigned n) k = int_eq (pos n) k
is_number (negative z) k = int_eq z k
is_number (float x) k = false

-- Whether the whole number k is one of some numbers.
abbrev pub has_number : List Num → ℤ → Bool
has_number ns k = list_any (λ n. is_number n k) ns

-- The new set has what the old set has, and the whole ones of some numbers.
abbrev pub AddsNumbers : List Num → BTreeSet ℤ → BTreeSet ℤ → Type 0
AddsNumbers ns old new = (k : ℤ) → contains int_cmp new k ≡ (has_number ns k || contains int_cmp old k)

-- The set has exactly the whole numbers of the document, each once, in order.
pub record IsIndexOf (d : Data) (s : BTreeSet ℤ) : Type 0 where
  pub ordered : IsOrdered int_cmp s
  pub exactly : (k : ℤ) → contains int_cmp s k ≡ has_number (numbers_of d) k

-- ---- roots
-- The input is the text of the document d.
pub record IsDocument (input : List ℕ) (d : Data) : Type 0 where
  pub utf8 : IsUtf8 input
  pub is_read : read input ≡ Some d

-- The set of the document's numbers, exactly if it is asked for.
abbrev pub IsIndexIf : Bool → Data → Option (BTreeSet ℤ) → Type 0
IsIndexIf asked d None = asked ≡ false
IsIndexIf asked d (Some s) = (asked ≡ true) × IsIndexOf d s

-- The document of the input, each number of which is an i64 or a u64, and with `index` the set of its numbers.
pub record AreRoots (input : List ℕ) (index : Bool) (d : Data) (n : Option (BTreeSet ℤ)) : Type 0 where
  pub document : IsDocument input d
  pub whole : is_whole d ≡ true
  pub numbers : IsIndexIf index d n

-- The faults that reading the roots from the input may return: Memory only if the input is not empty; NotJson only
-- if it is no document; NotWhole only if it is a document with another number.
abbrev pub RefusesInput : List ℕ → Fault → Type 0
RefusesInput input Memory = 0 < length input
RefusesInput input NotJson = (d : Data) → ¬ IsDocument input d
RefusesInput input NotWhole = (d : Data) × IsDocument input d × (is_whole d ≡ false)
RefusesInput input f = ⊥
