-- The numbers of a document, with one more item or member.
use Rattle.std.proofs.Common.{◌≡◌, ℤ, ◌||◌, List, [], ◌∷◌, ◌++◌, sym, ◌∙◌, ap, append_assoc, append-nil, String, Global}
use Rattle.std.proofs.Common.{BTreeSet, int_cmp}
use Rattle.allocative_json.proofs.Common.{list_any-append, Num, contains, view, items_view, members_view, Value}
use Rattle.std.proofs.Math.Bool.{or_assoc, or_comm}
use Rattle.allocative_json.specs.Roots.{AddsNumbers, numbers_of, items_numbers, members_numbers, has_number, is_number}

-- The numbers of an array with one more item are those of the others and those of that item.
pub items_numbers-snoc : (vs : List Value) (v : Value) →
    items_numbers (items_view (vs ++ v ∷ [])) ≡ items_numbers (items_view vs) ++ numbers_of (view v)
items_numbers-snoc [] v = append-nil (numbers_of (view v))
items_numbers-snoc (w ∷ vs) v = ap (λ ns. numbers_of (view w) ++ ns) (items_numbers-snoc vs v)
    ∙ sym (append_assoc (numbers_of (view w)) (items_numbers (items_view vs)) (numbers_of (view v)))

-- The same for an object with one more member.
pub members_numbers-snoc : (ms : List (String Global × Value)) (k : String Global) (v : Value) →
    members_numbers (members_view (ms ++ (k, v) ∷ [])) ≡ members_numbers (members_view ms) ++ numbers_of (view v)
members_numbers-snoc [] k v = append-nil (numbers_of (view v))
members_numbers-snoc (m ∷ ms) k v = ap (λ ns. numbers_of (view m.1) ++ ns) (members_numbers-snoc ms k v)
    ∙ sym (append_assoc (numbers_of (view m.1)) (members_numbers (members_view ms)) (numbers_of (view v)))

-- Adding some numbers, and then others, adds all of them.
pub AddsNumbers-append : (ms ns : List Num) (old mid new : BTreeSet ℤ) → AddsNumbers ms old mid →
    AddsNumbers ns mid new → AddsNumbers (ms ++ ns) old new
AddsNumbers-append ms ns old mid new s p k =
    p k ∙ ap (λ b. has_number ns k || b) (s k)
    ∙ sym (or_assoc (has_number ns k) (has_number ms k) (contains int_cmp old k))
    ∙ ap (λ b. b || contains int_cmp old k) (or_comm (has_number ns k) (has_number ms k)
    ∙ sym (list_any-append (λ n. is_number n k) ms ns))
