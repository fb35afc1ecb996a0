-- The graphs of some texts, one added after another, and what stops that.
use Rattle.std.proofs.Common.{◌≡◌, ℕ, zero, suc, ◌+◌, ◌<◌, ◌≤◌, inl, inr, Bool, true, false, cond}
use Rattle.std.proofs.Common.{List, [], ◌∷◌, ◌++◌, map, take, length, get_or, refl, sym, ap, subst, arith}
use Rattle.std.proofs.Common.{MatchBool, nat_lt, take_all}
use Rattle.allocative_picture_filter.proofs.Common.{Graph, default, Fault, Text, map-append, take_more}
use Rattle.allocative_picture_filter.proofs.Common.{text}
use Rattle.allocative_picture_filter.proofs.Faults.{holds-of}
use Rattle.allocative_picture.specs.declared.options.Options.{Options}
use Rattle.allocative_picture_filter.specs.Run.{Sourced, sourced, AddUp, StopsAddingUp, Adds, AddUpOnto}
use Rattle.allocative_picture_filter.specs.Run.{StopsAdding, IsShown, IsOptions, IsTableOf, Writes}
use Rattle.allocative_picture_filter.specs.Run.{is_outlined, limit_of}
use Rattle.allocative_picture_filter.specs.declared.arguments.Arguments.{Arguments}
use Rattle.allocative_picture.specs.Picture.{change_drawing, profile_drawing}
use Rattle.allocative_picture.specs.Views.{IsOutline, by_last_key}

-- ---- one text after another
-- One text more is added.
pub add-push : (f : Graph) (ts : List Sourced) (t : Sourced) (g h : Graph) → AddUpOnto f ts g → Adds g t h →
    AddUpOnto f (ts ++ t ∷ []) h
add-push f [] t g h up adds = (h, subst (λ (x : Graph). Adds x t h) up adds, refl)
add-push f (s ∷ ts) t g h (next, first, up) adds = (next, first, add-push next ts t g h up adds)

-- One text more of a list is added.
pub add-more : (xs : List Text) (i : ℕ) (d : Text) (g h : Graph) → i < length xs → AddUp (map sourced (take i xs)) g →
    Adds g (sourced (get_or xs i d)) h
    → AddUp (map sourced (take (i + 1) xs)) h
add-more xs i d g h within up adds = rw (take_more xs i d within, map-append)
    (add-push default (map sourced (take i xs)) (sourced (get_or xs i d)) g h up adds)

-- What stops a text, once those before it are added, stops them all.
pub stops-at : (b : Graph) (xs : List Text) (i : ℕ) (d : Text) (g : Graph) (f : Fault) → i < length xs →
    AddUpOnto b (map sourced (take i xs)) g → StopsAdding g (sourced (get_or xs i d)) f →
    StopsAddingUp b (map sourced xs) f
stops-at b [] i d g f within up h = absurd (omega arith)
stops-at b (y ∷ xs) zero d g f within up h = inl (subst (λ (x : Graph). StopsAdding x (sourced y) f) up h)
stops-at b (y ∷ xs) (suc i) d g f within (next, adds, up) h =
    inr (next, adds, stops-at next xs i d g f (omega arith) up h)

-- The lemmas by which texts are added up.
pub ruleset adding = (add-more, add-push, take_all, holds-of)

-- ---- what is written
-- What is shown of a graph, from its outline.
pub shown-so : (asked : Arguments) (v u g o made : Graph)
    → (is_outlined asked ≡ true → IsOutline (limit_of asked.depth) (limit_of asked.fold) v g o)
    → (is_outlined asked ≡ false → o ≡ g) → made ≡ cond asked.by_last_key (by_last_key o) o
    → (is_outlined asked ≡ true → v ≡ u) → IsShown asked u g made
shown-so asked v u g o made outlined whole is same = record {
  outline = o;
  outlined = λ out. subst (λ (x : Graph). IsOutline (limit_of asked.depth) (limit_of asked.fold) x g o) (same out)
      (outlined out);
  whole = whole;
  is = is;
}

-- A picture is written if neither a text nor a table is asked for.
pub writes-picture : (asked : Arguments) (change : Bool) (g h : Graph) (o : Options) (made : List ℕ)
    → asked.as_text ≡ false → asked.top ≤ 0 → IsOptions asked o
    → made ≡ cond change (change_drawing o g h) (profile_drawing o h) → Writes asked change g h made
writes-picture asked change g h o made no_text no_lines options is =
    let Pictures : Type 0 = (p : Options) × IsOptions asked p
    × (made ≡ cond change (change_drawing p g h) (profile_drawing p h)) in
    let e : asked.top ≡ 0 = omega arith in
    let no_table : nat_lt 0 asked.top ≡ false = ap (λ n. nat_lt 0 n) e in
    subst (λ (b : Bool). MatchBool b (made ≡ text h)
    (MatchBool (nat_lt 0 asked.top) (IsTableOf asked change g h made) Pictures)) (sym no_text)
    (subst (λ (b : Bool). MatchBool b (IsTableOf asked change g h made) Pictures) (sym no_table) (o, options, is))
