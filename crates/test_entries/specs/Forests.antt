-- What the entries of a row show.
use Rattle.std.specs.Prelude.{ℕ}
use Rattle.allocative.specs.Path.{Key}
use Rattle.allocative.specs.Shows.{Showing, Nothing, Both, Inside as inside, Unique as unique, Shared as shared}
use Rattle.test_entries.specs.declared.deed.Deed.{Deed}
use Rattle.test_entries.specs.declared.deed.Deed.TheVariants.{Hide, Refuse, Answer, Hold, Forget, ForgetContent}
use Rattle.test_entries.specs.declared.forest.Forest.{Forest, Empty, Entry'}
use Rattle.test_entries.specs.declared.forest.EntryKind.{EntryKind}
use Rattle.test_entries.specs.declared.forest.EntryKind.TheVariants.{Inline, Unique, Shared, Bad}

-- What a deed shows if nothing fails, where p is what the entries inside it show.
abbrev pub deed_shows : Deed → Key → ℕ → Showing → Showing
deed_shows Hide k n p = p
deed_shows (Refuse e) k n p = Nothing
deed_shows (Answer e) k n p = Nothing
deed_shows Hold k n p = unique k n p
deed_shows Forget k n p = Nothing
deed_shows (ForgetContent i) k n p = shared k n i Nothing

-- One entry, where p is what the entries inside it or in its content show.
abbrev pub entry_shows : EntryKind → Key → ℕ → Showing → Showing
entry_shows Inline k n p = inside k n p
entry_shows Unique k n p = unique k n p
entry_shows (Shared i) k n p = shared k n i p
entry_shows (Bad d) k n p = deed_shows d k n p

-- Each entry, with what is inside it or in its content, and then the entries that follow it.
abbrev pub forest_shows : Forest → Showing
forest_shows Empty = Nothing
forest_shows (Entry' kind k n p content q after) =
    Both (entry_shows kind k n (forest_shows content)) (forest_shows after)
