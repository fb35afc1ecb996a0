-- of Book::metrics: the result
use Rattle.std.proofs.Common.{◌≡◌, ℕ, List, [], ◌++◌, refl}
use Rattle.allocative_service.proofs.book.Book.metrics.Goals as goal

-- Six texts are appended to none.
appended : {t t1 t2 t3 t4 t5 t6 : List ℕ} (u1 u2 u3 u4 u5 u6 : List ℕ) → t ≡ [] → t1 ≡ t ++ u1 → t2 ≡ t1 ++ u2 →
    t3 ≡ t2 ++ u3 → t4 ≡ t3 ++ u4 → t5 ≡ t4 ++ u5 → t6 ≡ t5 ++ u6 → t6 ≡ u1 ++ u2 ++ u3 ++ u4 ++ u5 ++ u6
appended u1 u2 u3 u4 u5 u6 e e1 e2 e3 e4 e5 e6 = rw (e6, e5, e4, e3, e2, e1, e) refl

pub returns : goal.returns
returns g c = rw (← c.bytes.ensures, ← c.limit.ensures, ← c.limit_in-limit.ensures)
    (appended _ _ _ _ _ _ c.new-text.ensures.bytes c.in_ok-push_whole.ensures c.in_ok-push_whole-2.ensures
    c.in_ok-push_gauge.ensures c.in_ok-push_gauge-2.ensures c.in_ok-push_gauge-3.ensures c.in_ok-push_gauge-4.ensures)
