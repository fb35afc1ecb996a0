-- of Account::largest: one more entry is seen
use Rattle.std.proofs.Common.{ℕ, ◌<◌, ◌≤◌, List, [], ◌∷◌, ◌++◌, append_assoc, arith, refl, rules}
use Rattle.std.proofs.lemmas.List.{map-append}
use Rattle.std.proofs.lemmas.List.Elements.{All-append, All-cons, All-nil, All-push, All-weaker}
use Rattle.allocative_service.specs.Book.{IsLargest}
use Rattle.allocative_service.proofs.book.account.Account.largest.Goals as goal
use Rattle.allocative_service.proofs.book.account.Account.largest.Goals.{in_default-via-in-Some-largest+else-bytes-most}
use Rattle.allocative_service.proofs.book.account.Account.largest.Goals.{in_default-via-in_default}

module _ {K E : Type 0} (billed : E → ℕ) where
  -- An entry that is no larger comes after the largest.
  keeps : (xs : List (K × E)) (key : K) (bytes : ℕ) (x : K × E) → billed x.1 ≤ bytes → IsLargest billed xs key bytes →
      IsLargest billed (xs ++ (x ∷ [])) key bytes
  keeps xs key bytes x no_more l = record {
    before = l.before;
    entry = l.entry;
    after = l.after ++ (x ∷ []);
    is = rw (l.is, append_assoc) refl;
    has = l.has;
    fewer = l.fewer;
    no_more = All-push (λ (e : K × E). billed e.1 ≤ bytes) l.after x l.no_more no_more;
  }

  -- A larger entry is the largest of all so far.
  takes : (xs : List (K × E)) (key : K) (bytes : ℕ) (x : K × E) → bytes < billed x.1 → IsLargest billed xs key bytes →
      IsLargest billed (xs ++ (x ∷ [])) x.0 (billed x.1)
  takes xs key bytes x more l =
      let Fewer = λ (e : K × E). billed e.1 < billed x.1 in
      let before = All-weaker (λ (e : K × E). billed e.1 < bytes) Fewer (λ e h. omega arith) l.before l.fewer in
      let after = All-weaker (λ (e : K × E). billed e.1 ≤ bytes) Fewer (λ e h. omega arith) l.after l.no_more in
      record {
        before = xs;
        entry = x.1;
        after = [];
        is = refl;
        has = refl;
        fewer = rw l.is (All-append Fewer l.before ((key, l.entry) ∷ l.after) before
            (All-cons Fewer (key, l.entry) l.after (omega (arith, l.has, more)) after));
        no_more = All-nil (λ (e : K × E). billed e.1 ≤ billed x.1);
      }

pub loop-key-preserved-then-bytes-most : goal.loop-key-preserved-then-bytes-most
loop-key-preserved-then-bytes-most g c =
    let l = rw c.in-Some-largest.is at c.loop-key.invariant in
    rw (c.in-Some-largest.is, map-append) (keeps g.E.Billed.billed _ _ _ (c.in-Some.key.now, c.in-Some.entry.now)
    (omega (arith, c.bytes-bytes.ensures, c.if-bytes-most.true)) l)

pub loop-key-preserved : goal.loop-key-preserved
loop-key-preserved g c = rw map-append (elim c.in_default.branch [
  | in_default-via-in-Some-largest+else-bytes-most w ↦
      let l = rw w.in-Some-largest.is at c.loop-key.invariant in
      rw c.bytes-bytes.ensures (takes g.E.Billed.billed _ _ _ (c.in-Some.key.now, c.in-Some.entry.now)
      (omega (arith, c.bytes-bytes.ensures, w.if-bytes-most.false)) l)
  | in_default-via-in_default w ↦
      let l = rw w.in_default.is at c.loop-key.invariant in
      rw l (record {
        before = [];
        entry = c.in-Some.entry.now;
        after = [];
        is = refl;
        has = search rules;
        fewer = All-nil _;
        no_more = All-nil _;
      })
])
