-- of count_data: the items are counted with those of entries of their kind
use Rattle.std.proofs.Math.Nat.{add-zero}
use Rattle.allocative_tally.proofs.{◌∙◌, arith, refl, Wide, Narrow, Some, run_as, told_by, told_then}
use Rattle.allocative_tally.proofs.{first_counted, second_counted, entry_counts, fields_within}
use Rattle.allocative_tally.proofs.{counted_inline, holds_bytes, fields_direct, none_counted, one_more}
use Rattle.allocative_tally.proofs.map.count_data.Goals as goal

pub returns-then-count-eq0 : goal.returns-then-count-eq0
returns-then-count-eq0 g c =
    let old = c.args.tally.now.small in record {
      along = λ xs y count fields.
          let none = none_counted _ xs (omega (arith, count)) in
          told_then (told_by c.add_full.result c.add_full.ensures)
          (λ a. rw (a.items ∙ add-zero old.places.items) (first_counted (counted_inline
          (one_more (Some 8) old.places.buffers _ refl a.buffers) none (holds_bytes (omega arith)))));
    }

pub returns-then-bytes_of-le8 : goal.returns-then-bytes_of-le8
returns-then-bytes_of-le8 g c = run_as c.count_run-run.ensures (λ xs run count fields.
    let add = c.add_full-then-bytes_of-le8 in
    let small = rw (c.requires.sized, count) at c.bytes_of.ensures in
    told_then (entry_counts Wide c.and.ensures (fields_within _ fields)
    (λ z f e b y w. omega (arith, small, b, w)) run (told_by add.result (rw (c.requires.sized, count) at add.ensures)))
    first_counted)

pub returns : goal.returns
returns g c = run_as c.count_run-run-2.ensures (λ xs run count fields.
    let add = c.add_full-2 in
    let large = rw (c.requires.sized, count) at c.bytes_of.ensures in
    told_then (entry_counts Narrow c.and-2.ensures (fields_within _ fields)
    (λ z f e b y w. omega (arith, large, b, fields_direct xs fields z f e y)) run
    (told_by add.result (rw (c.requires.sized, count) at add.ensures))) second_counted)
