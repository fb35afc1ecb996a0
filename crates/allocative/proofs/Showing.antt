-- The rules for code that opens entries.
pub use Rattle.allocative.proofs.Visits.{not_entered, adds_weaker, adds_hidden, adds_refused, adds_refused_err}
pub use Rattle.allocative.proofs.Visits.{adds_both_err, adds_err}
use Rattle.allocative.specs.Making.{entry_refused, first_refused, first_entered}
use Rattle.allocative.proofs.Strict.{not_strict, only_if_full_nothing, only_if_full_within, only_if_full_field}
use Rattle.allocative.proofs.Strict.{only_if_full_not_within, only_if_full_not_field, only_if_full_again}
use Rattle.allocative.proofs.Strict.{only_if_full_not_shared, only_if_full_first, only_if_full_both}
use Rattle.allocative.proofs.Strict.{only_if_full_refused, first_true, second_true}
use Rattle.allocative.proofs.Visits.{close_cause, adds_nothing, adds_both, adds_entry, adds_field, adds_again}
use Rattle.allocative.proofs.Visits.{entry_err, not_shared, not_entered_cause, adds_forgotten, refuses_entry}
use Rattle.allocative.proofs.Making.{makes_then, then_refused, makes_within, makes_keeps, kept_after, gives_within}
use Rattle.allocative.proofs.Making.{gives_refused, only_if_full_failed}

-- What is shown.
pub ruleset shown = (close_cause, adds_nothing, adds_both, adds_both_err, adds_err, adds_entry, adds_field, adds_again)

-- What is shown after a refusal.
pub ruleset shown_refused = (entry_err, not_entered, not_shared, not_entered_cause, adds_refused, adds_refused_err)

-- What is shown if a refusal is hidden or a visitor forgotten.
pub ruleset shown_nothing = (adds_hidden, adds_forgotten, refuses_entry)

-- What is refused only if it must be.
pub ruleset strict_shown = (only_if_full_nothing, only_if_full_within, only_if_full_field, first_true, second_true)

-- What is refused only if it must be, if a visit need not be strict or an entry is refused.
pub ruleset strict_refused = (not_strict, only_if_full_not_within, only_if_full_not_field, only_if_full_not_shared)

-- What is refused only if it must be, for a shared value and of one visit after another.
pub ruleset strict_both = (only_if_full_again, only_if_full_first, only_if_full_both, only_if_full_failed)

-- Which entries are made.
pub ruleset made = (first_refused, first_entered, makes_within, entry_refused, makes_then, then_refused)

-- Which entries are made over an iterator, and what is kept of a failure.
pub ruleset made_over = (gives_within, gives_refused, makes_keeps, kept_after, only_if_full_refused)

-- What is shown, what is refused only if it must be, and which entries are made.
pub ruleset showing = (shown, shown_refused, shown_nothing, strict_shown, strict_refused, strict_both, made, made_over)
