use Rattle.std.proofs.Common.{◌∙◌}
use Rattle.eris_txn.specs.Keys.{no_values}
use Rattle.eris_drill.specs.Summaries.{after_steps}
use Rattle.eris_law_drill.proofs.Days.{day_only, day_worth}
use Rattle.eris_law_drill.proofs.Totals.{total_is_worth}
use Rattle.eris_law_drill.proofs.law.days_keep_the_sum.Goals as goal

pub returns-clause-worth : goal.returns-clause-worth
returns-clause-worth c = day_worth

pub returns-clause-only : goal.returns-clause-only
returns-clause-only c = day_only

pub returns-clause-total : goal.returns-clause-total
returns-clause-total c = λ txn lines total day whole.
    total_is_worth (after_steps txn lines no_values) total (day_only txn lines day) whole ∙ day_worth txn lines day
