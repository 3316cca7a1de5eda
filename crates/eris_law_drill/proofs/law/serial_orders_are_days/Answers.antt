use Rattle.std.proofs.Common.{◌∙◌}
use Rattle.eris_txn.specs.Keys.{no_values}
use Rattle.eris_audit.specs.Histories.{txn_of}
use Rattle.eris_drill.specs.Summaries.{after_steps}
use Rattle.eris_law_drill.proofs.Days.{day_only, day_worth}
use Rattle.eris_law_drill.proofs.Serials.{day_of}
use Rattle.eris_law_drill.proofs.Totals.{total_is_worth}
use Rattle.eris_law_drill.proofs.law.serial_orders_are_days.Goals as goal

pub returns-clause-day : goal.returns-clause-day
returns-clause-day c = day_of

pub returns-clause-total : goal.returns-clause-total
returns-clause-total c = λ history order total bank serial whole.
    total_is_worth (after_steps (txn_of history) order no_values) total (day_only (txn_of history) order (day_of history order bank serial)) whole
    ∙ day_worth (txn_of history) order (day_of history order bank serial)
