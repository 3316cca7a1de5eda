use Rattle.eris_law_drill_run.proofs.Money.{drill_counts, drill_good, drill_history, drill_submits, drill_total}
use Rattle.eris_law_drill_run.proofs.law.drills_keep_their_money.Goals as goal

pub returns-clause-submitted : goal.returns-clause-submitted
returns-clause-submitted c = drill_submits

pub returns-clause-count : goal.returns-clause-count
returns-clause-count c = drill_counts

pub returns-clause-history : goal.returns-clause-history
returns-clause-history c = drill_history

pub returns-clause-good : goal.returns-clause-good
returns-clause-good c = drill_good

pub returns-clause-total : goal.returns-clause-total
returns-clause-total c = drill_total
