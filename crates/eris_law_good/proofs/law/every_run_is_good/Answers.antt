use Rattle.eris_law_good.proofs.Goodness.{good_at, good_front, good_run, reported_serial}
use Rattle.eris_law_good.proofs.law.every_run_is_good.Goals as goal

pub returns-clause-good : goal.returns-clause-good
returns-clause-good c = good_run

pub returns-clause-front : goal.returns-clause-front
returns-clause-front c = good_front

pub returns-clause-moment : goal.returns-clause-moment
returns-clause-moment c = good_at

pub returns-clause-reported : goal.returns-clause-reported
returns-clause-reported c = reported_serial
