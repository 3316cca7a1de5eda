use Rattle.eris_law_past.proofs.Parted.{ended_holds_not}
use Rattle.eris_law_past.proofs.Ends.{nothing_holds, nothing_waits, values_are}
use Rattle.eris_law_past.proofs.law.nothing_holds_there.Goals as goal

pub returns-clause-ended : goal.returns-clause-ended
returns-clause-ended c = ended_holds_not

pub returns-clause-holding : goal.returns-clause-holding
returns-clause-holding c = nothing_holds

pub returns-clause-waiting : goal.returns-clause-waiting
returns-clause-waiting c = nothing_waits

pub returns-clause-values : goal.returns-clause-values
returns-clause-values c = values_are
