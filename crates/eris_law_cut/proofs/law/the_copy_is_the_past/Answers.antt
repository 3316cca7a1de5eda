use Rattle.eris_law_cut.proofs.Settled.{copy_formed, copy_holding, copy_values, copy_waiting}
use Rattle.eris_law_cut.proofs.law.the_copy_is_the_past.Goals as goal

pub returns-clause-formed : goal.returns-clause-formed
returns-clause-formed c = copy_formed

pub returns-clause-holding : goal.returns-clause-holding
returns-clause-holding c = copy_holding

pub returns-clause-waiting : goal.returns-clause-waiting
returns-clause-waiting c = copy_waiting

pub returns-clause-values : goal.returns-clause-values
returns-clause-values c = copy_values
