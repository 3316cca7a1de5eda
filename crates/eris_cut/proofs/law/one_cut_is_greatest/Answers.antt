use Rattle.eris_cut.proofs.Greatest.{greater_closed, one_greatest, zeros_closed}
use Rattle.eris_cut.proofs.There.{greatest_there}
use Rattle.eris_cut.proofs.law.one_cut_is_greatest.Goals as goal

pub returns-clause-zeros : goal.returns-clause-zeros
returns-clause-zeros c = zeros_closed

pub returns-clause-greater : goal.returns-clause-greater
returns-clause-greater c = greater_closed

pub returns-clause-there : goal.returns-clause-there
returns-clause-there c = greatest_there

pub returns-clause-one : goal.returns-clause-one
returns-clause-one c = one_greatest
