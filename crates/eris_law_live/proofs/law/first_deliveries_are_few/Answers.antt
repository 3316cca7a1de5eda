use Rattle.eris_law_live.proofs.Firsts.{firsts-append, firsts_few}
use Rattle.eris_law_live.proofs.law.first_deliveries_are_few.Goals as goal

pub returns-clause-few : goal.returns-clause-few
returns-clause-few c = firsts_few

pub returns-clause-parts : goal.returns-clause-parts
returns-clause-parts c = firsts-append
