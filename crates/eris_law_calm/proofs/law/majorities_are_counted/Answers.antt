use Rattle.eris_law_calm.proofs.Voting.{majority_counts}
use Rattle.eris_law_calm.proofs.law.majorities_are_counted.Goals as goal

pub returns : goal.returns
returns c = record { counted = majority_counts }
