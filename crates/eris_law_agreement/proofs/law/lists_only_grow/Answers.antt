use Rattle.eris_law_agreement.proofs.NodeLocality.{history_continues, history_one, sent_continues, sent_one}
use Rattle.eris_law_agreement.proofs.law.lists_only_grow.Goals as goal

pub returns-clause-sent_by_one : goal.returns-clause-sent_by_one
returns-clause-sent_by_one c = sent_one

pub returns-clause-history_by_one : goal.returns-clause-history_by_one
returns-clause-history_by_one c = history_one

pub returns-clause-sent : goal.returns-clause-sent
returns-clause-sent c = sent_continues

pub returns-clause-history : goal.returns-clause-history
returns-clause-history c = history_continues
