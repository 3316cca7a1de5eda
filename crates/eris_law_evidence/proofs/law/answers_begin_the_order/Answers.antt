use Rattle.eris_law_evidence.proofs.CountedFronts.{over_the_order}
use Rattle.eris_law_evidence.proofs.SaidFronts.{front_ends, late_front, replies_front}
use Rattle.eris_law_evidence.proofs.law.answers_begin_the_order.Goals as goal

pub returns-clause-replied : goal.returns-clause-replied
returns-clause-replied c = replies_front

pub returns-clause-late : goal.returns-clause-late
returns-clause-late c = λ config events j shard replica id phase answer sent. late_front config events j shard id phase answer replica sent

pub returns-clause-over_the_order : goal.returns-clause-over_the_order
returns-clause-over_the_order c = over_the_order

pub returns-clause-ends : goal.returns-clause-ends
returns-clause-ends c = front_ends
