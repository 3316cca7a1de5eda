use Rattle.eris_law_evidence.proofs.CountedFronts.{counted_front, counted_said}
use Rattle.eris_law_evidence.proofs.law.what_is_counted_is_said.Goals as goal

pub returns-clause-counted : goal.returns-clause-counted
returns-clause-counted c = counted_front

pub returns-clause-is_said : goal.returns-clause-is_said
returns-clause-is_said c = counted_said
