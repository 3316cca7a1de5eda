use Rattle.eris_law_live.proofs.OneStep.{node_left, node_sends, others_rest}
use Rattle.eris_law_live.proofs.law.events_are_steps.Goals as goal

pub returns-clause-left : goal.returns-clause-left
returns-clause-left c = λ world event node state calm live of found. node_left world event calm live node state of found

pub returns-clause-sends : goal.returns-clause-sends
returns-clause-sends c = λ world event node state calm live of found. node_sends world event calm live node state of found

pub returns-clause-others : goal.returns-clause-others
returns-clause-others c = λ world event node other calm live of apart. others_rest world event calm live node other of apart
