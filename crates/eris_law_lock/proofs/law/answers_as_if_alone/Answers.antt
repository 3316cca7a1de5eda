use Rattle.eris_law_lock.proofs.InPart.{said_in_part}
use Rattle.eris_law_lock.proofs.Keys.{modes_conflict}
use Rattle.eris_law_lock.proofs.Final.{answers_right, beginning_right, values_right, waiting_none}
use Rattle.eris_law_lock.proofs.law.answers_as_if_alone.Goals as goal

pub returns-clause-answers : goal.returns-clause-answers
returns-clause-answers c = answers_right

pub returns-clause-beginning : goal.returns-clause-beginning
returns-clause-beginning c = beginning_right

pub returns-clause-said_in_time : goal.returns-clause-said_in_time
returns-clause-said_in_time c = λ packets rest id values well has said. said_in_part id values packets rest well has said

pub returns-clause-nothing_waits : goal.returns-clause-nothing_waits
returns-clause-nothing_waits c = waiting_none

pub returns-clause-values : goal.returns-clause-values
returns-clause-values c = values_right

pub returns-clause-modes : goal.returns-clause-modes
returns-clause-modes c = modes_conflict
