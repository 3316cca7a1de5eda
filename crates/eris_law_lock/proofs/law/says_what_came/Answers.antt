use Rattle.std.proofs.Common.{[], refl}
use Rattle.eris_law_lock.proofs.Lost.{said_finds}
use Rattle.eris_law_lock.proofs.Once.{each_once, stands_once, never_aborted}
use Rattle.eris_law_lock.proofs.SaidFrom.{said_from}
use Rattle.eris_law_lock.proofs.Unrecorded.{conclusion_unrecorded}
use Rattle.eris_law_lock.proofs.law.says_what_came.Goals as goal
use Rattle.eris_txn.specs.declared.answer.Answer.{Answer}
use Rattle.eris_txn.specs.Keys.{no_values}

pub returns-clause-came : goal.returns-clause-came
returns-clause-came c = λ packets id phase answer said. said_from id phase answer packets said

pub returns-clause-finds : goal.returns-clause-finds
returns-clause-finds c = λ before rest conclusory values concludes said. said_finds conclusory.id (Answer.Values values) before rest conclusory refl concludes refl said

pub returns-clause-unrecorded : goal.returns-clause-unrecorded
returns-clause-unrecorded c = conclusion_unrecorded

pub returns-clause-once : goal.returns-clause-once
returns-clause-once c = λ packets. each_once packets no_values [] []

pub returns-clause-one_answer : goal.returns-clause-one_answer
returns-clause-one_answer c = λ packets id some other h k. stands_once packets no_values [] [] id some other h k

pub returns-clause-never_aborted : goal.returns-clause-never_aborted
returns-clause-never_aborted c = λ packets id h. never_aborted packets no_values [] [] id h
