use Rattle.std.proofs.Common.{ℕ, Option}
use Rattle.eris_txn.specs.declared.op.OpAnswer.{OpAnswer}
use Rattle.eris_law_client.proofs.Completing.{assemble_takes_in_turn}
use Rattle.eris_law_client.proofs.Resting.{event_rests, happened}
use Rattle.eris_law_client.proofs.law.events_rest.Goals as goal

pub returns-clause-happened : goal.returns-clause-happened
returns-clause-happened c = happened

pub returns-clause-rests : goal.returns-clause-rests
returns-clause-rests c = event_rests

pub returns-clause-joins_answers : goal.returns-clause-joins_answers
returns-clause-joins_answers c = assemble_takes_in_turn OpAnswer

pub returns-clause-joins_values : goal.returns-clause-joins_values
returns-clause-joins_values c = assemble_takes_in_turn (Option ℕ)
