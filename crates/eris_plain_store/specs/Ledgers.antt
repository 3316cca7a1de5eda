use Rattle.std.specs.Prelude.{Option, None, List, [], ◌∷◌}
use Rattle.eris_base.specs.declared.ids.Phase.{Phase}
use Rattle.eris_base.specs.declared.ids.TxnId.{TxnId}
use Rattle.eris_txn.specs.declared.answer.Answer.{Answer}
use Rattle.eris_locks.specs.States.{note, decide}
use Rattle.eris_plain_store.specs.declared.ledger.Decided.{Decided}
use Rattle.eris_plain_store.specs.declared.ledger.Recorded.{Recorded}

-- the answers that a list of records keeps, the newest first
abbrev pub recorded_in : List Recorded → TxnId → Phase → Option Answer
recorded_in [] = λ id phase. None
recorded_in (entry ∷ entries) = note (recorded_in entries) entry.id entry.phase entry.answer

-- the outcomes that a list of decisions keeps, the newest first
abbrev pub decided_in : List Decided → TxnId → Option Answer
decided_in [] = λ id. None
decided_in (entry ∷ entries) = decide (decided_in entries) entry.id entry.outcome
