use Rattle.std.proofs.Common.{ℕ, List, Option, map-id, subst}
use Rattle.eris_txn.specs.declared.key.Key.{Key}
use Rattle.eris_txn.specs.declared.op.OpAnswer.{OpAnswer}
use Rattle.eris_txn.specs.Operations.{key_of}
use Rattle.eris_serial.specs.Joining.{IsJoined, shards_in_order}
use Rattle.eris_serial.proofs.JoinedShares.{gave_by_length, taken_is_joined}
use Rattle.eris_serial.proofs.bridges.shards_join.Goals as goal

pub returns-clause-operations : goal.returns-clause-operations
returns-clause-operations c = taken_is_joined OpAnswer key_of

pub returns-clause-keys : goal.returns-clause-keys
returns-clause-keys c = λ take turns keys given gave.
    subst (λ (some : List Key). IsJoined (λ key. key) keys given (take (shards_in_order some) given)) (map-id keys) (taken_is_joined (Option ℕ) (λ key. key) take turns keys given gave)

pub returns-clause-operations_given : goal.returns-clause-operations_given
returns-clause-operations_given c = gave_by_length OpAnswer key_of

pub returns-clause-keys_given : goal.returns-clause-keys_given
returns-clause-keys_given c = gave_by_length (Option ℕ) (λ key. key)
