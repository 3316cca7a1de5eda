use Rattle.std.specs.Prelude.{Bool, true, false, Option, Some, None, List, [], ◌∷◌, if◌then◌else◌}
use Rattle.eris_base.specs.declared.ids.TxnId.{TxnId}
use Rattle.eris_txn.specs.declared.answer.Answer.{Answer}
use Rattle.eris_txn.specs.declared.answer.Answer.TheVariants.{Committed, Aborted}
use Rattle.eris_txn.specs.declared.body.Body.{Body}
use Rattle.eris_txn.specs.declared.body.Body.TheVariants.{Independent, Prelim, Commit, Abort}
use Rattle.eris_txn.specs.declared.plan.Write.{Write}
use Rattle.eris_txn.specs.Keys.{Values}
use Rattle.eris_txn.specs.Plans.{written}
use Rattle.eris_locks.specs.declared.shard_packet.ShardPacket.{ShardPacket}
use Rattle.eris_locks.specs.LockTable.{answer_of, values_after}
use Rattle.eris_locks.specs.States.{is_conclusory}
use Rattle.eris_base.specs.TxnIds.{same_id, is_among}

-- what the first conclusory packet of an id says
abbrev pub outcome_by : Body → Bool → Option Answer → Option Answer
outcome_by (Independent ops) here later = later
outcome_by (Prelim locks) here later = later
outcome_by (Commit keys writes) here later = if here then Some Committed else later
outcome_by (Abort keys) here later = if here then Some Aborted else later

abbrev pub outcome_in : TxnId → List ShardPacket → Option Answer
outcome_in id [] = None
outcome_in id (packet ∷ packets) = outcome_by packet.body (same_id id packet.id) (outcome_in id packets)

-- what the first conclusory packet of an id writes
abbrev pub writes_by : Body → Bool → List Write → List Write
writes_by (Independent ops) here later = later
writes_by (Prelim locks) here later = later
writes_by (Commit keys writes) here later = if here then writes else later
writes_by (Abort keys) here later = if here then [] else later

abbrev pub writes_in : TxnId → List ShardPacket → List Write
writes_in id [] = []
writes_in id (packet ∷ packets) = writes_by packet.body (same_id id packet.id) (writes_in id packets)

-- the writes of a preliminary at its point: none, where a conclusory of its id stands before it
abbrev pub writes_at : TxnId → List TxnId → List ShardPacket → List Write
writes_at id decided later = if is_among id decided then [] else writes_in id later

-- the values that a transaction leaves, where a preliminary has these writes
abbrev pub left_after : Body → List Write → Values → Values
left_after (Independent ops) writes values = values_after (Independent ops) values
left_after (Prelim locks) writes values = written writes values
left_after (Commit keys chosen) writes values = values
left_after (Abort keys) writes values = values

-- an id and what the plain run answers it
pub record Served : Type 0 where
  pub id : TxnId
  pub answer : Answer

-- THE PLAIN RUN: one map of values goes over the first packet of each transaction, with no lock and no
-- waiting; a preliminary whose first conclusory is a Commit after it writes at once, at its own point.
-- `seen` are the ids that came, `decided` those of which a conclusory came.
abbrev pub plain_run : Values → List TxnId → List TxnId → List ShardPacket → List Served
plain_run values seen decided [] = []
plain_run values seen decided (packet ∷ packets) =
    elim (is_conclusory packet.body) [
      | true ↦ plain_run values seen (packet.id ∷ decided) packets
      | false ↦ elim (is_among packet.id seen) [
        | true ↦ plain_run values seen decided packets
        | false ↦ record { id = packet.id; answer = answer_of packet.body values }
            ∷ plain_run (left_after packet.body (writes_at packet.id decided packets) values) (packet.id ∷ seen) decided packets
      ]
    ]

-- the values at its end
abbrev pub plain_values : Values → List TxnId → List TxnId → List ShardPacket → Values
plain_values values seen decided [] = values
plain_values values seen decided (packet ∷ packets) =
    elim (is_conclusory packet.body) [
      | true ↦ plain_values values seen (packet.id ∷ decided) packets
      | false ↦ elim (is_among packet.id seen) [
        | true ↦ plain_values values seen decided packets
        | false ↦ plain_values (left_after packet.body (writes_at packet.id decided packets) values) (packet.id ∷ seen) decided packets
      ]
    ]
