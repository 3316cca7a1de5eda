-- In which ranges the fields of a report are. Nothing ties its ids, keys and stamps to its config, and nothing is said of what its
-- replicas tell but that each number is one of its type.
use Rattle.std.specs.Prelude.{◌≡◌, ℕ, ◌+◌, ◌*◌, ◌&&◌, nat_le, nat_lt, Bool, true, false, Option, Some, None, List, length, map, IsTrue}
use Rattle.std.specs.List.{flat_map, list_all, range_with_len}
use Rattle.eris_base.specs.declared.ids.ClientId.{ClientId}
use Rattle.eris_base.specs.declared.ids.ReplicaId.{ReplicaId}
use Rattle.eris_base.specs.declared.ids.ShardId.{ShardId}
use Rattle.eris_base.specs.declared.ids.TxnId.{TxnId}
use Rattle.eris_base.specs.ConfigLimits.{ConfigValue, IsConfig}
use Rattle.eris_base.specs.Places.{are_stamp_places}
use Rattle.eris_txn.specs.declared.answer.Answer.{Answer}
use Rattle.eris_txn.specs.declared.answer.Answer.TheVariants.{Ops, Values, Committed, Aborted}
use Rattle.eris_txn.specs.declared.history.HistoryEvent.{HistoryEvent}
use Rattle.eris_txn.specs.declared.history.HistoryEvent.TheVariants as event
use Rattle.eris_txn.specs.declared.op.OpAnswer.{OpAnswer}
use Rattle.eris_txn.specs.declared.op.OpAnswer.TheVariants.{Value, Absent, Done, Yes, No}
use Rattle.eris_txn.specs.declared.txn.Txn.{Txn}
use Rattle.eris_txn.specs.declared.txn.Txn.TheVariants.{Whole, General}
use Rattle.eris_audit.specs.declared.order_line.OrderLine.{OrderLine}
use Rattle.eris_event.specs.declared.report.ReplicaLine.{ReplicaLine}
use Rattle.eris_event.specs.declared.report.Report.{Report}
use Rattle.eris_event.specs.EventRanges.{are_ops, fits_count, fits_value, is_plan}

-- IDS AND NUMBERS

-- clients are 0 to 127
abbrev pub is_ranged_client : ClientId → Bool
is_ranged_client client = nat_lt client.0 128

-- the numbers of a client's transactions and those of stamps start at 1
abbrev pub is_ranged_number : ℕ → Bool
is_ranged_number number = nat_lt 0 number && fits_count number

abbrev pub is_ranged_id : TxnId → Bool
is_ranged_id id = is_ranged_client id.client && is_ranged_number id.number

-- 1 to 32 of a kind
abbrev pub is_ranged_length : ℕ → Bool
is_ranged_length count = nat_lt 0 count && nat_le count 32

-- THE HISTORY

abbrev pub is_ranged_txn : Txn → Bool
is_ranged_txn (Whole ops) = are_ops 2 ops
is_ranged_txn (General plan) = is_plan 2 plan

abbrev pub is_ranged_value : Option ℕ → Bool
is_ranged_value (Some value) = fits_value value
is_ranged_value None = true

abbrev pub is_ranged_op_answer : OpAnswer → Bool
is_ranged_op_answer (Value value) = fits_value value
is_ranged_op_answer Absent = true
is_ranged_op_answer Done = true
is_ranged_op_answer Yes = true
is_ranged_op_answer No = true

-- a transaction is answered by its operations or by its outcome, never by values
abbrev pub is_ranged_answer : Answer → Bool
is_ranged_answer (Ops answers) = is_ranged_length (length answers) && list_all is_ranged_op_answer answers
is_ranged_answer (Values values) = false
is_ranged_answer Committed = true
is_ranged_answer Aborted = true

-- who asked for an abort is told an outcome
abbrev pub is_ranged_outcome : Answer → Bool
is_ranged_outcome (Ops answers) = false
is_ranged_outcome (Values values) = false
is_ranged_outcome Committed = true
is_ranged_outcome Aborted = true

abbrev pub is_ranged_event : HistoryEvent → Bool
is_ranged_event (event.Submit id txn) = is_ranged_id id && is_ranged_txn txn
is_ranged_event (event.Read id values) = is_ranged_id id && (is_ranged_length (length values) && list_all is_ranged_value values)
is_ranged_event (event.Answer id answer) = is_ranged_id id && is_ranged_answer answer
is_ranged_event (event.Told asker id outcome) = is_ranged_client asker && (is_ranged_id id && is_ranged_outcome outcome)

-- THE ORDER

-- shards are 0 to 63
abbrev pub is_ranged_place : ShardId × ℕ → Bool
is_ranged_place place = nat_lt place.0.0 64 && is_ranged_number place.1

-- the shards of a stamp strictly ascend and there is at least one, so it has 1 to 64 places
abbrev pub is_ranged_line : OrderLine → Bool
is_ranged_line line =
    is_ranged_id line.id
    && (fits_count line.stamp.epoch.0 && (are_stamp_places line.stamp.places && list_all is_ranged_place line.stamp.places))

-- THE REPLICAS

abbrev pub replica_at : ℕ → ℕ → ShardId × ReplicaId
replica_at shard replica = (record { 0 = shard }, record { 0 = replica })

-- the replicas of a config, by shard, then replica: each shard has 2f+1 of them
abbrev pub replicas_of : ConfigValue → List (ShardId × ReplicaId)
replicas_of config =
    flat_map (λ shard. map (replica_at shard) (range_with_len 0 (2 * config.f + 1))) (range_with_len 0 config.shards)

abbrev pub replica_of : ReplicaLine → ShardId × ReplicaId
replica_of line = (line.shard, line.replica)

-- what a replica tells may be any numbers of their type
abbrev pub is_ranged_replica : ReplicaLine → Bool
is_ranged_replica line =
    fits_count line.epoch.0
    && (fits_count line.view.0 && (fits_count line.held && (fits_count line.length && fits_count line.settled)))

-- A REPORT IN RANGE. There is one line for each replica of the config.
pub record IsRangedReport (report : Report) : Type 0 where
  pub config : IsConfig report.config
  pub history : IsTrue (list_all is_ranged_event report.history)
  pub order : IsTrue (list_all is_ranged_line report.order)
  pub each_replica : map replica_of report.replicas ≡ replicas_of report.config
  pub replicas : IsTrue (list_all is_ranged_replica report.replicas)
  pub current : IsTrue (fits_count report.current.0)
  pub target : IsTrue (fits_count report.target.0)
  pub found : IsTrue (fits_count report.found)
  pub dropped : IsTrue (fits_count report.dropped)
  pub sent : IsTrue (fits_count report.sent)
