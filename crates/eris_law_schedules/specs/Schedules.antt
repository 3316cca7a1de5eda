-- Schedules over several epochs, of one shard, one client and one key, and what is told of the worlds after them.
use Rattle.std.specs.Prelude.{ℕ, Bool, is_some, Some, None, List, [], ◌∷◌, ◌++◌, length, map, replicate}
use Rattle.eris_base.specs.declared.ids.ClientId.{ClientId}
use Rattle.eris_base.specs.declared.ids.ReplicaId.{ReplicaId}
use Rattle.eris_base.specs.declared.ids.ShardId.{ShardId}
use Rattle.eris_base.specs.declared.ids.TxnId.{TxnId}
use Rattle.eris_base.specs.declared.stamp.Stamp.{Stamp}
use Rattle.eris_base.specs.ConfigLimits.{ConfigValue}
use Rattle.eris_txn.specs.declared.answer.Answer.{Answer}
use Rattle.eris_txn.specs.declared.history.HistoryEvent.{HistoryEvent}
use Rattle.eris_txn.specs.declared.history.HistoryEvent.TheVariants as history
use Rattle.eris_txn.specs.declared.key.Key.{Key}
use Rattle.eris_txn.specs.declared.op.Op.{Op}
use Rattle.eris_txn.specs.declared.op.Op.TheVariants.{Get, Put}
use Rattle.eris_txn.specs.declared.op.OpAnswer.{OpAnswer}
use Rattle.eris_txn.specs.declared.packet.Packet.{Packet}
use Rattle.eris_txn.specs.declared.txn.Txn.{Txn}
use Rattle.eris_log.specs.Entries.{length_of}
use Rattle.eris_msg.specs.declared.outgoing.Outgoing.{Outgoing}
use Rattle.eris_event.specs.declared.event.Event.{Event}
use Rattle.eris_rules.specs.Good.{settled_log}
use Rattle.eris_rules.specs.ReplicaStates.{ReplicaState}
use Rattle.eris_rules.specs.Runs.{run}
use Rattle.eris_rules.specs.WorldOrders.{order_on}
use Rattle.eris_rules.specs.Worlds.{WorldState}
use Rattle.eris_law_agreement.specs.Alone.{state_of}
use Rattle.eris_law_agreement.specs.WorldMoments.{world_at}

-- ---- words: one shard, one client, one key
abbrev pub with_faults : ℕ → ConfigValue
with_faults f = record { shards = 1; f = f; clients = 1 }

abbrev pub shard : ShardId
shard = record { 0 = 0 }

abbrev pub replica : ℕ → ReplicaId
replica number = record { 0 = number }

abbrev pub client : ClientId
client = record { 0 = 0 }

abbrev pub txn : ℕ → TxnId
txn number = record { client = client; number = number }

abbrev pub a : Key
a = record { shard = shard; name = 97 ∷ [] }

abbrev pub submit : Op → Event
submit op = Event.Submit client (op ∷ [])

abbrev pub flow : ℕ → List Event
flow count = replicate count Event.Flow

abbrev pub deliver : ℕ → Event
deliver packet = Event.Deliver packet None

abbrev pub suspect : ℕ → Event
suspect number = Event.Suspect shard (replica number)

abbrev pub sync : ℕ → Event
sync number = Event.Sync shard (replica number)

-- none of the events is refused
abbrev pub is_accepted : ℕ → List Event → Bool
is_accepted f events = is_some (run (with_faults f) events)

-- the world after all the events
abbrev pub at_end : ℕ → List Event → WorldState
at_end f events = world_at (with_faults f) events (length events)

abbrev pub state_at_end : ℕ → List Event → ℕ → ReplicaState
state_at_end f events number = state_of (at_end f events).replicas shard (replica number)

-- whose packets these are
abbrev pub ids : List Packet → List TxnId
ids packets = map (λ (packet : Packet). packet.id) packets

abbrev pub order_ids : ℕ → List Event → List TxnId
order_ids f events = ids (order_on shard (at_end f events))

abbrev pub settled_ids : ℕ → List Event → ℕ → List TxnId
settled_ids f events number = ids (settled_log (state_at_end f events number))

-- of a replica: its epoch, its view, its length and its settled number there
abbrev pub told : ℕ → List Event → ℕ → List ℕ
told f events number =
    (state_at_end f events number).epoch.0
    ∷ (state_at_end f events number).inner.view.0
    ∷ length_of (state_at_end f events number).inner.part
    ∷ (state_at_end f events number).inner.settled
    ∷ []

-- whose packets each epoch's sequencer stamped
abbrev pub stamped_ids : ℕ → List Event → List (List TxnId)
stamped_ids f events = map (λ stamping. ids stamping.stamped) (at_end f events).stampings

abbrev pub submitted : ℕ → Op → HistoryEvent
submitted number op = history.Submit (txn number) (Txn.Whole (op ∷ []))

abbrev pub answered : ℕ → OpAnswer → HistoryEvent
answered number answer = history.Answer (txn number) (Answer.Ops (answer ∷ []))

-- A DROP AND A SETTLEMENT IN AN OLDER EPOCH, and an earlier sequencer that goes on. One replica. The packet of
-- transaction 1 is lost, and its place is dropped; the log is settled up to number 2.
abbrev pub settles_first : List Event
settles_first = (submit (Put a 1) ∷ []) ++ flow 1 ++ (Event.Lose ∷ submit (Put a 2) ∷ []) ++ flow 7 ++ (sync 0 ∷ [])

-- The sequencer is replaced, and transaction 3 reads in epoch 1. Then the Ask of transaction 4 comes to the sequencer of
-- epoch 0, which stamps it, to no effect.
abbrev pub goes_on : List Event
goes_on = settles_first ++ (Event.Replace ∷ submit (Get a) ∷ []) ++ flow 6 ++ (deliver 10 ∷ []) ++ flow 1
    ++ (submit (Put a 9) ∷ Event.Deliver 16 (Some (record { 0 = 0 })) ∷ []) ++ flow 5

-- A SKIPPED EPOCH: two sequencers are replaced before anything is stamped.
abbrev pub skips : List Event
skips = (submit (Put a 1) ∷ []) ++ flow 3 ++ (Event.Replace ∷ Event.Replace ∷ submit (Get a) ∷ []) ++ flow 6 ++ (deliver 4 ∷ []) ++ flow 1

-- AN EPOCH CLOSED BY A QUORUM WITHOUT ITS LEARNER. Three replicas. Transaction 1 comes to replicas 0 and 1 alone, and
-- is answered; then replica 0, the learner, crashes. Replicas 1 and 2 close epoch 0, of which 2 had nothing; in
-- epoch 1 they go to view 1, whose learner is 1, and transaction 2 reads what transaction 1 put.
abbrev pub without_learner : List Event
without_learner = (submit (Put a 7) ∷ []) ++ flow 3 ++ (Event.Lose ∷ []) ++ flow 2
    ++ (Event.Crash shard (replica 0) ∷ Event.Replace ∷ submit (Get a) ∷ []) ++ flow 14
    ++ (suspect 1 ∷ suspect 2 ∷ []) ++ flow 3 ++ (deliver 8 ∷ deliver 9 ∷ []) ++ flow 2

-- A VIEW CHANGE AFTER A DROP, in a later epoch. Transaction 1 starts epoch 1, and its packet there comes to nobody in
-- time; its place is dropped when the packet of transaction 2 comes. Then the learner crashes; view 1 begins with what
-- the other two know, transaction 3 reads what transaction 2 put, and all of it is settled.
abbrev pub drops_then_changes : List Event
drops_then_changes = (Event.Replace ∷ submit (Put a 1) ∷ []) ++ flow 20 ++ (submit (Put a 2) ∷ []) ++ flow 30
    ++ (Event.Crash shard (replica 0) ∷ suspect 1 ∷ suspect 2 ∷ []) ++ flow 5 ++ (submit (Get a) ∷ []) ++ flow 8 ++ (sync 1 ∷ []) ++ flow 8

-- in the run without its learner, what was sent by the first four events, and the stamp of transaction 1
abbrev pub sent_then : List Outgoing
sent_then = (world_at (with_faults 1) without_learner 4).sent

abbrev pub its_stamp : Stamp
its_stamp = record { epoch = record { 0 = 0 }; places = (shard, 1) ∷ [] }
