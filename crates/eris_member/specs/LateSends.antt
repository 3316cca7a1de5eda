-- A late answer as it is sent.
use Rattle.eris_base.specs.declared.ids.Node.TheVariants.{Client}
use Rattle.eris_base.specs.declared.ids.ReplicaId.{ReplicaId}
use Rattle.eris_base.specs.declared.ids.ShardId.{ShardId}
use Rattle.eris_locks.specs.declared.done.Done.{Done}
use Rattle.eris_msg.specs.declared.message.Message.{Message}
use Rattle.eris_msg.specs.declared.outgoing.Outgoing.{Outgoing}

-- an answer of the shard's store, as a late one of this replica
abbrev pub late_out : ShardId → ReplicaId → Done → Outgoing
late_out shard replica done = record { to = Client done.asker; message = Message.Late shard replica done.id done.phase done.answer }
