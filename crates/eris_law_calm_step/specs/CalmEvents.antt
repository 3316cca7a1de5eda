-- THE EVENTS OF A RUN THAT NOTHING DISTURBS: whole transactions are submitted, each packet is delivered in the order in
-- which they were sent, and replicas crash, but no shard's first one, which is the learner that answers.
use Rattle.std.specs.Prelude.{ℕ, Bool, true, false, ◌+◌, ◌*◌, ◌==◌, nat_lt, length}
use Rattle.eris_base.specs.declared.ids.ShardId.{ShardId}
use Rattle.eris_base.specs.ConfigLimits.{ConfigValue}
use Rattle.eris_txn.specs.declared.body.Body.TheVariants.{Independent}
use Rattle.eris_txn.specs.Bodies.{participants_of}
use Rattle.eris_event.specs.declared.event.Event.{Event}
use Rattle.eris_rules.specs.Addressees.{replica_count}

-- a submission of a whole transaction; a delivery of the lowest waiting packet; or the crash of a replica that isn't its
-- shard's first
abbrev pub is_calm : Event → Bool
is_calm (Event.Submit client ops) = true
is_calm Event.Flow = true
is_calm (Event.Crash shard replica) = nat_lt 0 replica.0
is_calm event = false

-- a replica of the shard crashes
abbrev pub crashes_on : ShardId → Event → Bool
crashes_on shard (Event.Crash other replica) = other.0 == shard.0
crashes_on shard event = false

-- HOW MANY PACKETS a submission causes at most: the client's Ask, and for each replica of each shard that takes part
-- a packet and an answer to it
abbrev pub packets_for : ConfigValue → Event → ℕ
packets_for config (Event.Submit client ops) = 1 + length (participants_of (Independent ops)) * (2 * replica_count config)
packets_for config event = 0
