-- Messages that name only shards, replicas and clients of the config.
use Rattle.std.specs.Prelude.{ℕ, Bool, true, ◌&&◌, nat_lt, List}
use Rattle.std.specs.List.{list_all}
use Rattle.eris_base.specs.declared.ids.ClientId.{ClientId}
use Rattle.eris_base.specs.declared.ids.Place.{Place}
use Rattle.eris_base.specs.declared.ids.ReplicaId.{ReplicaId}
use Rattle.eris_base.specs.declared.ids.ShardId.{ShardId}
use Rattle.eris_base.specs.declared.ids.TxnId.{TxnId}
use Rattle.eris_base.specs.declared.stamp.Stamp.{Stamp}
use Rattle.eris_base.specs.ConfigLimits.{ConfigValue}
use Rattle.eris_txn.specs.declared.body.Body.{Body}
use Rattle.eris_txn.specs.declared.body.Body.TheVariants.{Independent, Prelim, Commit, Abort}
use Rattle.eris_txn.specs.declared.key.Key.{Key}
use Rattle.eris_txn.specs.declared.packet.Packet.{Packet}
use Rattle.eris_txn.specs.declared.plan.Write.{Write}
use Rattle.eris_txn.specs.Bodies.{keys_of}
use Rattle.eris_log.specs.PartValues.{PartValue}
use Rattle.eris_msg.specs.declared.message.Message.{Message}
use Rattle.eris_rules.specs.Addressees.{replica_count}

abbrev pub knows_shard : ConfigValue → ShardId → Bool
knows_shard config shard = nat_lt shard.0 config.shards

abbrev pub knows_replica : ConfigValue → ReplicaId → Bool
knows_replica config replica = nat_lt replica.0 (replica_count config)

abbrev pub knows_client : ConfigValue → ClientId → Bool
knows_client config client = nat_lt client.0 config.clients

abbrev pub knows_id : ConfigValue → TxnId → Bool
knows_id config id = knows_client config id.client

unfoldable pub knows_pairs : ConfigValue → List (ShardId × ℕ) → Bool
knows_pairs config pairs = list_all (λ pair. knows_shard config pair.0) pairs

abbrev pub knows_stamp : ConfigValue → Stamp → Bool
knows_stamp config stamp = knows_pairs config stamp.places

unfoldable pub knows_places : ConfigValue → List Place → Bool
knows_places config places = list_all (λ place. knows_shard config place.shard) places

unfoldable pub knows_keys : ConfigValue → List Key → Bool
knows_keys config keys = list_all (λ key. knows_shard config key.shard) keys

unfoldable pub knows_writes : ConfigValue → List Write → Bool
knows_writes config writes = list_all (λ write. knows_shard config write.key.shard) writes

-- the writes of a body, beside the keys that it speaks of
abbrev pub knows_body_writes : ConfigValue → Body → Bool
knows_body_writes config (Independent ops) = true
knows_body_writes config (Prelim locks) = true
knows_body_writes config (Commit keys writes) = knows_writes config writes
knows_body_writes config (Abort keys) = true

unfoldable pub knows_body : ConfigValue → Body → Bool
knows_body config body = knows_keys config (keys_of body) && knows_body_writes config body

unfoldable pub knows_packet : ConfigValue → Packet → Bool
knows_packet config packet =
    knows_stamp config packet.stamp
    && (knows_id config packet.id && (knows_client config packet.asker && knows_body config packet.body))

unfoldable pub knows_packets : ConfigValue → List Packet → Bool
knows_packets config packets = list_all (λ packet. knows_packet config packet) packets

unfoldable pub knows_held : ConfigValue → List (ℕ × Packet) → Bool
knows_held config held = list_all (λ pair. knows_packet config pair.1) held

unfoldable pub knows_part : ConfigValue → PartValue → Bool
knows_part config part =
    knows_shard config part.shard
    && (knows_held config part.held
    && (knows_places config part.temp && (knows_places config part.fnd && knows_places config part.perm)))

-- EACH SHARD, REPLICA AND CLIENT that the message names is of the config
unfoldable pub knows_all : ConfigValue → Message → Bool
knows_all config (Message.Ask asker id body) = knows_client config asker && (knows_id config id && knows_body config body)
knows_all config (Message.Txn packet) = knows_packet config packet
knows_all config (Message.Vouch view shard replica stamp id phase) =
    knows_shard config shard && (knows_replica config replica && (knows_stamp config stamp && knows_id config id))
knows_all config (Message.Reply view shard replica stamp id phase answer) =
    knows_shard config shard && (knows_replica config replica && (knows_stamp config stamp && knows_id config id))
knows_all config (Message.Late shard replica id phase answer) =
    knows_shard config shard && (knows_replica config replica && knows_id config id)
knows_all config (Message.Find replica place) = knows_replica config replica && knows_shard config place.shard
knows_all config (Message.Request place) = knows_shard config place.shard
knows_all config (Message.Has packet) = knows_packet config packet
knows_all config (Message.TempDropped place shard replica view) =
    knows_shard config place.shard && (knows_shard config shard && knows_replica config replica)
knows_all config (Message.Found packet) = knows_packet config packet
knows_all config (Message.Dropped place) = knows_shard config place.shard
knows_all config (Message.ViewChange replica view part) = knows_replica config replica && knows_part config part
knows_all config (Message.StartView view part) = knows_part config part
knows_all config (Message.SyncAsk epoch view) = true
knows_all config (Message.Ack replica epoch view length) = knows_replica config replica
knows_all config (Message.Settled epoch view number places) = knows_pairs config places
knows_all config (Message.NewEpoch shard replica epoch) = knows_shard config shard && knows_replica config replica
knows_all config (Message.EpochAsk epoch) = true
knows_all config (Message.EpochState replica epoch part) = knows_replica config replica && knows_part config part
knows_all config (Message.StartEpoch epoch shard packets) = knows_shard config shard && knows_packets config packets
