-- The sequencers of all epochs: a list in which the one of epoch e stands at index e.
use Rattle.std.specs.Prelude.{◌-◌, Bool, true, ◌&&◌, nat_lt, Option, Some, None, List, [], ◌∷◌, ◌++◌, length, slice_get, slice_set, if◌then◌else◌}
use Rattle.std.specs.List.{list_all}
use Rattle.eris_base.specs.declared.config.Config.{Config}
use Rattle.eris_base.specs.declared.ids.ClientId.{ClientId}
use Rattle.eris_base.specs.declared.ids.Epoch.{Epoch}
use Rattle.eris_base.specs.declared.ids.ShardId.{ShardId}
use Rattle.eris_base.specs.declared.ids.TxnId.{TxnId}
use Rattle.eris_txn.specs.declared.body.Body.{Body}
use Rattle.eris_txn.specs.declared.body.Body.TheVariants.{Independent, Prelim, Commit, Abort}
use Rattle.eris_txn.specs.declared.packet.Packet.{Packet}
use Rattle.eris_txn.specs.Bodies.{participants_of}
use Rattle.eris_sequencer.specs.declared.stamping.Stamping.{Stamping}
use Rattle.eris_sequencer.specs.Stamps.{new_sequencer, is_full, next_packet, stamped_next}

-- the sequencer of an epoch that has stamped nothing
unfoldable pub new_stamping : Config → Epoch → Stamping
new_stamping config epoch = record { sequencer = new_sequencer epoch config.shards; stamped = [] }

-- at the start there is the sequencer of epoch 0
unfoldable pub first_stampings : Config → List Stamping
first_stampings config = new_stamping config (record { 0 = 0 }) ∷ []

-- the highest epoch
unfoldable pub newest_of : List Stamping → Epoch
newest_of stampings = record { 0 = length stampings - 1 }

-- with the sequencer of the next epoch; the earlier ones go on
unfoldable pub replace : Config → List Stamping → List Stamping
replace config stampings = stampings ++ new_stamping config (record { 0 = length stampings }) ∷ []

-- the packets of the sequencer, if there is one
unfoldable pub packets_of : Option Stamping → List Packet
packets_of None = []
packets_of (Some stamping) = stamping.stamped

-- the packets that the sequencer of the epoch stamped, in that order
unfoldable pub stamped_in : List Stamping → Epoch → List Packet
stamped_in stampings epoch = packets_of (slice_get stampings epoch.0)

-- there is a shard, and all shards are in the config
unfoldable pub are_shards_of : Config → List ShardId → Bool
are_shards_of config shards = nat_lt 0 (length shards) && list_all (λ shard. nat_lt shard.0 config.shards) shards

-- what a commit writes is on shards of the config
abbrev pub are_writes_of : Config → Body → Bool
are_writes_of config (Independent operations) = true
are_writes_of config (Prelim locks) = true
are_writes_of config (Commit keys writes) = list_all (λ write. nat_lt write.key.shard.0 config.shards) writes
are_writes_of config (Abort keys) = true

-- an ask names clients and shards of the config, and at least one shard
unfoldable pub is_in_place : Config → ClientId → TxnId → Body → Bool
is_in_place config asker id body =
    nat_lt asker.0 config.clients
    && (nat_lt id.client.0 config.clients && (are_shards_of config (participants_of body) && are_writes_of config body))

-- what an ask comes to: the sequencers after it, and the packet, where one was stamped
pub record Stamped : Type 0 where
  pub stampings : List Stamping
  pub packet : Option Packet

-- the packet that the sequencer of an epoch stamps next, and the sequencers after that
unfoldable pub stamp_at : List Stamping → Epoch → Stamping → ClientId → TxnId → Body → Stamped
stamp_at stampings epoch stamping asker id body =
    record {
      stampings = slice_set stampings epoch.0 (stamped_next stamping id asker body);
      packet = Some (next_packet stamping.sequencer id asker body);
    }

-- nothing is stamped
unfoldable pub no_stamp : List Stamping → Stamped
no_stamp stampings = record { stampings = stampings; packet = None }

-- by the sequencer of the epoch, if there is one, unless a counter is full
unfoldable pub stamp_by : List Stamping → Epoch → Option Stamping → ClientId → TxnId → Body → Stamped
stamp_by stampings epoch None asker id body = no_stamp stampings
stamp_by stampings epoch (Some stamping) asker id body =
    if is_full stamping.sequencer.counters (participants_of body) then no_stamp stampings
    else stamp_at stampings epoch stamping asker id body

-- an ask at the sequencer of the epoch; one that is out of place changes nothing
unfoldable pub stamp : Config → List Stamping → Epoch → ClientId → TxnId → Body → Stamped
stamp config stampings epoch asker id body =
    if is_in_place config asker id body
    then stamp_by stampings epoch (slice_get stampings epoch.0) asker id body
    else no_stamp stampings
