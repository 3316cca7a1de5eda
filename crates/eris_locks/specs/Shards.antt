use Rattle.std.specs.Prelude.{Bool, true, false, List, [], ◌∷◌, ◌==◌, unwrap_or, is_some}
use Rattle.std.specs.List.{filter}
use Rattle.eris_base.specs.declared.ids.Place.{Place}
use Rattle.eris_base.specs.declared.ids.ShardId.{ShardId}
use Rattle.eris_base.specs.declared.stamp.Stamp.{Stamp}
use Rattle.eris_base.specs.Places.{number_in}
use Rattle.eris_txn.specs.declared.body.Body.{Body}
use Rattle.eris_txn.specs.declared.body.Body.TheVariants.{Independent, Prelim, Commit, Abort}
use Rattle.eris_txn.specs.declared.key.Key.{Key}
use Rattle.eris_txn.specs.declared.packet.Packet.{Packet}
use Rattle.eris_txn.specs.Operations.{key_of}
use Rattle.eris_locks.specs.declared.shard_packet.ShardPacket.{ShardPacket}

-- a key of the shard
abbrev pub is_on : ShardId → Key → Bool
is_on shard key = key.shard.0 == shard.0

-- of a body what is on keys of the shard: operations, locks, keys and writes
abbrev pub cut_body : ShardId → Body → Body
cut_body shard (Independent ops) = Independent (filter (λ op. is_on shard (key_of op)) ops)
cut_body shard (Prelim locks) = Prelim (filter (λ lock. is_on shard lock.key) locks)
cut_body shard (Commit keys writes) =
    Commit (filter (λ key. is_on shard key) keys) (filter (λ write. is_on shard write.key) writes)
cut_body shard (Abort keys) = Abort (filter (λ key. is_on shard key) keys)

-- the place of a stamp on a shard that it names
abbrev pub place_on : ShardId → Stamp → Place
place_on shard stamp =
    record { epoch = stamp.epoch; shard = shard; number = unwrap_or (number_in stamp.places shard) 0 }

-- what a packet is to a shard
abbrev pub cut : ShardId → Packet → ShardPacket
cut shard packet =
    record { id = packet.id; asker = packet.asker; at = place_on shard packet.stamp; body = cut_body shard packet.body }

-- the stamp of a packet names the shard
abbrev pub names_shard : ShardId → Packet → Bool
names_shard shard packet = is_some (number_in packet.stamp.places shard)

-- the packets of a list that name a shard, each as it is to that shard
abbrev pub on_shard : ShardId → List Packet → List ShardPacket
on_shard shard [] = []
on_shard shard (packet ∷ packets) =
    elim (names_shard shard packet) [
      | true ↦ cut shard packet ∷ on_shard shard packets
      | false ↦ on_shard shard packets
    ]
