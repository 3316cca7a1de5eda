-- How messages are told: the kind, and its fields by their names.
use Rattle.std.specs.Prelude.{ℕ, List, [], ◌∷◌, ◌++◌, map, codes}
use Rattle.eris_base.specs.declared.ids.Epoch.{Epoch}
use Rattle.eris_base.specs.declared.ids.Phase.{Phase}
use Rattle.eris_base.specs.declared.ids.Phase.TheVariants.{Whole, Prelim, Conclude}
use Rattle.eris_base.specs.declared.ids.ReplicaId.{ReplicaId}
use Rattle.eris_base.specs.declared.ids.ShardId.{ShardId}
use Rattle.eris_base.specs.declared.ids.TxnId.{TxnId}
use Rattle.eris_base.specs.declared.ids.View.{View}
use Rattle.eris_log.specs.PartValues.{PartValue}
use Rattle.eris_msg.specs.declared.message.Message.{Message}
use Rattle.eris_msg.specs.declared.message.Message.TheVariants as m
use Rattle.eris_txn.specs.declared.packet.Packet.{Packet}
use Rattle.eris_report.specs.HistoryText.{answer_words}
use Rattle.eris_words.specs.Decimal.{decimal}
use Rattle.eris_words.specs.Words.{id_word, place_word}
use Rattle.eris_trace.specs.BodyText.{asker_words, body_words, packet_words, stamp_words}
use Rattle.eris_trace.specs.PartText.{epoch_shard_words, packet_word, part_words, place_words}

abbrev pub phase_word : Phase → List ℕ
phase_word Whole = codes "whole"
phase_word Prelim = codes "prelim"
phase_word Conclude = codes "conclude"

-- `NAME N`
abbrev pub count_words : List ℕ → ℕ → List (List ℕ)
count_words name count = name ∷ decimal count ∷ []

-- `shard S replica R`
abbrev pub replica_words : ShardId → ReplicaId → List (List ℕ)
replica_words shard replica = count_words (codes "shard") shard.0 ++ count_words (codes "replica") replica.0

-- `id I phase PHASE`
abbrev pub half_words : TxnId → Phase → List (List ℕ)
half_words id phase = codes "id" ∷ id_word id ∷ codes "phase" ∷ phase_word phase ∷ []

-- `view V shard S replica R`
abbrev pub speaker_words : View → ShardId → ReplicaId → List (List ℕ)
speaker_words view shard replica = count_words (codes "view") view.0 ++ replica_words shard replica

-- `epoch E view V`
unfoldable pub epoch_view_words : Epoch → View → List (List ℕ)
epoch_view_words epoch view = count_words (codes "epoch") epoch.0 ++ count_words (codes "view") view.0

-- `places S:N S:N`
unfoldable pub settled_words : List (ShardId × ℕ) → List (List ℕ)
settled_words places = codes "places" ∷ map place_word places

-- `packets I I`
unfoldable pub log_words : List Packet → List (List ℕ)
log_words packets = codes "packets" ∷ map packet_word packets

-- `replica R epoch E part ..`
unfoldable pub state_words : ReplicaId → Epoch → PartValue → List (List ℕ)
state_words replica epoch part =
    count_words (codes "replica") replica.0 ++ count_words (codes "epoch") epoch.0 ++ part_words part

-- `epoch E shard S packets I I`
unfoldable pub start_words : Epoch → ShardId → List Packet → List (List ℕ)
start_words epoch shard packets = epoch_shard_words epoch shard ++ log_words packets

unfoldable pub epoch_state_words : ReplicaId → Epoch → PartValue → List (List ℕ)
epoch_state_words replica epoch part = codes "EpochState" ∷ state_words replica epoch part

unfoldable pub start_epoch_words : Epoch → ShardId → List Packet → List (List ℕ)
start_epoch_words epoch shard packets = codes "StartEpoch" ∷ start_words epoch shard packets

-- A MESSAGE: its kind, and its fields by their names
unfoldable pub message_words : Message → List (List ℕ)
message_words (m.Ask asker id body) =
    codes "Ask" ∷ asker_words asker ++ codes "id" ∷ id_word id ∷ codes "body" ∷ body_words body
message_words (m.Txn packet) = codes "Txn" ∷ packet_words packet
message_words (m.Vouch view shard replica stamp id phase) =
    codes "Vouch" ∷ speaker_words view shard replica ++ stamp_words stamp ++ half_words id phase
message_words (m.Reply view shard replica stamp id phase answer) =
    codes "Reply" ∷ speaker_words view shard replica ++ stamp_words stamp ++ half_words id phase ++ codes "answer" ∷ answer_words answer
message_words (m.Late shard replica id phase answer) =
    codes "Late" ∷ replica_words shard replica ++ half_words id phase ++ codes "answer" ∷ answer_words answer
message_words (m.Find replica place) = codes "Find" ∷ count_words (codes "replica") replica.0 ++ place_words place
message_words (m.Request place) = codes "Request" ∷ place_words place
message_words (m.Has packet) = codes "Has" ∷ packet_words packet
message_words (m.TempDropped place shard replica view) =
    codes "TempDropped" ∷ place_words place ++ replica_words shard replica ++ count_words (codes "view") view.0
message_words (m.Found packet) = codes "Found" ∷ packet_words packet
message_words (m.Dropped place) = codes "Dropped" ∷ place_words place
message_words (m.ViewChange replica view part) =
    codes "ViewChange" ∷ count_words (codes "replica") replica.0 ++ count_words (codes "view") view.0 ++ part_words part
message_words (m.StartView view part) = codes "StartView" ∷ count_words (codes "view") view.0 ++ part_words part
message_words (m.SyncAsk epoch view) = codes "SyncAsk" ∷ epoch_view_words epoch view
message_words (m.Ack replica epoch view length) =
    codes "Ack" ∷ count_words (codes "replica") replica.0 ++ epoch_view_words epoch view ++ count_words (codes "length") length
message_words (m.Settled epoch view number places) =
    codes "Settled" ∷ epoch_view_words epoch view ++ count_words (codes "number") number ++ settled_words places
message_words (m.NewEpoch shard replica epoch) =
    codes "NewEpoch" ∷ replica_words shard replica ++ count_words (codes "epoch") epoch.0
message_words (m.EpochAsk epoch) = codes "EpochAsk" ∷ count_words (codes "epoch") epoch.0
message_words (m.EpochState replica epoch part) = epoch_state_words replica epoch part
message_words (m.StartEpoch epoch shard packets) = start_epoch_words epoch shard packets
