-- How places, parts and lists of packets are told.
use Rattle.std.specs.Prelude.{ℕ, List, [], ◌∷◌, ◌++◌, map, codes}
use Rattle.eris_base.specs.declared.ids.Epoch.{Epoch}
use Rattle.eris_base.specs.declared.ids.Place.{Place}
use Rattle.eris_base.specs.declared.ids.ShardId.{ShardId}
use Rattle.eris_log.specs.PartValues.{PartValue}
use Rattle.eris_txn.specs.declared.packet.Packet.{Packet}
use Rattle.eris_words.specs.Decimal.{decimal}
use Rattle.eris_words.specs.Words.{id_word, place_word}

-- `S:N`: a place of an epoch that is told elsewhere
abbrev pub own_place_word : Place → List ℕ
own_place_word place = place_word (place.shard, place.number)

-- `place E S:N`
abbrev pub place_words : Place → List (List ℕ)
place_words place = codes "place" ∷ decimal place.epoch.0 ∷ own_place_word place ∷ []

-- the number at which a packet is held
abbrev pub held_word : ℕ × Packet → List ℕ
held_word entry = decimal entry.0

abbrev pub packet_word : Packet → List ℕ
packet_word packet = id_word packet.id

-- `held N N temp S:N found S:N dropped S:N`
unfoldable pub list_words : PartValue → List (List ℕ)
list_words part =
    codes "held" ∷ map held_word part.held ++ codes "temp" ∷ map own_place_word part.temp
    ++ codes "found" ∷ map own_place_word part.fnd ++ codes "dropped" ∷ map own_place_word part.perm

-- `epoch E shard S`
unfoldable pub epoch_shard_words : Epoch → ShardId → List (List ℕ)
epoch_shard_words epoch shard = codes "epoch" ∷ decimal epoch.0 ∷ codes "shard" ∷ decimal shard.0 ∷ []

-- `part epoch E shard S`, and then its lists
unfoldable pub part_words : PartValue → List (List ℕ)
part_words part = codes "part" ∷ epoch_shard_words part.epoch part.shard ++ list_words part
