-- The fields with places and packets of an epoch.
use Rattle.std.specs.Prelude.{ℕ, Bool, true, ◌&&◌, ◌||◌, ◌==◌, nat_lt, List, Option, Some, None}
use Rattle.eris_base.specs.declared.ids.Epoch.{Epoch}
use Rattle.eris_base.specs.declared.ids.Place.{Place}
use Rattle.eris_base.specs.declared.ids.ShardId.{ShardId}
use Rattle.eris_txn.specs.declared.packet.Packet.{Packet}
use Rattle.eris_log.specs.PartValues.{PartValue}
use Rattle.eris_log.specs.Places as log_places
use Rattle.eris_log.specs.Places.{are_of_epoch}
use Rattle.eris_codec.specs.declared.fault.DecodeReason.TheVariants.{Order}
use Rattle.eris_codec.specs.Codecs.{Codec, checked, ◌⊗◌, given, last_of, listed}
use Rattle.eris_codec.specs.Fields.{word, number, shard, epoch, packet}

-- the pair is above the one before it, by shard, then number
abbrev pub is_after : Option (ShardId × ℕ) → ShardId × ℕ → Bool
is_after None p = true
is_after (Some before) p = nat_lt before.0.0 p.0.0 || (before.0.0 == p.0.0 && nat_lt before.1 p.1)

-- places: each pair is greater than the one before
unfoldable pub listed_place : List (ShardId × ℕ) → Codec (ShardId × ℕ)
listed_place before = checked (λ p. is_after (last_of before) p) Order (shard ⊗ number)

unfoldable pub places : Codec (List (ShardId × ℕ))
places = listed word (shard ⊗ number).spell listed_place

-- held: each number is greater than the one before
abbrev pub is_above : Option (ℕ × Packet) → ℕ → Bool
is_above None n = true
is_above (Some before) n = nat_lt before.0 n

unfoldable pub held_packet : List (ℕ × Packet) → Codec (ℕ × Packet)
held_packet before = checked (λ n. is_above (last_of before) n) Order number ⊗ packet

unfoldable pub held : Codec (List (ℕ × Packet))
held = listed word (number ⊗ packet).spell held_packet

-- shards and numbers as places of an epoch, and back, as words that most proofs here leave closed
unfoldable pub places_at : Epoch → List (ShardId × ℕ) → List Place
places_at e pairs = log_places.places_at e pairs

unfoldable pub pairs_of : List Place → List (ShardId × ℕ)
pairs_of list = log_places.pairs_of list

-- the places of a part are of its epoch
unfoldable pub part_of_epoch : PartValue → Bool
part_of_epoch p = are_of_epoch p.epoch p.temp && are_of_epoch p.epoch p.fnd && are_of_epoch p.epoch p.perm

unfoldable pub part : Codec PartValue
part = given part_of_epoch
    (λ p. record { shard = p.0; epoch = p.1.0; held = p.1.1.0; temp = places_at p.1.0 p.1.1.1.0; fnd = places_at p.1.0 p.1.1.1.1.0; perm = places_at p.1.0 p.1.1.1.1.1 })
    (λ p. (p.shard, (p.epoch, (p.held, (pairs_of p.temp, (pairs_of p.fnd, pairs_of p.perm))))))
    (shard ⊗ epoch ⊗ held ⊗ places ⊗ places ⊗ places)
