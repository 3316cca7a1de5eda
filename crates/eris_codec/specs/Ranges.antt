-- What is asked of the fields of a part one by one, so that it has a spelling: each is in its range, and its
-- lists are short enough to be counted in four bytes. A packet that is added keeps the first.
use Rattle.std.specs.Prelude.{◌≡◌, ◌<◌, ◌^◌, ℕ, true, length}
use Rattle.std.specs.List.{AllByRecursion}
use Rattle.eris_base.specs.declared.ids.Place.{Place}
use Rattle.eris_base.specs.declared.ids.ShardId.{ShardId}
use Rattle.eris_txn.specs.declared.packet.Packet.{Packet}
use Rattle.eris_log.specs.PartValues.{PartValue}
use Rattle.eris_codec.specs.Fields as f
use Rattle.std.specs.Prelude.{Bool}
use Rattle.eris_base.specs.Stamps.{StampValue}
use Rattle.eris_txn.specs.declared.answer.Answer.{Answer}
use Rattle.eris_txn.specs.declared.body.Body.{Body}
use Rattle.eris_codec.specs.Parts as parts

abbrev pub packet_fits : Packet → Bool
packet_fits k = f.packet.fits k

abbrev pub part_fits : PartValue → Bool
part_fits x = parts.part.fits x

abbrev pub stamp_fits : StampValue → Bool
stamp_fits s = f.stamp.fits s

abbrev pub body_fits : Body → Bool
body_fits b = f.body.fits b

abbrev pub answer_fits : Answer → Bool
answer_fits w = f.answer.fits w

-- a shard and its number
abbrev pub PairInRange : ShardId × ℕ → Type 0
PairInRange p = (f.shard.fits p.0 ≡ true) × (f.number.fits p.1 ≡ true)

-- a place, but for its epoch
abbrev pub PlaceInRange : Place → Type 0
PlaceInRange p = (f.shard.fits p.shard ≡ true) × (f.number.fits p.number ≡ true)

-- a packet and its number
abbrev pub HeldInRange : ℕ × Packet → Type 0
HeldInRange h = (f.number.fits h.0 ≡ true) × (f.packet.fits h.1 ≡ true)

pub record PartInRange (part : PartValue) : Type 0 where
  pub of_shard : f.shard.fits part.shard ≡ true
  pub of_epoch : f.epoch.fits part.epoch ≡ true
  pub held : AllByRecursion HeldInRange part.held
  pub temp : AllByRecursion PlaceInRange part.temp
  pub fnd : AllByRecursion PlaceInRange part.fnd
  pub perm : AllByRecursion PlaceInRange part.perm

pub record PartCounted (part : PartValue) : Type 0 where
  pub held : length part.held < 2 ^ 32
  pub temp : length part.temp < 2 ^ 32
  pub fnd : length part.fnd < 2 ^ 32
  pub perm : length part.perm < 2 ^ 32
