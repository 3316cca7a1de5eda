-- Parts that have all that another has, and parts that agree.
use Rattle.std.specs.Prelude.{◌≡◌, ℕ, true, Some, List}
use Rattle.eris_base.specs.declared.ids.Place.{Place}
use Rattle.eris_txn.specs.declared.packet.Packet.{Packet}
use Rattle.eris_log.specs.Held.{packet_at}
use Rattle.eris_log.specs.PartValues.{PartValue}
use Rattle.eris_log.specs.Places.{contains_place}

-- the second list has each place of the first
pub record HasAll (some all : List Place) : Type 0 where
  pub at : (place : Place) → contains_place some place ≡ true → contains_place all place ≡ true

-- the second list holds each packet of the first at its number
pub record HoldsAll (some all : List (ℕ × Packet)) : Type 0 where
  pub at : (number : ℕ) (packet : Packet) → packet_at some number ≡ Some packet → packet_at all number ≡ Some packet

-- the second part, of the same epoch and shard, has all that the first has
pub record IsWithin (some all : PartValue) : Type 0 where
  pub epoch : all.epoch ≡ some.epoch
  pub shard : all.shard ≡ some.shard
  pub held : HoldsAll some.held all.held
  pub temp : HasAll some.temp all.temp
  pub fnd : HasAll some.fnd all.fnd
  pub perm : HasAll some.perm all.perm

-- two parts of one epoch and shard
pub record OfOneShard (some other : PartValue) : Type 0 where
  pub epoch : other.epoch ≡ some.epoch
  pub shard : other.shard ≡ some.shard

-- no number is held with two packets
pub record Agree (some other : PartValue) : Type 0 where
  pub at : (number : ℕ) (one another : Packet) → packet_at some.held number ≡ Some one → packet_at other.held number ≡ Some another → one ≡ another
