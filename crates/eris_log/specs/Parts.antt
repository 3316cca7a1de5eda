-- What the calls of a part make of it.
use Rattle.std.specs.Prelude.{◌≡◌, ℕ, ◌==◌, ◌||◌, Option, Some, None, List, [], if◌then◌else◌}
use Rattle.std.specs.Option.{option_or}
use Rattle.eris_base.specs.declared.ids.Epoch.{Epoch}
use Rattle.eris_base.specs.declared.ids.Place.{Place}
use Rattle.eris_base.specs.declared.ids.ShardId.{ShardId}
use Rattle.eris_base.specs.declared.stamp.Stamp.{Stamp}
use Rattle.eris_base.specs.Places.{number_in}
use Rattle.eris_txn.specs.declared.packet.Packet.{Packet}
use Rattle.eris_log.specs.Held.{packet_at, with_packet, with_packets}
use Rattle.eris_log.specs.PartValues.{PartValue}
use Rattle.eris_log.specs.Places.{contains_place, with_place, with_places, places_of}

unfoldable pub empty_part : Epoch → ShardId → PartValue
empty_part epoch shard = record { epoch = epoch; shard = shard; held = []; temp = []; fnd = []; perm = [] }

-- the part with the packet at this number, where there is one; numbers start at 1
unfoldable pub hold_at : PartValue → Option ℕ → Packet → PartValue
hold_at part None packet = part
hold_at part (Some number) packet =
    if number == 0 then part else record part { held = with_packet part.held number packet }

-- the part that also holds the packet, at the number that its stamp gives the part's shard
unfoldable pub hold : PartValue → Packet → PartValue
hold part packet = hold_at part (number_in packet.stamp.places part.shard) packet

-- the part in which the place is also dropped for a time
unfoldable pub mark_temp : PartValue → Place → PartValue
mark_temp part place = record part { temp = with_place part.temp place }

-- the part in which the stamp's places are also found
unfoldable pub mark_found : PartValue → Stamp → PartValue
mark_found part stamp = record part { fnd = with_places part.fnd (places_of stamp) }

-- the part in which the place is also dropped for good
unfoldable pub mark_dropped : PartValue → Place → PartValue
mark_dropped part place = record part { perm = with_place part.perm place }

-- the part with all that the other has; a number that both hold keeps the first one's packet
unfoldable pub merge : PartValue → PartValue → PartValue
merge part other =
    record part {
      held = with_packets part.held other.held;
      temp = with_places part.temp other.temp;
      fnd = with_places part.fnd other.fnd;
      perm = with_places part.perm other.perm;
    }

-- the list has the members of both others
pub record HasBoth (some others all : List Place) : Type 0 where
  pub at : (place : Place) → contains_place all place ≡ (contains_place some place || contains_place others place)

-- the list holds each number that either of the others holds, with the first one's packet where it holds it
pub record HoldsBoth (some others all : List (ℕ × Packet)) : Type 0 where
  pub at : (number : ℕ) → packet_at all number ≡ option_or (packet_at some number) (packet_at others number)

-- a part that is the union of two of its epoch and shard
pub record IsUnion (some other all : PartValue) : Type 0 where
  pub epoch : all.epoch ≡ some.epoch
  pub shard : all.shard ≡ some.shard
  pub held : HoldsBoth some.held other.held all.held
  pub temp : HasBoth some.temp other.temp all.temp
  pub fnd : HasBoth some.fnd other.fnd all.fnd
  pub perm : HasBoth some.perm other.perm all.perm
