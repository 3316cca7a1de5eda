-- Packets put one by one among those that survive.
use Rattle.std.specs.Prelude.{◌≡◌, ◌≤◌, ℕ, true, List, length, insert, fold, if◌then◌else◌}
use Rattle.std.specs.List.{AllWithin}
use Rattle.std.specs.Ordering.{is_lt}
use Rattle.std.specs.declared.cmp.Ordering.{Ordering}
use Rattle.eris_base.specs.declared.ids.ShardId.{ShardId}
use Rattle.eris_txn.specs.declared.packet.Packet.{Packet}
use Rattle.eris_log.specs.Sorted.{placed}
use Rattle.eris_epoch.specs.Closing.{names, turn_on}
use Rattle.eris_epoch.specs.SamePackets.{is_listed}
use Rattle.eris_epoch.specs.Sorting.{InOrder, places_cmp, turn_cmp}

-- the packet behind those whose places aren't above its, unless it stands there already
unfoldable pub with_packet : List Packet → Packet → List Packet
with_packet closed packet =
    if is_listed closed packet then closed else placed (λ other. other.stamp.places) places_cmp closed packet

-- each of the packets, one after another
unfoldable pub with_packets : List Packet → List Packet → List Packet
with_packets closed packets = fold (λ made packet. with_packet made packet) closed packets

-- the packet behind those of the shard's log whose epoch and number aren't above its, where it names the shard
unfoldable pub with_turn : ShardId → List Packet → Packet → List Packet
with_turn shard log packet = if names shard packet then placed (turn_on shard) turn_cmp log packet else log

-- packets by their stamps' lists of places
abbrev pub AreByPlaces : List Packet → Type 0
AreByPlaces packets = InOrder (λ packet. packet.stamp.places) places_cmp packets

module _ {X K : Type 0} (key : X → K) (cmp : K → K → Ordering) where
  -- an item goes to this index, from which on all are above it
  pub record IsEnd (items : List X) (item : X) (at : ℕ) : Type 0 where
    pub in_range : at ≤ length items
    pub above : AllWithin (λ other. is_lt (cmp (key item) (key other)) ≡ true) items at (length items)
    pub goes : placed key cmp items item ≡ insert items at item

  -- those before this index are below the item
  pub record IsStart (items : List X) (item : X) (at : ℕ) : Type 0 where
    pub in_range : at ≤ length items
    pub below : AllWithin (λ other. is_lt (cmp (key other) (key item)) ≡ true) items 0 at
