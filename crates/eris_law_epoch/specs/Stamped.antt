-- What the sequencer of an epoch has stamped: on each shard the numbers run 1, 2, 3, .., in the order of stamping,
-- and a number names one packet.
use Rattle.std.specs.Prelude.{◌≡◌, ◌<◌, ◌≤◌, ℕ, true, Some, List, [], ◌∷◌, length, map, ⊤}
use Rattle.eris_base.specs.declared.ids.Epoch.{Epoch}
use Rattle.eris_base.specs.declared.ids.ShardId.{ShardId}
use Rattle.eris_base.specs.Each.{Each}
use Rattle.eris_base.specs.Places.{number_in, are_stamp_places}
use Rattle.eris_txn.specs.declared.packet.Packet.{Packet}
use Rattle.eris_txn.specs.Bodies.{participants_of}
use Rattle.eris_sequencer.specs.declared.stamping.Stamping.{Stamping}
use Rattle.eris_sequencer.specs.Stamps.{counter_of}
use Rattle.eris_law_epoch.specs.EpochWorlds.{EpochSystem}
use Rattle.eris_law_epoch.specs.Members.{In}

-- the packet has the number on the shard
abbrev pub HasNumber : Packet → ShardId → ℕ → Type 0
HasNumber packet shard number = number_in packet.stamp.places shard ≡ Some number

-- a packet stamped in the epoch: its stamp names exactly the participants of its body, ascending
pub record IsStampedIn (epoch : Epoch) (packet : Packet) : Type 0 where
  pub epoch_is : packet.stamp.epoch ≡ epoch
  pub places : are_stamp_places packet.stamp.places ≡ true
  pub names : map (λ place. place.0) packet.stamp.places ≡ participants_of packet.body

-- on the shard the second packet's number is the higher
abbrev pub IsBelow : ShardId → Packet → Packet → Type 0
IsBelow shard some other = (m n : ℕ) → HasNumber some shard m → HasNumber other shard n → m < n

-- the numbers on the shard rise along the list
abbrev pub Rise : ShardId → List Packet → Type 0
Rise shard [] = ⊤
Rise shard (packet ∷ packets) = Each (IsBelow shard packet) packets × Rise shard packets

-- WHAT A SEQUENCER'S LIST IS
pub record IsStampingOf (system : EpochSystem) (stamping : Stamping) : Type 0 where
  pub epoch : stamping.sequencer.epoch ≡ system.epoch
  pub counters : length stamping.sequencer.counters ≡ system.config.shards
  pub each : (packet : Packet) → In packet stamping.stamped → IsStampedIn system.epoch packet
  -- the numbers of a shard go from 1 to its counter, and the shard is one of the config
  pub low : (packet : Packet) (shard : ShardId) (number : ℕ) → In packet stamping.stamped → HasNumber packet shard number → 1 ≤ number
  pub high : (packet : Packet) (shard : ShardId) (number : ℕ) → In packet stamping.stamped → HasNumber packet shard number → number ≤ counter_of stamping.sequencer.counters shard
  pub known : (packet : Packet) (shard : ShardId) (number : ℕ) → In packet stamping.stamped → HasNumber packet shard number → shard.0 < system.config.shards
  -- none of them is left out
  pub onto : (shard : ShardId) (number : ℕ) → 1 ≤ number → number ≤ counter_of stamping.sequencer.counters shard
      → (packet : Packet) × In packet stamping.stamped × HasNumber packet shard number
  -- a number names one packet
  pub one : (some other : Packet) (shard : ShardId) (number : ℕ) → In some stamping.stamped → In other stamping.stamped
      → HasNumber some shard number → HasNumber other shard number → some ≡ other
  -- and they rise
  pub rise : (shard : ShardId) → Rise shard stamping.stamped
