-- What makes a world good: its history is serial in its order, and what a replica has settled is how that order
-- begins on its shard.
use Rattle.std.specs.Prelude.{◌≡◌, ℕ, zero, suc, ◌+◌, Bool, true, false, Some, List, [], ◌++◌}
use Rattle.eris_base.specs.declared.ids.ReplicaId.{ReplicaId}
use Rattle.eris_base.specs.declared.ids.ShardId.{ShardId}
use Rattle.eris_txn.specs.declared.packet.Packet.{Packet}
use Rattle.eris_log.specs.declared.entry.Entry.{Entry}
use Rattle.eris_log.specs.Entries.{entry_of}
use Rattle.eris_log.specs.Held.{packet_at}
use Rattle.eris_log.specs.PartValues.{PartValue}
use Rattle.eris_audit.specs.IsSerial.{IsSerial}
use Rattle.eris_audit.specs.Lines.{lines_of}
use Rattle.eris_rules.specs.ReplicaAnswers.{open_packet}
use Rattle.eris_rules.specs.ReplicaStates.{ReplicaState}
use Rattle.eris_rules.specs.WorldOrders.{lines_of_world, order_on}
use Rattle.eris_rules.specs.Worlds.{WorldState, replica_at}

abbrev pub is_kept : Entry → Bool
is_kept Entry.Txn = true
is_kept Entry.Gap = true
is_kept Entry.Dropped = false

unfoldable pub kept_at : PartValue → ℕ → List Packet
kept_at part number = open_packet (is_kept (entry_of part number)) (packet_at part.held number)

-- the held packets at the places from 1 to the number whose entries aren't dropped
unfoldable pub kept_upto : PartValue → ℕ → List Packet
kept_upto part zero = []
kept_upto part (suc number) = kept_upto part number ++ kept_at part (number + 1)

-- THE SETTLED LOG of a replica: the packets of the epochs before its own, then those at the places up to its
-- settled number that aren't dropped
unfoldable pub settled_log : ReplicaState → List Packet
settled_log state = state.prior ++ kept_upto state.inner.part state.inner.settled

-- a list begins with another
pub record BeginsWith (all front : List Packet) : Type 0 where
  pub rest : List Packet
  pub joined : all ≡ front ++ rest

-- each replica's settled log, also of one that has crashed, is how the order begins on its shard
pub record AreSettledRight (world : WorldState) : Type 0 where
  pub at : (shard : ShardId) (replica : ReplicaId) (state : ReplicaState) → replica_at world.replicas shard replica ≡ Some state
      → BeginsWith (order_on shard world) (settled_log state)

-- A GOOD WORLD
pub record Good (world : WorldState) : Type 0 where
  pub serial : IsSerial world.history (lines_of (lines_of_world world))
  pub settled : AreSettledRight world
