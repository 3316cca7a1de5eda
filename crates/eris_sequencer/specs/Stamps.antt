-- One stamping: the counters of the participants rise by one, in one step.
use Rattle.std.specs.Prelude.{◌≡◌, ℕ, ◌+◌, ◌-◌, ◌^◌, Bool, ◌==◌, nat_lt, List, [], ◌∷◌, ◌++◌, map, length, replicate, slice_index, slice_set, fold, if◌then◌else◌}
use Rattle.std.specs.List.{list_any, list_all}
use Rattle.eris_base.specs.declared.ids.ClientId.{ClientId}
use Rattle.eris_base.specs.declared.ids.Epoch.{Epoch}
use Rattle.eris_base.specs.declared.ids.ShardId.{ShardId}
use Rattle.eris_base.specs.declared.ids.TxnId.{TxnId}
use Rattle.eris_base.specs.declared.stamp.Stamp.{Stamp}
use Rattle.eris_txn.specs.declared.body.Body.{Body}
use Rattle.eris_txn.specs.declared.packet.Packet.{Packet}
use Rattle.eris_txn.specs.Bodies.{participants_of, has_shard}
use Rattle.eris_sequencer.specs.declared.stamping.Stamping.{Stamping}
use Rattle.eris_sequencer.specs.SequencerValues.{SequencerValue}

-- the sequencer of an epoch at its start, for so many shards
unfoldable pub new_sequencer : Epoch → ℕ → SequencerValue
new_sequencer epoch shards = record { epoch = epoch; counters = replicate shards 0 }

-- how many packets were stamped for the shard; none for a shard that isn't there
unfoldable pub counter_of : List ℕ → ShardId → ℕ
counter_of counters shard = slice_index counters shard.0

-- the next number of each shard
unfoldable pub next_places : List ℕ → List ShardId → List (ShardId × ℕ)
next_places counters shards = map (λ shard. (shard, counter_of counters shard + 1)) shards

-- the counters of the named shards are these numbers, and the others stay
unfoldable pub with_numbers : List ℕ → List (ShardId × ℕ) → List ℕ
with_numbers counters places = fold (λ made place. slice_set made place.0.0 place.1) counters places

-- the counter of some shard stands at its end
unfoldable pub is_full : List ℕ → List ShardId → Bool
is_full counters shards = list_any (λ shard. counter_of counters shard == 2 ^ 32 - 1) shards

-- each of the shards has a counter
unfoldable pub has_counters : List ℕ → List ShardId → Bool
has_counters counters shards = list_all (λ shard. nat_lt shard.0 (length counters)) shards

-- the stamp that names exactly the shards, with their next numbers
unfoldable pub next_stamp : SequencerValue → List ShardId → Stamp
next_stamp sequencer shards = record { epoch = sequencer.epoch; places = next_places sequencer.counters shards }

-- the packet of one stamping
unfoldable pub next_packet : SequencerValue → TxnId → ClientId → Body → Packet
next_packet sequencer id asker body =
    record { stamp = next_stamp sequencer (participants_of body); id = id; asker = asker; body = body }

-- the sequencer after a stamping for the shards
unfoldable pub after_stamp : SequencerValue → List ShardId → SequencerValue
after_stamp sequencer shards =
    record sequencer { counters = with_numbers sequencer.counters (next_places sequencer.counters shards) }

-- the counters of exactly the shards are one higher
pub record AreRaised (before after : List ℕ) (shards : List ShardId) : Type 0 where
  pub length : length after ≡ length before
  pub at : (shard : ShardId) → counter_of after shard ≡ (if has_shard shards shard then counter_of before shard + 1 else counter_of before shard)

-- one epoch's sequencer has stamped a body, and the packet stands at the end of its list
unfoldable pub stamped_next : Stamping → TxnId → ClientId → Body → Stamping
stamped_next stamping id asker body =
    record {
      sequencer = after_stamp stamping.sequencer (participants_of body);
      stamped = stamping.stamped ++ next_packet stamping.sequencer id asker body ∷ [];
    }
