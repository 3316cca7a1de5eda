-- A shard's store that is kept at a number of an epoch, and for which log it is right.
use Rattle.std.specs.Prelude.{◌≡◌, ◌<◌, ℕ, Bool, true, false, ◌&&◌, nat_lt, Option, Some, None, List, ⊤, if◌then◌else◌}
use Rattle.eris_base.specs.declared.ids.ShardId.{ShardId}
use Rattle.eris_txn.specs.declared.packet.Packet.{Packet}
use Rattle.eris_log.specs.Entries.{entry_of}
use Rattle.eris_log.specs.PartValues.{PartValue}
use Rattle.eris_locks.specs.Shards.{names_shard}
use Rattle.eris_rules.specs.ReplicaAnswers.{is_open, open_at, log_upto, store_after}
use Rattle.eris_store.specs.Stores.{StoreValue, state_of}

-- what contracts see of a kept store: the store, and the number of the epoch up to which it has gone
pub record KeptValue : Type 0 where
  pub store : StoreValue
  pub number : ℕ

-- it is a store of the shard, which can go on, in the state after the log
pub record IsAfter (shard : ShardId) (log : List Packet) (store : StoreValue) : Type 0 where
  pub of_shard : store.shard ≡ shard
  pub unspent : store.spent ≡ false
  pub state : state_of store ≡ store_after shard log

-- THE KEPT STORE IS RIGHT: it is the store after the log up to its number
abbrev pub IsKept : ShardId → List Packet → PartValue → KeptValue → Type 0
IsKept shard prior part kept = IsAfter shard (log_upto prior part kept.number) kept.store

-- what is kept, if anything is, is right
abbrev pub IfKept : ShardId → List Packet → PartValue → Option KeptValue → Type 0
IfKept shard prior part None = ⊤
IfKept shard prior part (Some kept) = IsKept shard prior part kept

-- the number up to which it has gone, where nothing kept begins from the start
abbrev pub number_of : Option KeptValue → ℕ
number_of None = 0
number_of (Some kept) = kept.number

-- nothing is kept, or what is kept stands below the number
abbrev pub is_kept_below : Option KeptValue → ℕ → Bool
is_kept_below None number = true
is_kept_below (Some kept) number = nat_lt kept.number number

-- what is kept, if it stands below the number
abbrev pub kept_below : Option KeptValue → ℕ → Option KeptValue
kept_below kept number = if is_kept_below kept number then kept else None

-- the open packets below the number are the same in both parts
abbrev pub AreSameBelow : ℕ → PartValue → PartValue → Type 0
AreSameBelow number some other = (below : ℕ) → below < number → open_at other below ≡ open_at some below

-- what goes on: what is kept, or else a store at number 0, after the packets of the epochs before
abbrev pub IsBegun : ShardId → List Packet → Option KeptValue → KeptValue → Type 0
IsBegun shard prior None made = (made.number ≡ 0) × IsAfter shard prior made.store
IsBegun shard prior (Some kept) made = made ≡ kept

-- the packet that is held at the number is in the shard's log
abbrev pub is_next : ShardId → PartValue → ℕ → Packet → Bool
is_next shard part number packet =
    nat_lt 0 number && (is_open (entry_of part number) && names_shard shard packet)
