-- In which ranges the fields of an event are, in a script of version 1 or 2. The grammar has lines for just these events.
use Rattle.std.specs.Prelude.{ℕ, ◌-◌, ◌^◌, ◌==◌, ◌&&◌, nat_le, nat_lt, is_none, Bool, true, Some, None, List, length, if◌then◌else◌}
use Rattle.std.specs.List.{list_all}
use Rattle.eris_base.specs.declared.ids.ClientId.{ClientId}
use Rattle.eris_base.specs.declared.ids.Node.{Node}
use Rattle.eris_base.specs.declared.ids.Node.TheVariants as node
use Rattle.eris_base.specs.declared.ids.ReplicaId.{ReplicaId}
use Rattle.eris_base.specs.declared.ids.ShardId.{ShardId}
use Rattle.eris_base.specs.declared.ids.TxnId.{TxnId}
use Rattle.eris_txn.specs.declared.key.Key.{Key}
use Rattle.eris_txn.specs.declared.op.Op.{Op}
use Rattle.eris_txn.specs.declared.op.Op.TheVariants.{Get, Put, Del, Add, Cas}
use Rattle.eris_txn.specs.declared.plan.Guard.{Guard}
use Rattle.eris_txn.specs.declared.plan.How.{How}
use Rattle.eris_txn.specs.declared.plan.How.TheVariants as how
use Rattle.eris_txn.specs.declared.plan.Setting.{Setting}
use Rattle.eris_txn.specs.Names.{is_name}
use Rattle.eris_txn.specs.PlanFaults.{plan_fault}
use Rattle.eris_txn.specs.PlanValues.{PlanValue}
use Rattle.eris_event.specs.declared.event.Event.{Event}
use Rattle.eris_event.specs.declared.event.Event.TheVariants as event

-- NUMBERS, NODES AND KEYS

-- packets, numbers of transactions, epochs, and how often something is done
abbrev pub fits_count : ℕ → Bool
fits_count n = nat_le n (2 ^ 32 - 1)

abbrev pub fits_value : ℕ → Bool
fits_value n = nat_le n (2 ^ 64 - 1)

abbrev pub fits_client : ClientId → Bool
fits_client c = nat_le c.0 255

abbrev pub fits_txn : TxnId → Bool
fits_txn id = nat_le id.client.0 255 && nat_le id.number (2 ^ 32 - 1)

abbrev pub fits_replica : ShardId → ReplicaId → Bool
fits_replica s r = nat_le s.0 255 && nat_le r.0 255

abbrev pub fits_node : Node → Bool
fits_node node.Sequencer = true
fits_node node.Coordinator = true
fits_node (node.Replica s r) = fits_replica s r
fits_node (node.Client c) = fits_client c

-- bytes that nobody sent
abbrev pub are_noise : List ℕ → Bool
are_noise bytes = nat_le (length bytes) 256 && list_all (λ byte. nat_lt byte 256) bytes

-- the highest shard that a key may have
abbrev pub last_shard : ℕ → ℕ
last_shard version = if version == 1 then 15 else 63

abbrev pub fits_key : ℕ → Key → Bool
fits_key version k = nat_le k.shard.0 (last_shard version) && is_name k.name

-- TRANSACTIONS

-- how many operations, locked keys and guards a transaction may have
abbrev pub most : ℕ → ℕ
most version = if version == 1 then 16 else 32

abbrev pub fits_op : ℕ → Op → Bool
fits_op version (Get k) = fits_key version k
fits_op version (Put k n) = fits_key version k && fits_value n
fits_op version (Del k) = fits_key version k
fits_op version (Add k n) = fits_key version k && fits_value n
fits_op version (Cas k expected n) = fits_key version k && (fits_value expected && fits_value n)

abbrev pub are_ops : ℕ → List Op → Bool
are_ops version ops = nat_lt 0 (length ops) && nat_le (length ops) (most version) && list_all (fits_op version) ops

abbrev pub number_of : How → ℕ
number_of (how.Put n) = n
number_of (how.Plus n) = n
number_of (how.Minus n) = n

abbrev pub fits_guard : ℕ → Guard → Bool
fits_guard version g = fits_key version g.key && fits_value g.least

abbrev pub fits_setting : ℕ → Setting → Bool
fits_setting version s = fits_key version s.key && fits_value (number_of s.how)

abbrev pub is_plan : ℕ → PlanValue → Bool
is_plan version plan =
    list_all (fits_key version) plan.keys && list_all (fits_guard version) plan.guards && list_all (fits_setting version) plan.settings
    && nat_le (length plan.keys) (most version) && nat_le (length plan.guards) (most version)
    && is_none (plan_fault plan.keys plan.guards plan.settings)

-- EVENTS

-- the events that have a line in a script of this version
abbrev pub fits_event : ℕ → Event → Bool
fits_event version (event.Submit c ops) = fits_client c && are_ops version ops
fits_event version (event.General c plan) = fits_client c && is_plan version plan
fits_event version (event.Retry c number) = fits_txn (record { client = c; number = number })
fits_event version (event.Abort asker id) = fits_client asker && fits_txn id
fits_event version (event.Deliver packet None) = fits_count packet
fits_event version (event.Deliver packet (Some e)) = fits_count packet && fits_count e.0
fits_event version event.Flow = true
fits_event version event.Lose = true
fits_event version (event.Probe s r) = fits_replica s r
fits_event version (event.Suspect s r) = fits_replica s r
fits_event version (event.Sync s r) = fits_replica s r
fits_event version (event.Crash s r) = fits_replica s r
fits_event version event.Nudge = true
fits_event version event.Replace = true
fits_event version (event.Noise to bytes) = fits_node to && are_noise bytes
