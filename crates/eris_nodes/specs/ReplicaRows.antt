-- All replicas, by shard and replica.
use Rattle.std.specs.Prelude.{◌≡◌, ⊤, ℕ, ◌+◌, Bool, false, Option, Some, None, List, [], ◌∷◌, map}
use Rattle.std.specs.List.{list_any, range_with_len}
use Rattle.eris_base.specs.declared.ids.ReplicaId.{ReplicaId}
use Rattle.eris_base.specs.declared.ids.ShardId.{ShardId}
use Rattle.eris_base.specs.ConfigLimits.{ConfigValue}
use Rattle.eris_txn.specs.declared.packet.Packet.{Packet}
use Rattle.eris_msg.specs.declared.outgoing.Outgoing.{Outgoing}
use Rattle.eris_rules.specs.declared.replica_input.ReplicaInput.{ReplicaInput}
use Rattle.eris_rules.specs.Good.{settled_log}
use Rattle.eris_rules.specs.Replicas.{replica_step}
use Rattle.eris_rules.specs.ReplicaStates.{ReplicaState, ReplicaOut}
use Rattle.eris_rules.specs.Worlds.{first_replicas, replica_at, with_replica}
use Rattle.eris_nodes.specs.MemberRows.{MembersValue}

-- their states, by shard and replica, and whether one of them is spent
pub record ReplicasValue : Type 0 where
  pub config : ConfigValue
  pub rows : List (List ReplicaState)
  pub spent : Bool

-- the replicas of a shard that know where they are, and have not run out of memory
pub record IsRow (config : ConfigValue) (number : ℕ) (row : MembersValue) : Type 0 where
  pub system : row.config ≡ config
  pub shard : row.shard ≡ record { 0 = number }
  pub unspent : row.spent ≡ false

-- those from this shard on
abbrev pub AreRows : ConfigValue → ℕ → List MembersValue → Type 0
AreRows config number [] = ⊤
AreRows config number (row ∷ rows) = IsRow config number row × AreRows config (number + 1) rows

abbrev pub rows_of : List MembersValue → List (List ReplicaState)
rows_of rows = map (λ row. row.states) rows

abbrev pub any_spent : List MembersValue → Bool
any_spent rows = list_any (λ row. row.spent) rows

abbrev pub row_of_shard : ConfigValue → ℕ → List ReplicaState
row_of_shard config number = first_replicas config (record { 0 = number })

-- all at their start
unfoldable pub first_rows : ConfigValue → List (List ReplicaState)
first_rows config = map (λ number. first_replicas config (record { 0 = number })) (range_with_len 0 config.shards)

-- the states after a step of one of them, and what it sends
pub record ReplicasOut : Type 0 where
  pub rows : List (List ReplicaState)
  pub sends : List Outgoing

abbrev pub after_step : List (List ReplicaState) → ShardId → ReplicaId → ReplicaOut → ReplicasOut
after_step rows shard replica out = record { rows = with_replica rows shard replica out.state; sends = out.sends }

abbrev pub one_of_all_steps : ConfigValue → List (List ReplicaState) → ShardId → ReplicaId → ReplicaInput → Option ReplicaState → ReplicasOut
one_of_all_steps config rows shard replica input None = record { rows = rows; sends = [] }
one_of_all_steps config rows shard replica input (Some state) =
    after_step rows shard replica (replica_step (record { config = config; shard = shard; replica = replica }) state input)

-- a replica takes an input; where there is none nothing is done
unfoldable pub replicas_step : ConfigValue → List (List ReplicaState) → ShardId → ReplicaId → ReplicaInput → ReplicasOut
replicas_step config rows shard replica input = one_of_all_steps config rows shard replica input (replica_at rows shard replica)

-- the settled log of a replica, if there is one
abbrev pub log_of : Option ReplicaState → List Packet
log_of None = []
log_of (Some state) = settled_log state
