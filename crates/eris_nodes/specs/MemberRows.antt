-- The replicas of one shard.
use Rattle.std.specs.Prelude.{◌≡◌, ⊤, ℕ, ◌+◌, Bool, false, Option, Some, None, List, [], ◌∷◌, map, slice_get, slice_set}
use Rattle.std.specs.List.{list_any}
use Rattle.eris_base.specs.declared.ids.ShardId.{ShardId}
use Rattle.eris_base.specs.ConfigLimits.{ConfigValue}
use Rattle.eris_msg.specs.declared.outgoing.Outgoing.{Outgoing}
use Rattle.eris_replica.specs.ReplicaValues.{ReplicaValue}
use Rattle.eris_rules.specs.declared.replica_input.ReplicaInput.{ReplicaInput}
use Rattle.eris_rules.specs.Replicas.{replica_step}
use Rattle.eris_rules.specs.ReplicaStates.{Identity, ReplicaState, ReplicaOut}

-- their states, by replica, and whether one of them is spent
pub record MembersValue : Type 0 where
  pub config : ConfigValue
  pub shard : ShardId
  pub states : List ReplicaState
  pub spent : Bool

abbrev pub identity : ConfigValue → ShardId → ℕ → Identity
identity config shard number = record { config = config; shard = shard; replica = record { 0 = number } }

-- a replica that knows who it is, and has not run out of memory
pub record IsMember (config : ConfigValue) (shard : ShardId) (number : ℕ) (one : ReplicaValue) : Type 0 where
  pub me : one.me ≡ identity config shard number
  pub unspent : one.spent ≡ false

-- those from this number on
abbrev pub AreMembers : ConfigValue → ShardId → ℕ → List ReplicaValue → Type 0
AreMembers config shard number [] = ⊤
AreMembers config shard number (one ∷ more) = IsMember config shard number one × AreMembers config shard (number + 1) more

abbrev pub states_of : List ReplicaValue → List ReplicaState
states_of members = map (λ one. one.state) members

abbrev pub any_spent : List ReplicaValue → Bool
any_spent members = list_any (λ one. one.spent) members

-- the states after a step of one of them, and what it sends
pub record MembersOut : Type 0 where
  pub states : List ReplicaState
  pub sends : List Outgoing

abbrev pub after_one : List ReplicaState → ℕ → ReplicaOut → MembersOut
after_one states number out = record { states = slice_set states number out.state; sends = out.sends }

abbrev pub one_steps : Identity → List ReplicaState → ReplicaInput → Option ReplicaState → MembersOut
one_steps me states input None = record { states = states; sends = [] }
one_steps me states input (Some state) = after_one states me.replica.0 (replica_step me state input)

-- the replica of this number takes an input; where there is none nothing is done
unfoldable pub members_step : Identity → List ReplicaState → ReplicaInput → MembersOut
members_step me states input = one_steps me states input (slice_get states me.replica.0)
