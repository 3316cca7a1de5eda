-- What contracts see of a replica within one epoch.
use Rattle.std.specs.Prelude.{◌≡◌, ◌==◌, ℕ, List, [], ◌∷◌, ◌++◌, ◌+◌, Option, Some, None, if◌then◌else◌}
use Rattle.eris_base.specs.declared.ids.Epoch.{Epoch}
use Rattle.eris_base.specs.declared.ids.Node.{Node}
use Rattle.eris_base.specs.declared.ids.ShardId.{ShardId}
use Rattle.eris_base.specs.ConfigLimits.{ConfigValue}
use Rattle.eris_base.specs.Each.{Each}
use Rattle.eris_kept_store.specs.KeptStores.{KeptValue, IfKept}
use Rattle.eris_txn.specs.declared.packet.Packet.{Packet}
use Rattle.eris_log.specs.Entries.{length_of}
use Rattle.eris_log.specs.PartValues.{PartValue}
use Rattle.eris_msg.specs.declared.outgoing.Outgoing.{Outgoing}
use Rattle.eris_rules.specs.Addressees.{replica_node}
use Rattle.eris_rules.specs.Outer.{outer_sends}
use Rattle.eris_rules.specs.ReplicaStates.{Member, EpochReplica, EpochOut}
use Rattle.eris_rules.specs.Speaking.{has_gap}
use Rattle.eris_view.specs.AckTallies.{AckTallyValue}
use Rattle.eris_view.specs.ViewTallies.{ViewTallyValue}

-- which member of its shard it is, in which epoch, and its state there as the rules have it
pub record MemberValue : Type 0 where
  pub me : Member
  pub epoch : Epoch
  pub state : EpochReplica

-- the state after a row, and what is sent
abbrev pub after : MemberValue → EpochOut → MemberValue × List Outgoing
after value out = (record value { state = out.state }, outer_sends value.epoch out.sends)

-- the state after a row, and what is sent, behind what was sent before
abbrev pub behind : List Outgoing → MemberValue → EpochOut → MemberValue × List Outgoing
behind before value out = (record value { state = out.state }, before ++ outer_sends value.epoch out.sends)

-- the part is of this epoch and shard
pub record IsOfOwn (epoch : Epoch) (shard : ShardId) (part : PartValue) : Type 0 where
  pub in_epoch : part.epoch ≡ epoch
  pub on_shard : part.shard ≡ shard

-- The own part and the noted ones are of the own epoch and shard, the tallies count as the config says, and the
-- store that is kept is right.
pub record IsMember (config : ConfigValue) (epoch : Epoch) (shard : ShardId) (prior : List Packet) (part : PartValue) (tally : ViewTallyValue) (acks : AckTallyValue) (kept : Option KeptValue) : Type 0 where
  pub own : IsOfOwn epoch shard part
  pub noted : Each (λ one. IsOfOwn epoch shard one.1) tally.noted
  pub tally_faults : tally.f ≡ config.f
  pub ack_faults : acks.f ≡ config.f
  pub right : IfKept shard prior part kept

-- the replica of this number of the own shard, unless it is the own one
abbrev pub other_node : Member → ℕ → List Node
other_node me number = if number == me.replica.0 then [] else replica_node me.shard number ∷ []

-- the number behind the part's length, where that is a gap
abbrev pub gap_of : PartValue → Option ℕ
gap_of part = if has_gap part then Some (length_of part + 1) else None
