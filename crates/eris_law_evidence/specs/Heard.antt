-- What was sent to clients, as it is counted: a shard answers by the Reply of a view's learner and the Vouches of a
-- quorum, for one stamp in one view; or by a Late.
use Rattle.std.specs.Prelude.{◌≡◌, ℕ, suc, ◌≤◌, true, Some, List, slice_get}
use Rattle.eris_base.specs.declared.ids.Node.{Node}
use Rattle.eris_base.specs.declared.ids.Phase.{Phase}
use Rattle.eris_base.specs.declared.ids.ReplicaId.{ReplicaId}
use Rattle.eris_base.specs.declared.ids.ShardId.{ShardId}
use Rattle.eris_base.specs.declared.ids.TxnId.{TxnId}
use Rattle.eris_base.specs.declared.ids.View.{View}
use Rattle.eris_base.specs.declared.stamp.Stamp.{Stamp}
use Rattle.eris_base.specs.ConfigLimits.{ConfigValue}
use Rattle.eris_base.specs.Quorums.{has_replica, learner_of}
use Rattle.eris_txn.specs.declared.answer.Answer.{Answer}
use Rattle.eris_msg.specs.declared.message.Message.{Message}
use Rattle.eris_msg.specs.declared.outgoing.Outgoing.{Outgoing}
use Rattle.eris_rules.specs.InPlace.{is_in_place_at_client}
use Rattle.eris_law_epoch.specs.Members.{In}
use Rattle.eris_law_key.specs.Quorums.{IsQuorum}
use Rattle.eris_law_client.specs.ClientRuns.{ClientInput, Gets}

-- the message is among the sent ones, to whatever node
pub record WasSent (sent : List Outgoing) (message : Message) : Type 0 where
  pub to : Node
  pub there : In (record { to = to; message = message }) sent

-- the replica spoke for the stamp in the view, by a Vouch or by a Reply
pub data WasSpoken (sent : List Outgoing) (view : View) (shard : ShardId) (stamp : Stamp) (id : TxnId) (phase : Phase) (replica : ReplicaId) : Type 0 where
  ByVouch : WasSent sent (Message.Vouch view shard replica stamp id phase) → WasSpoken sent view shard stamp id phase replica
  ByReply : (answer : Answer) → WasSent sent (Message.Reply view shard replica stamp id phase answer) → WasSpoken sent view shard stamp id phase replica

-- ANSWERED BY A QUORUM: of one view and one stamp, the Reply of the view's learner, and messages of f+1 different
-- replicas of the shard (the learner may be one of them or not)
pub record WasAnswered (config : ConfigValue) (sent : List Outgoing) (shard : ShardId) (id : TxnId) (phase : Phase) (answer : Answer) : Type 0 where
  pub view : View
  pub stamp : Stamp
  pub who : List ReplicaId
  pub quorum : IsQuorum config.f who
  pub each : (replica : ReplicaId) → has_replica who replica ≡ true → WasSpoken sent view shard stamp id phase replica
  pub reply : WasSent sent (Message.Reply view shard (learner_of view config.f) stamp id phase answer)

-- what came to a client before a moment of its own, in place, was sent
abbrev pub AllWasSent : ConfigValue → List Outgoing → List ClientInput → ℕ → Type 0
AllWasSent config sent inputs number = (at : ℕ) (message : Message) → suc at ≤ number → slice_get inputs at ≡ Some (Gets message)
    → is_in_place_at_client config message ≡ true → WasSent sent message
