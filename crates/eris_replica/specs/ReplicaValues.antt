-- What contracts see of a replica.
use Rattle.std.specs.Prelude.{◌≡◌, ◌<◌, ◌+◌, ◌*◌, Bool, true, List, ⊤, if◌then◌else◌}
use Rattle.eris_base.specs.declared.ids.Epoch.{Epoch}
use Rattle.eris_base.specs.ConfigLimits.{ConfigValue}
use Rattle.eris_msg.specs.declared.message.Message.{Message}
use Rattle.eris_msg.specs.declared.outgoing.Outgoing.{Outgoing}
use Rattle.eris_msg.specs.Spellings.{message_fits}
use Rattle.eris_rules.specs.declared.replica_input.ReplicaInput.{ReplicaInput}
use Rattle.eris_rules.specs.EpochReplicas.{EpochInput}
use Rattle.eris_rules.specs.ReplicaStates.{Identity, ReplicaState, ReplicaOut}
use Rattle.eris_rules.specs.Replicas.{still, steps, takes_part_in}

-- which replica of which system it is, its state as the rules have it, and whether memory ran out in a step
pub record ReplicaValue : Type 0 where
  pub me : Identity
  pub state : ReplicaState
  pub spent : Bool

-- which replica of which system it is, and its state
pub record EpochsValue : Type 0 where
  pub me : Identity
  pub state : ReplicaState

-- the state after a step, and what is sent
abbrev pub after : EpochsValue → ReplicaOut → EpochsValue × List Outgoing
after value out = (record value { state = out.state }, out.sends)

-- what is said in an epoch concerns it where it takes part in that epoch
abbrev pub steps_if : Identity → ReplicaState → Epoch → EpochInput → ReplicaOut
steps_if me state epoch input = if takes_part_in state epoch then steps me state input else still state

-- the sender of an acknowledgement is one of the shard's replicas
abbrev pub IsSenderKnown : ConfigValue → Message → Type 0
IsSenderKnown config (Message.Ack replica epoch view length) = replica.0 < 2 * config.f + 1
IsSenderKnown config message = ⊤

-- a message that comes is in its ranges
abbrev pub InputFits : ReplicaInput → Type 0
InputFits (ReplicaInput.Message message) = message_fits message ≡ true
InputFits ReplicaInput.Probe = ⊤
InputFits ReplicaInput.Suspect = ⊤
InputFits ReplicaInput.Sync = ⊤
