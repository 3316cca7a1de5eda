-- Why an event is refused.
use Rattle.std.specs.Prelude.{ℕ, ◌+◌, ◌==◌, ◌&&◌, not, Bool, true, false, nat_lt, nat_le, is_none, is_ok, Option, Some, None, List, map, length, sum_by, slice_get, if◌then◌else◌}
use Rattle.std.specs.Option.{option_or}
use Rattle.eris_base.specs.declared.ids.ClientId.{ClientId}
use Rattle.eris_base.specs.declared.ids.Epoch.{Epoch}
use Rattle.eris_base.specs.declared.ids.Node.{Node}
use Rattle.eris_base.specs.declared.ids.Node.TheVariants.{Sequencer, Coordinator, Replica, Client}
use Rattle.eris_base.specs.declared.ids.ReplicaId.{ReplicaId}
use Rattle.eris_base.specs.declared.ids.ShardId.{ShardId}
use Rattle.eris_base.specs.declared.ids.TxnId.{TxnId}
use Rattle.eris_base.specs.ConfigLimits.{ConfigValue}
use Rattle.eris_txn.specs.declared.key.Key.{Key}
use Rattle.eris_txn.specs.Operations.{key_of}
use Rattle.eris_msg.specs.declared.message.Message.{Message}
use Rattle.eris_msg.specs.declared.outgoing.Outgoing.{Outgoing}
use Rattle.eris_codec.specs.Codecs.{whole}
use Rattle.eris_msg.specs.Messages.{message}
use Rattle.eris_sequencer.specs.Sequencers.{newest_of}
use Rattle.eris_event.specs.declared.event.Event.{Event}
use Rattle.eris_event.specs.declared.refusal.Refusal.{Refusal}
use Rattle.eris_event.specs.declared.refusal.Refusal.TheVariants.{NoSuchClient, NoSuchShard, NoSuchTxn, OwnTxn, NotGeneral, NoSuchPacket, NoSuchSequencer, NoSuchReplica, Crashed, IsMessage, Packets, Bytes}
use Rattle.eris_rules.specs.declared.transaction.Transaction.{Transaction}
use Rattle.eris_rules.specs.ClientStates.{plan_of}
use Rattle.eris_rules.specs.Happenings.{happens, submitted_at}
use Rattle.eris_rules.specs.Known.{knows_shard, knows_replica, knows_client, knows_keys}
use Rattle.eris_rules.specs.Worlds.{WorldState, has_crashed}

-- SUBMIT: the client is of the config, and the shards of the keys are
unfoldable pub submit_cause : ConfigValue → ClientId → List Key → Option Refusal
submit_cause config client keys =
    if not (knows_client config client) then Some NoSuchClient
    else if not (knows_keys config keys) then Some NoSuchShard
    else None

-- RETRY: the client submitted such a transaction
unfoldable pub retry_cause : ConfigValue → WorldState → ClientId → ℕ → Option Refusal
retry_cause config world client number =
    if not (knows_client config client) then Some NoSuchClient
    else if is_none (submitted_at world (record { client = client; number = number })) then Some NoSuchTxn
    else None

abbrev pub general_cause : Option Transaction → Option Refusal
general_cause None = Some NoSuchTxn
general_cause (Some transaction) = if is_none (plan_of transaction.course) then Some NotGeneral else None

-- ABORT: both clients are of the config, the asker isn't the owner, and the owner submitted such a general
-- transaction
unfoldable pub abort_cause : ConfigValue → WorldState → ClientId → TxnId → Option Refusal
abort_cause config world asker id =
    if not (knows_client config asker && knows_client config id.client) then Some NoSuchClient
    else if asker.0 == id.client.0 then Some OwnTxn
    else general_cause (submitted_at world id)

abbrev pub is_crashed_node : WorldState → Node → Bool
is_crashed_node world (Replica shard replica) = has_crashed world shard replica
is_crashed_node world Sequencer = false
is_crashed_node world Coordinator = false
is_crashed_node world (Client client) = false

abbrev pub is_sequencer : Node → Bool
is_sequencer Sequencer = true
is_sequencer Coordinator = false
is_sequencer (Replica shard replica) = false
is_sequencer (Client client) = false

-- an epoch may be named of a message to a sequencer, and only one that has begun
abbrev pub names_sequencer : WorldState → Node → Option Epoch → Bool
names_sequencer world node None = true
names_sequencer world node (Some epoch) = is_sequencer node && nat_le epoch.0 (newest_of world.stampings).0

unfoldable pub delivery_cause : WorldState → Option Epoch → Node → Option Refusal
delivery_cause world epoch node =
    if is_crashed_node world node then Some Crashed
    else if not (names_sequencer world node epoch) then Some NoSuchSequencer
    else None

-- DELIVER: such a message was sent, its replica hasn't crashed, and a sequencer that is named is there
abbrev pub deliver_cause : WorldState → Option Epoch → Option Outgoing → Option Refusal
deliver_cause world epoch None = Some NoSuchPacket
deliver_cause world epoch (Some one) = delivery_cause world epoch one.to

-- PROBE, SUSPECT, SYNC, CRASH: there is such a replica, and it hasn't crashed
unfoldable pub timer_cause : ConfigValue → WorldState → ShardId → ReplicaId → Option Refusal
timer_cause config world shard replica =
    if not (knows_shard config shard && knows_replica config replica) then Some NoSuchReplica
    else if has_crashed world shard replica then Some Crashed
    else None

-- the bytes are a whole message, as every node would read it
unfoldable pub is_message : List ℕ → Bool
is_message bytes = is_ok (whole message bytes)

unfoldable pub noise_cause : List ℕ → Option Refusal
noise_cause bytes = if is_message bytes then Some IsMessage else None

abbrev pub node_cause : ConfigValue → WorldState → Node → Option Refusal
node_cause config world Sequencer = None
node_cause config world Coordinator = None
node_cause config world (Replica shard replica) = timer_cause config world shard replica
node_cause config world (Client client) = if knows_client config client then None else Some NoSuchClient

-- WHY AN EVENT IS REFUSED, whatever it would send: the first cause of its kind. NOISE: there is such a node, it
-- hasn't crashed, and the bytes aren't a message.
unfoldable pub cause : ConfigValue → WorldState → Event → Option Refusal
cause config world (Event.Submit client ops) = submit_cause config client (map key_of ops)
cause config world (Event.General client plan) = submit_cause config client plan.keys
cause config world (Event.Retry client number) = retry_cause config world client number
cause config world (Event.Abort asker id) = abort_cause config world asker id
cause config world (Event.Deliver packet epoch) = deliver_cause world epoch (slice_get world.sent packet)
cause config world Event.Flow = None
cause config world Event.Lose = None
cause config world (Event.Probe shard replica) = timer_cause config world shard replica
cause config world (Event.Suspect shard replica) = timer_cause config world shard replica
cause config world (Event.Sync shard replica) = timer_cause config world shard replica
cause config world (Event.Crash shard replica) = timer_cause config world shard replica
cause config world Event.Nudge = None
cause config world Event.Replace = None
cause config world (Event.Noise node bytes) = option_or (node_cause config world node) (noise_cause bytes)

-- the bytes of a message's frame: its length, and its spelling
unfoldable pub frame_size : Message → ℕ
frame_size one = 4 + length (message.spell one)

-- the bytes of the frames of sent messages
unfoldable pub frame_sizes : List Outgoing → ℕ
frame_sizes sent = sum_by (λ one. frame_size one.message) sent

-- a world may send 262,144 packets, whose frames have 67,108,864 bytes together
unfoldable pub limit_met : List Outgoing → Option Refusal
limit_met sent =
    if nat_lt 262144 (length sent) then Some Packets
    else if nat_lt 67108864 (frame_sizes sent) then Some Bytes
    else None

-- WHETHER AN EVENT IS REFUSED, and why: for its cause, or because what it would send passes a limit
unfoldable pub refusal : ConfigValue → WorldState → Event → Option Refusal
refusal config world event = option_or (cause config world event) (limit_met (happens config world event).sent)
