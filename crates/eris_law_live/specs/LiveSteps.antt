-- What a node of a live run may do, and its step, told by what the node itself knows: its own state, and the packets
-- that it fetched. It doesn't know the world.
use Rattle.std.specs.Prelude.{◌≡◌, ◌<◌, ◌≤◌, ⊤, ◌==◌, ℕ, true, false, is_none, Option, Some, None, Result, Ok, Err, List, [], ◌∷◌, map, unwrap_or, if◌then◌else◌}
use Rattle.eris_base.specs.declared.ids.Epoch.{Epoch}
use Rattle.eris_base.specs.declared.ids.Node.{Node}
use Rattle.eris_base.specs.declared.ids.Node.TheVariants.{Sequencer, Coordinator, Replica, Client}
use Rattle.eris_txn.specs.declared.txn.Txn.{Txn}
use Rattle.eris_txn.specs.Operations.{key_of}
use Rattle.eris_codec.specs.declared.fault.Wrong.{Wrong}
use Rattle.eris_codec.specs.Codecs.{whole}
use Rattle.eris_msg.specs.declared.message.Message.{Message}
use Rattle.eris_msg.specs.Messages.{message}
use Rattle.eris_event.specs.declared.event.Event.{Event}
use Rattle.eris_event.specs.EventRanges.{fits_event}
use Rattle.eris_rules.specs.declared.coord_input.CoordInput.{CoordInput}
use Rattle.eris_rules.specs.declared.replica_input.ReplicaInput.{ReplicaInput}
use Rattle.eris_rules.specs.Clients.{submit, retry}
use Rattle.eris_rules.specs.Known.{knows_keys}
use Rattle.eris_law_agreement.specs.NodeSteps.{NodeStep, NoStep, OfReplica, OfCoordinator, Replaces, OfClient, heard_by}
use Rattle.eris_journal.specs.Packets.{is_fetched}
use Rattle.eris_journal.specs.declared.fetched.Fetched.{Fetched}
use Rattle.eris_law_live.specs.declared.entry.LiveEntry.{LiveEntry}
use Rattle.eris_law_live.specs.LiveNodes.{live_config, node_of}
use Rattle.eris_law_live.specs.OwnStates.{OwnState, first_own, own_after, own_newest, own_sends, own_transaction}

-- ---- fetched packets
-- what was read, if it was a message
abbrev pub read_of : Result Message Wrong → Option Message
read_of (Ok read) = Some read
read_of (Err wrong) = None

-- the message of the fetched packet of this number, if there is one
abbrev pub fetched_message : ℕ → List Fetched → Option Message
fetched_message number [] = None
fetched_message number (packet ∷ packets) =
    if packet.number == number then read_of (whole message packet.message) else fetched_message number packets

-- ---- a step
abbrev pub hears : Epoch → Node → Option Message → NodeStep
hears epoch node None = NoStep
hears epoch node (Some heard) = heard_by epoch node heard

-- THE STEP that an event is at its node. A message comes to the sequencer of the epoch that is named, or else of the
-- newest.
unfoldable pub own_step : Node → List Fetched → OwnState → Event → NodeStep
own_step node fetched state (Event.Submit client ops) = OfClient client (λ me own. submit me own (Txn.Whole ops))
own_step node fetched state (Event.General client plan) = OfClient client (λ me own. submit me own (Txn.General plan))
own_step node fetched state (Event.Retry client number) = OfClient client (λ me own. retry me own number)
own_step node fetched state (Event.Deliver number epoch) =
    hears (unwrap_or epoch (own_newest state)) node (fetched_message number fetched)
own_step node fetched state (Event.Probe shard replica) = OfReplica shard replica ReplicaInput.Probe
own_step node fetched state (Event.Suspect shard replica) = OfReplica shard replica ReplicaInput.Suspect
own_step node fetched state (Event.Sync shard replica) = OfReplica shard replica ReplicaInput.Sync
own_step node fetched state Event.Nudge = OfCoordinator CoordInput.Nudge
own_step node fetched state Event.Replace = Replaces
own_step node fetched state event = NoStep

-- THE REPLAY of a node's events over the packets that it fetched, from its start
unfoldable pub replay_from : Node → List Fetched → OwnState → List Event → OwnState
replay_from node fetched state [] = state
replay_from node fetched state (event ∷ events) =
    replay_from node fetched (own_after (own_step node fetched state event) state) events

abbrev pub events_of : List LiveEntry → List Event
events_of entries = map (λ entry. entry.event) entries

abbrev pub replay : Node → List Fetched → List LiveEntry → OwnState
replay node fetched entries = replay_from node fetched (first_own node) (events_of entries)

-- ---- what a node may do
-- an epoch is named only to the sequencers, and one that has begun
abbrev pub MayName : Node → OwnState → Option Epoch → Type 0
MayName node state None = ⊤
MayName node state (Some epoch) = (node ≡ Sequencer) × (epoch.0 ≤ (own_newest state).0)

-- WHAT A NODE MAY DO: a client submits on keys of the two shards, and asks again for what it submitted; each node
-- delivers what it fetched; a replica and the coordinator use their timers; the sequencers begin another epoch, but
-- behind the last
abbrev pub MayDo : Node → List Fetched → OwnState → Event → Type 0
MayDo node fetched state (Event.Submit client ops) = (node ≡ Client client) × (knows_keys live_config (map key_of ops) ≡ true)
MayDo node fetched state (Event.General client plan) = (node ≡ Client client) × (knows_keys live_config plan.keys ≡ true)
MayDo node fetched state (Event.Retry client number) =
    (node ≡ Client client) × (is_none (own_transaction state (record { client = client; number = number })) ≡ false)
MayDo node fetched state (Event.Deliver number epoch) = (is_fetched number fetched ≡ true) × MayName node state epoch
MayDo node fetched state (Event.Probe shard replica) = node ≡ Replica shard replica
MayDo node fetched state (Event.Suspect shard replica) = node ≡ Replica shard replica
MayDo node fetched state (Event.Sync shard replica) = node ≡ Replica shard replica
MayDo node fetched state Event.Nudge = node ≡ Coordinator
MayDo node fetched state Event.Replace = (node ≡ Sequencer) × ((own_newest state).0 < 4294967295)
MayDo node fetched state event = ⊥

-- THE ENTRY IS A STEP of the node of this number, which has made these entries and fetched these packets
pub record IsLiveStep (number : ℕ) (entries : List LiveEntry) (fetched : List Fetched) (entry : LiveEntry) : Type 0 where
  pub node : Node
  pub seated : node_of number ≡ Some node
  pub may : MayDo node fetched (replay node fetched entries) entry.event
  pub ranged : fits_event 1 entry.event ≡ true
  pub sent : entry.sent ≡ own_sends (own_step node fetched (replay node fetched entries) entry.event) (replay node fetched entries)
