-- What the book of a live run is: what its nodes did, in one order, is a run.
use Rattle.std.specs.Prelude.{◌≡◌, ⊤, ℕ, Bool, true, false, Option, Some, None, List, [], ◌∷◌, ◌++◌, map, option_map, slice_get}
use Rattle.std.specs.List.{flat_map}
use Rattle.eris_base.specs.declared.ids.Node.{Node}
use Rattle.eris_base.specs.declared.ids.Node.TheVariants.{Sequencer, Coordinator, Replica, Client}
use Rattle.eris_base.specs.Each.{Each}
use Rattle.eris_msg.specs.declared.outgoing.Outgoing.{Outgoing}
use Rattle.eris_msg.specs.Spellings.{IsSpelling, spelling}
use Rattle.eris_event.specs.declared.event.Event.{Event}
use Rattle.eris_event.specs.declared.refusal.Refusal.{Refusal}
use Rattle.eris_event.specs.declared.refusal.Refusal.TheVariants as refusals
use Rattle.eris_event.specs.EventRanges.{fits_event}
use Rattle.eris_rules.specs.Happenings.{happens}
use Rattle.eris_rules.specs.Refusals.{limit_met, refusal}
use Rattle.eris_rules.specs.Runs.{run}
use Rattle.eris_rules.specs.Worlds.{WorldState, first_world}
use Rattle.eris_law_agreement.specs.NodeSteps.{sends_of_step, step_of}
use Rattle.eris_journal.specs.Lists.{own}
use Rattle.eris_journal.specs.Packets.{Packet, is_fetched}
use Rattle.eris_journal.specs.Parts.{Refused}
use Rattle.eris_journal.specs.declared.add_fault.AddFault.{AddFault}
use Rattle.eris_journal.specs.declared.add_fault.AddFault.TheVariants as faults
use Rattle.eris_journal.specs.declared.fetched.Fetched.{Fetched}
use Rattle.eris_law_live.specs.declared.entry.LiveEntry.{LiveEntry}
use Rattle.eris_law_live.specs.LiveNodes.{live_config, node_of, number_of}

-- entries, each with the number of its node
abbrev pub LiveEntries : Type 0
LiveEntries = List (ℕ × LiveEntry)

-- their events
unfoldable pub all_events : LiveEntries → List Event
all_events entries = map (λ x. x.1.event) entries

-- what all of them sent, in order
unfoldable pub all_sent : LiveEntries → List Outgoing
all_sent entries = flat_map (λ x. x.1.sent) entries

-- THE KINDS of events of a live run
abbrev pub is_live : Event → Bool
is_live (Event.Submit client ops) = true
is_live (Event.General client plan) = true
is_live (Event.Retry client number) = true
is_live (Event.Abort asker id) = false
is_live (Event.Deliver packet epoch) = true
is_live Event.Flow = false
is_live Event.Lose = false
is_live (Event.Probe shard replica) = true
is_live (Event.Suspect shard replica) = true
is_live (Event.Sync shard replica) = true
is_live (Event.Crash shard replica) = false
is_live Event.Nudge = true
is_live Event.Replace = true
is_live (Event.Noise node bytes) = false

-- THE NODE whose step an event of these kinds is, by what was sent: a delivery is of the node that the packet goes to
abbrev pub node_of_event : List Outgoing → Event → Option Node
node_of_event sent (Event.Submit client ops) = Some (Client client)
node_of_event sent (Event.General client plan) = Some (Client client)
node_of_event sent (Event.Retry client number) = Some (Client client)
node_of_event sent (Event.Deliver packet epoch) = option_map (λ one. one.to) (slice_get sent packet)
node_of_event sent (Event.Probe shard replica) = Some (Replica shard replica)
node_of_event sent (Event.Suspect shard replica) = Some (Replica shard replica)
node_of_event sent (Event.Sync shard replica) = Some (Replica shard replica)
node_of_event sent Event.Nudge = Some Coordinator
node_of_event sent Event.Replace = Some Sequencer
node_of_event sent event = None

-- a packet that is delivered was fetched
abbrev pub WasFetched : List Fetched → Event → Type 0
WasFetched fetched (Event.Deliver number epoch) = is_fetched number fetched ≡ true
WasFetched fetched event = ⊤

-- AN ENTRY WHERE IT STANDS, after a world: its event is of the kinds and in the ranges of a script of version 1, it
-- stands with the number of the node whose step its event is, it has just what the event sends there, and what it
-- delivers its node has fetched
pub record Stands (fetches : List (ℕ × Fetched)) (world : WorldState) (x : ℕ × LiveEntry) : Type 0 where
  pub node : Node
  pub seated : node_of x.0 ≡ Some node
  pub owned : node_of_event world.sent x.1.event ≡ Some node
  pub kind : is_live x.1.event ≡ true
  pub ranged : fits_event 1 x.1.event ≡ true
  pub sent : x.1.sent ≡ sends_of_step live_config world (step_of world x.1.event)
  pub fetched : WasFetched (own x.0 fetches) x.1.event

-- each does, after the world that those before it leave
unfoldable pub Stand : List (ℕ × Fetched) → WorldState → LiveEntries → Type 0
Stand fetches world [] = ⊤
Stand fetches world (x ∷ entries) = Stands fetches world x × Stand fetches (happens live_config world x.1.event) entries

-- a fetched packet has the number, the node and the spelling of a packet that was sent
pub record WasSent (sent : List Outgoing) (x : ℕ × Fetched) : Type 0 where
  pub one : Outgoing
  pub found : slice_get sent x.1.number ≡ Some one
  pub to : number_of one.to ≡ x.0
  pub spelled : IsSpelling one.message x.1.message

-- the cause for which a book keeps a refused entry, as the world tells it
abbrev pub refusal_of : AddFault → Refusal
refusal_of faults.Packets = refusals.Packets
refusal_of faults.Bytes = refusals.Bytes
refusal_of faults.NoMemory = refusals.NoMemory

-- the world refuses the event of the refused entry, for the cause that is kept
abbrev pub IsRefused : List (ℕ × Fetched) → WorldState → Option (Refused LiveEntry) → Type 0
IsRefused fetches world None = ⊤
IsRefused fetches world (Some r) =
    Stands fetches world (r.0, r.1.0) × (refusal live_config world r.1.0.event ≡ Some (refusal_of r.1.1))

-- THE BOOK OF A LIVE RUN: its events are a run, and each entry stands where its node made it; its fetched packets were
-- sent; and an entry is refused by the world itself
pub record IsLiveBook (entries : LiveEntries) (fetches : List (ℕ × Fetched)) (refused : Option (Refused LiveEntry)) : Type 0 where
  pub world : WorldState
  pub runs : run live_config (all_events entries) ≡ Some world
  pub stand : Stand fetches (first_world live_config) entries
  pub sent : Each (WasSent (all_sent entries)) fetches
  pub refuses : IsRefused fetches world refused

-- ---- what a journal asks of a book
-- the packets that an entry sends: whom each goes to, and its bytes
abbrev pub packet_of : Outgoing → Packet
packet_of one = (number_of one.to, spelling one.message)

abbrev pub live_sends : LiveEntry → List Packet
live_sends entry = map packet_of entry.sent

abbrev pub fault_of_limit : Option Refusal → Option AddFault
fault_of_limit None = None
fault_of_limit (Some refusals.Packets) = Some faults.Packets
fault_of_limit (Some cause) = Some faults.Bytes

-- the limit that an entry would pass behind these
abbrev pub live_limit : LiveEntries → LiveEntry → Option AddFault
live_limit entries entry = fault_of_limit (limit_met (all_sent entries ++ entry.sent))
