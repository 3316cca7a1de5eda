-- WHAT A TRACE TELLS of events, item by item: of each step that an event is, what it comes to, which packets it sent, what
-- happened at clients, and how far the replicas and the coordinator were before it and are after it. An event with which
-- nothing happens is no step.
use Rattle.std.specs.Prelude.{ℕ, ◌+◌, ◌==◌, not, Option, Some, None, List, [], ◌∷◌, ◌++◌, map, length, drop, slice_get}
use Rattle.std.specs.List.{filter}
use Rattle.eris_base.specs.declared.ids.Node.{Node}
use Rattle.eris_base.specs.declared.ids.Node.TheVariants.{Sequencer, Coordinator, Replica, Client}
use Rattle.eris_base.specs.ConfigLimits.{ConfigValue}
use Rattle.eris_txn.specs.declared.history.HistoryEvent.{HistoryEvent}
use Rattle.eris_msg.specs.declared.outgoing.Outgoing.{Outgoing}
use Rattle.eris_event.specs.declared.event.Event.{Event}
use Rattle.eris_rules.specs.Happenings.{happens}
use Rattle.eris_rules.specs.Reports.{all_lines}
use Rattle.eris_rules.specs.Worlds.{WorldState, first_world}
use Rattle.eris_trace.specs.declared.action.Action.{Action}
use Rattle.eris_trace.specs.declared.action.Action.TheVariants.{Delivers, Loses, Calls, Nothing}
use Rattle.eris_trace.specs.declared.standing.Standing.{Standing}

-- a line of the script with its number; a step with its number; the packet of a number, by whom it was sent, and to whom; what
-- happened at a client; how far the nodes were and are; a packet that waits; one that was lost
pub data Item : Type 0 where
  Said : ℕ → List ℕ → Item
  Stepped : ℕ → Action → Item
  Sent : ℕ → Node → Outgoing → Item
  Happened : HistoryEvent → Item
  Changed : Standing → Standing → Item
  Waiting : ℕ → Node → Item
  Lost : ℕ → Node → Item

-- what is done with a packet, if it was sent
abbrev pub with_packet : (ℕ → Node → Action) → ℕ → Option Outgoing → Action
with_packet act number None = Nothing
with_packet act number (Some one) = act number one.to

-- what is done with the lowest packet that waits
abbrev pub with_lowest : (ℕ → Node → Action) → List Outgoing → List ℕ → Action
with_lowest act sent [] = Nothing
with_lowest act sent (number ∷ numbers) = with_packet act number (slice_get sent number)

-- WHAT AN EVENT COMES TO
unfoldable pub action_of : WorldState → Event → Action
action_of world (Event.Submit client ops) = Calls (Client client)
action_of world (Event.General client plan) = Calls (Client client)
action_of world (Event.Retry client number) = Calls (Client client)
action_of world (Event.Abort asker id) = Calls (Client asker)
action_of world (Event.Deliver packet epoch) = with_packet Delivers packet (slice_get world.sent packet)
action_of world Event.Flow = with_lowest Delivers world.sent world.waiting
action_of world Event.Lose = with_lowest Loses world.sent world.waiting
action_of world (Event.Probe shard replica) = Calls (Replica shard replica)
action_of world (Event.Suspect shard replica) = Calls (Replica shard replica)
action_of world (Event.Sync shard replica) = Calls (Replica shard replica)
action_of world (Event.Crash shard replica) = Calls (Replica shard replica)
action_of world Event.Nudge = Calls Coordinator
action_of world Event.Replace = Calls Sequencer
action_of world (Event.Noise node bytes) = Calls node

-- who sends what a step sends; where nothing happens, and where a packet is lost, nothing is sent
abbrev pub actor : Action → Node
actor (Delivers number node) = node
actor (Loses number node) = node
actor (Calls node) = node
actor Nothing = Coordinator

-- the packets that wait no more are those that are delivered or lost
abbrev pub left_by : Action → List ℕ → List ℕ
left_by (Delivers number node) waiting = filter (λ other. not (other == number)) waiting
left_by (Loses number node) waiting = filter (λ other. not (other == number)) waiting
left_by (Calls node) waiting = waiting
left_by Nothing waiting = waiting

-- packets, of which the first has this number
abbrev pub sent_items : Node → ℕ → List Outgoing → List Item
sent_items from number [] = []
sent_items from number (one ∷ more) = Sent number from one ∷ sent_items from (number + 1) more

-- how far the replicas and the coordinator are, as a report tells it
unfoldable pub standing_of : WorldState → Standing
standing_of world =
    record {
      replicas = all_lines world 0 world.replicas;
      current = world.coordinator.current;
      target = world.coordinator.target;
      found = length world.coordinator.inner.found;
      dropped = length world.coordinator.inner.dropped;
    }

-- what a step did, between the world before it and the world after it
unfoldable pub done_items : Node → WorldState → WorldState → List Item
done_items node before after =
    sent_items node (length before.sent) (drop (length before.sent) after.sent)
    ++ map Happened (drop (length before.history) after.history)
    ++ Changed (standing_of before) (standing_of after) ∷ []

-- THE ITEMS OF A STEP
abbrev pub step_items : ℕ → Action → WorldState → WorldState → List Item
step_items number (Delivers packet node) before after = Stepped number (Delivers packet node) ∷ done_items node before after
step_items number (Loses packet node) before after = Stepped number (Loses packet node) ∷ done_items node before after
step_items number (Calls node) before after = Stepped number (Calls node) ∷ done_items node before after
step_items number Nothing before after = []

-- between two events: the world, how many steps there were, and which packets were lost, in this order
pub record Moment : Type 0 where
  pub world : WorldState
  pub steps : ℕ
  pub lost : List ℕ

unfoldable pub first_moment : ConfigValue → Moment
first_moment config = record { world = first_world config; steps = 0; lost = [] }

abbrev pub steps_after : Action → ℕ → ℕ
steps_after (Delivers packet node) steps = steps + 1
steps_after (Loses packet node) steps = steps + 1
steps_after (Calls node) steps = steps + 1
steps_after Nothing steps = steps

abbrev pub lost_after : Action → List ℕ → List ℕ
lost_after (Delivers packet node) lost = lost
lost_after (Loses packet node) lost = lost ++ packet ∷ []
lost_after (Calls node) lost = lost
lost_after Nothing lost = lost

unfoldable pub moment_after : ConfigValue → Moment → Event → Moment
moment_after config moment event =
    record {
      world = happens config moment.world event;
      steps = steps_after (action_of moment.world event) moment.steps;
      lost = lost_after (action_of moment.world event) moment.lost;
    }

unfoldable pub event_items : ConfigValue → Moment → Event → List Item
event_items config moment event =
    step_items (moment.steps + 1) (action_of moment.world event) moment.world (happens config moment.world event)

-- events one after another
unfoldable pub moment_after_all : ConfigValue → Moment → List Event → Moment
moment_after_all config moment [] = moment
moment_after_all config moment (event ∷ events) = moment_after_all config (moment_after config moment event) events

unfoldable pub items_of : ConfigValue → Moment → List Event → List Item
items_of config moment [] = []
items_of config moment (event ∷ events) = event_items config moment event ++ items_of config (moment_after config moment event) events
