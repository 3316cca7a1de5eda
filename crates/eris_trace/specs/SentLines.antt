-- THE SENT PACKETS OF A TRACE are those of the run, in order.
use Rattle.std.specs.Prelude.{◌≡◌, ℕ, ◌+◌, Some, List, [], ◌∷◌}
use Rattle.eris_base.specs.ConfigLimits.{ConfigValue}
use Rattle.eris_msg.specs.declared.outgoing.Outgoing.{Outgoing}
use Rattle.eris_event.specs.declared.event.Event.{Event}
use Rattle.eris_rules.specs.Runs.{run}
use Rattle.eris_rules.specs.Worlds.{WorldState}
use Rattle.eris_trace.specs.Items.{Item, first_moment, items_of}
use Rattle.eris_trace.specs.Items as items

-- the sent packets that items tell, each with its number
abbrev pub sent_in : List Item → List (ℕ × Outgoing)
sent_in [] = []
sent_in (items.Said number text ∷ more) = sent_in more
sent_in (items.Stepped number action ∷ more) = sent_in more
sent_in (items.Sent number from one ∷ more) = (number, one) ∷ sent_in more
sent_in (items.Happened event ∷ more) = sent_in more
sent_in (items.Changed old new ∷ more) = sent_in more
sent_in (items.Waiting number node ∷ more) = sent_in more
sent_in (items.Lost number node ∷ more) = sent_in more

-- a list with its numbers, of which the first is this one
abbrev pub numbered : ℕ → List Outgoing → List (ℕ × Outgoing)
numbered number [] = []
numbered number (one ∷ more) = (number, one) ∷ numbered (number + 1) more

-- what the trace of a run tells as sent is what the run's world has sent, from number 0 on
abbrev pub TellsSent : Type 0
TellsSent = (config : ConfigValue) (events : List Event) (world : WorldState) → run config events ≡ Some world
    → sent_in (items_of config (first_moment config) events) ≡ numbered 0 world.sent
