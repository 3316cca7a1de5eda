-- THE COURSE OF EACH CLIENT IN A RUN OF A WHOLE WORLD: what each event of the run is to the client. There is one input
-- for each event, so the moments of the run are those of each client's course. An event that is no affair of the
-- client's counts as a message that no client takes.
use Rattle.std.specs.Prelude.{◌==◌, Option, Some, None, List, [], ◌∷◌, if◌then◌else◌}
use Rattle.eris_base.specs.declared.ids.ClientId.{ClientId}
use Rattle.eris_base.specs.declared.ids.Node.{Node}
use Rattle.eris_base.specs.declared.ids.Node.TheVariants.{Sequencer, Coordinator, Replica, Client}
use Rattle.eris_base.specs.declared.ids.TxnId.{TxnId}
use Rattle.eris_base.specs.ConfigLimits.{ConfigValue}
use Rattle.eris_txn.specs.declared.txn.Txn.TheVariants.{Whole, General}
use Rattle.eris_txn.specs.PlanValues.{PlanValue}
use Rattle.eris_msg.specs.declared.message.Message.{Message}
use Rattle.eris_msg.specs.declared.outgoing.Outgoing.{Outgoing}
use Rattle.eris_event.specs.declared.event.Event.{Event}
use Rattle.eris_rules.specs.ClientStates.{ClientIdentity}
use Rattle.eris_rules.specs.Happenings.{happens, plan_of_transaction, submitted_at}
use Rattle.eris_rules.specs.Worlds.{WorldState, first_world}
use Rattle.eris_law_agreement.specs.OwnSteps.{delivered_by}
use Rattle.eris_law_client.specs.ClientRuns.{ClientInput, Submits, Retries, Aborts, Gets}

-- which client it is
abbrev pub identity : ConfigValue → ClientId → ClientIdentity
identity config client = record { config = config; client = client }

-- a message that no client takes
unfoldable pub nothing : ClientInput
nothing = Gets (Message.EpochAsk (record { 0 = 0 }))

-- what comes to the client, where this is given to that one
abbrev pub given : ClientId → ClientInput → ClientId → ClientInput
given to input client = if to.0 == client.0 then input else nothing

abbrev pub heard : Node → Message → ClientId → ClientInput
heard Sequencer message client = nothing
heard Coordinator message client = nothing
heard (Replica shard replica) message client = nothing
heard (Client to) message client = given to (Gets message) client

abbrev pub hears : Option Outgoing → ClientId → ClientInput
hears None client = nothing
hears (Some one) client = heard one.to one.message client

-- the asker is called to abort a general transaction, with its keys
abbrev pub called : ClientId → TxnId → Option PlanValue → ClientId → ClientInput
called asker id None client = nothing
called asker id (Some plan) client = given asker (Aborts id plan.keys) client

-- WHAT AN EVENT IS TO A CLIENT
unfoldable pub input_of : WorldState → Event → ClientId → ClientInput
input_of world (Event.Submit to ops) client = given to (Submits (Whole ops)) client
input_of world (Event.General to plan) client = given to (Submits (General plan)) client
input_of world (Event.Retry to number) client = given to (Retries number) client
input_of world (Event.Abort asker id) client = called asker id (plan_of_transaction (submitted_at world id)) client
input_of world event client = hears (delivered_by world event) client

-- past the end of the events nothing happens
abbrev pub input_now : WorldState → Option Event → ClientId → ClientInput
input_now world None client = nothing
input_now world (Some event) client = input_of world event client

-- the inputs by events from a world on
unfoldable pub inputs_from : ConfigValue → WorldState → List Event → ClientId → List ClientInput
inputs_from config world [] client = []
inputs_from config world (event ∷ events) client = input_of world event client ∷ inputs_from config (happens config world event) events client

-- THE INPUTS OF A CLIENT in a run
abbrev pub inputs_of : ConfigValue → List Event → ClientId → List ClientInput
inputs_of config events client = inputs_from config (first_world config) events client
