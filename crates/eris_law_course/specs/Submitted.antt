-- WHAT A WORLD HAS FROM ITS CLIENTS: an Ask was sent by a client of the world, and its body rests on the course of that
-- client as it was then; an event of the history stands in a client's own; and a message that came was sent.
use Rattle.std.specs.Prelude.{ℕ, ◌≤◌, List}
use Rattle.eris_base.specs.declared.ids.ClientId.{ClientId}
use Rattle.eris_base.specs.declared.ids.Node.{Node}
use Rattle.eris_base.specs.declared.ids.TxnId.{TxnId}
use Rattle.eris_base.specs.ConfigLimits.{ConfigValue}
use Rattle.eris_txn.specs.declared.body.Body.{Body}
use Rattle.eris_txn.specs.declared.history.HistoryEvent.{HistoryEvent}
use Rattle.eris_msg.specs.declared.message.Message.{Message}
use Rattle.eris_msg.specs.declared.outgoing.Outgoing.{Outgoing}
use Rattle.eris_event.specs.declared.event.Event.{Event}
use Rattle.eris_serial.specs.Evidence.{IsIn}
use Rattle.eris_law_epoch.specs.Members.{In}
use Rattle.eris_law_client.specs.ClientRuns.{history_to}
use Rattle.eris_law_client.specs.Rests.{AskRests}
use Rattle.eris_law_course.specs.Accepted.{IsThere}
use Rattle.eris_law_course.specs.Inputs.{identity, inputs_of}

-- a client of the world asked for the body by a moment
pub record HasAsked (config : ConfigValue) (events : List Event) (k : ℕ) (asker : ClientId) (id : TxnId) (body : Body) : Type 0 where
  pub there : IsThere config asker
  pub at : ℕ
  pub before : at ≤ k
  pub rests : AskRests (identity config asker) (inputs_of config events asker) at id body

-- the event is one of a client of the world, in its own course
pub record IsOfClient (config : ConfigValue) (events : List Event) (k : ℕ) (event : HistoryEvent) : Type 0 where
  pub client : ClientId
  pub there : IsThere config client
  pub stands : IsIn event (history_to (identity config client) (inputs_of config events client) k)

-- the message is among the sent ones, to whatever node
pub record IsAmongSent (sent : List Outgoing) (message : Message) : Type 0 where
  pub to : Node
  pub there : In (record { to = to; message = message }) sent
