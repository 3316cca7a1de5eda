-- What contracts see of a client.
use Rattle.std.specs.Prelude.{Bool, Option, List}
use Rattle.eris_txn.specs.declared.history.HistoryEvent.{HistoryEvent}
use Rattle.eris_msg.specs.declared.outgoing.Outgoing.{Outgoing}
use Rattle.eris_rules.specs.ClientStates.{ClientIdentity, ClientState, ClientOut}

-- which client it is, the state as the rules have it, and whether memory ran out in a step
pub record ClientValue : Type 0 where
  pub me : ClientIdentity
  pub state : ClientState
  pub spent : Bool

-- which client it is, and the state as the rules have it
pub record StateValue : Type 0 where
  pub me : ClientIdentity
  pub state : ClientState

-- the state after a step, what is sent, and what happened
abbrev pub after : StateValue → ClientOut → StateValue × (List Outgoing × Option HistoryEvent)
after value out = (record value { state = out.state }, (out.sends, out.event))
