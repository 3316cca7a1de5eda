-- All clients, by number.
use Rattle.std.specs.Prelude.{◌≡◌, ◌<◌, ⊤, ℕ, ◌+◌, Bool, false, Option, Some, None, List, [], ◌∷◌, map, slice_set}
use Rattle.std.specs.List.{list_any}
use Rattle.eris_base.specs.declared.ids.ClientId.{ClientId}
use Rattle.eris_base.specs.declared.ids.TxnId.{TxnId}
use Rattle.eris_base.specs.ConfigLimits.{ConfigValue}
use Rattle.eris_txn.specs.declared.history.HistoryEvent.{HistoryEvent}
use Rattle.eris_txn.specs.declared.key.Key.{Key}
use Rattle.eris_txn.specs.PlanValues.{PlanValue}
use Rattle.eris_msg.specs.declared.outgoing.Outgoing.{Outgoing}
use Rattle.eris_client.specs.ClientValues.{ClientValue}
use Rattle.eris_rules.specs.declared.transaction.Transaction.{Transaction}
use Rattle.eris_rules.specs.ClientStates.{ClientIdentity, ClientOut, ClientState}
use Rattle.eris_rules.specs.Happenings.{plan_of_transaction, transaction_of}
use Rattle.eris_rules.specs.Worlds.{client_at}

-- their states, by client, and whether one of them is spent
pub record ClientsValue : Type 0 where
  pub config : ConfigValue
  pub states : List ClientState
  pub spent : Bool

abbrev pub client_of : ConfigValue → ℕ → ClientIdentity
client_of config number = record { config = config; client = record { 0 = number } }

-- a client that knows who it is, and has not run out of memory
pub record IsClient (config : ConfigValue) (number : ℕ) (one : ClientValue) : Type 0 where
  pub me : one.me ≡ client_of config number
  pub unspent : one.spent ≡ false

-- those from this number on
abbrev pub AreClients : ConfigValue → ℕ → List ClientValue → Type 0
AreClients config number [] = ⊤
AreClients config number (one ∷ more) = IsClient config number one × AreClients config (number + 1) more

abbrev pub states_of : List ClientValue → List ClientState
states_of clients = map (λ one. one.state) clients

abbrev pub any_spent : List ClientValue → Bool
any_spent clients = list_any (λ one. one.spent) clients

-- a client can count one more submission
abbrev pub HasRoom : ClientState → Type 0
HasRoom state = state.submitted < 4294967295

-- the states after an act of one of them, what it sends, and what happened
pub record ClientsOut : Type 0 where
  pub states : List ClientState
  pub sends : List Outgoing
  pub event : Option HistoryEvent

abbrev pub after_act : List ClientState → ClientId → ClientOut → ClientsOut
after_act states client out = record { states = slice_set states client.0 out.state; sends = out.sends; event = out.event }

abbrev pub one_acts : ConfigValue → List ClientState → ClientId → (ClientIdentity → ClientState → ClientOut) → Option ClientState → ClientsOut
one_acts config states client act None = record { states = states; sends = []; event = None }
one_acts config states client act (Some state) = after_act states client (act (record { config = config; client = client }) state)

-- a client acts; where there is none nothing is done
unfoldable pub clients_act : ConfigValue → List ClientState → ClientId → (ClientIdentity → ClientState → ClientOut) → ClientsOut
clients_act config states client act = one_acts config states client act (client_at states client)

-- the transaction of an id, at its client
abbrev pub transaction_in : List ClientState → TxnId → Option Transaction
transaction_in states id = transaction_of (client_at states id.client) id

-- the keys of a plan
abbrev pub keys_in : Option PlanValue → Option (List Key)
keys_in None = None
keys_in (Some plan) = Some plan.keys

-- the keys of the plan of a transaction, if there is one that is general
abbrev pub plan_keys : List ClientState → TxnId → Option (List Key)
plan_keys states id = keys_in (plan_of_transaction (transaction_in states id))
