-- THE COURSE OF ONE CLIENT BY ITSELF, taken as a list of its own inputs. A run of a whole world is, for each
-- client, such a course: the inputs are what it was called for and the messages that came to it, in order.
use Rattle.std.specs.Prelude.{◌≡◌, ℕ, zero, suc, ◌≤◌, ◌==◌, false, Option, Some, None, List, [], ◌++◌, slice_get}
use Rattle.eris_base.specs.declared.ids.TxnId.{TxnId}
use Rattle.eris_txn.specs.declared.history.HistoryEvent.{HistoryEvent}
use Rattle.eris_txn.specs.declared.key.Key.{Key}
use Rattle.eris_txn.specs.declared.txn.Txn.{Txn}
use Rattle.eris_msg.specs.declared.message.Message.{Message}
use Rattle.eris_msg.specs.declared.outgoing.Outgoing.{Outgoing}
use Rattle.eris_rules.specs.Clients.{idle, submit, retry, abort, client_step}
use Rattle.eris_rules.specs.ClientStates.{ClientIdentity, ClientState, ClientOut, first_client}
use Rattle.eris_rules.specs.Worlds.{with_event}

-- what may come to a client
pub data ClientInput : Type 0 where
  -- it is called to submit a transaction
  Submits : (txn : Txn) → ClientInput
  -- to ask again for its transaction of this number
  Retries : (number : ℕ) → ClientInput
  -- to ask for the abort of another's transaction, which has these keys
  Aborts : (id : TxnId) (keys : List Key) → ClientInput
  -- a message comes
  Gets : (message : Message) → ClientInput

unfoldable pub client_does : ClientIdentity → ClientState → ClientInput → ClientOut
client_does me state (Submits txn) = submit me state txn
client_does me state (Retries number) = retry me state number
client_does me state (Aborts id keys) = abort me state id keys
client_does me state (Gets message) = client_step me state message

-- past the end of the inputs nothing happens
abbrev pub perhaps : ClientIdentity → ClientState → Option ClientInput → ClientOut
perhaps me state None = idle state
perhaps me state (Some input) = client_does me state input

-- THE MOMENT of a course: the client after the first so many inputs, from its start
unfoldable pub moment : ClientIdentity → List ClientInput → ℕ → ClientState
moment me inputs zero = first_client
moment me inputs (suc number) = (perhaps me (moment me inputs number) (slice_get inputs number)).state

-- what the step behind that moment gives
abbrev pub step_at : ClientIdentity → List ClientInput → ℕ → ClientOut
step_at me inputs number = perhaps me (moment me inputs number) (slice_get inputs number)

-- what happened at the client up to a moment, and what it sent
unfoldable pub history_to : ClientIdentity → List ClientInput → ℕ → List HistoryEvent
history_to me inputs zero = []
history_to me inputs (suc number) = with_event (history_to me inputs number) (step_at me inputs number).event

unfoldable pub sent_to : ClientIdentity → List ClientInput → ℕ → List Outgoing
sent_to me inputs zero = []
sent_to me inputs (suc number) = sent_to me inputs number ++ (step_at me inputs number).sends

-- THE PREMISE: it is never called to abort a transaction of its own
abbrev pub AbortsOthers : ClientIdentity → List ClientInput → Type 0
AbortsOthers me inputs =
    (at : ℕ) (id : TxnId) (keys : List Key) → slice_get inputs at ≡ Some (Aborts id keys) → (id.client.0 == me.client.0) ≡ false

-- it was called before a moment to abort this transaction with these keys
pub record WasCalledToAbort (inputs : List ClientInput) (number : ℕ) (id : TxnId) (keys : List Key) : Type 0 where
  pub at : ℕ
  pub before : suc at ≤ number
  pub called : slice_get inputs at ≡ Some (Aborts id keys)
