-- What a client is.
use Rattle.std.specs.Prelude.{ℕ, ◌+◌, false, Option, Some, None, List, []}
use Rattle.std.specs.BTreeMap.{is_at, insert_entry}
use Rattle.std.specs.Map.{lookup}
use Rattle.std.specs.Ordering.{nat_cmp, ordering_then}
use Rattle.std.specs.declared.cmp.Ordering.{Ordering}
use Rattle.eris_base.specs.declared.ids.ClientId.{ClientId}
use Rattle.eris_base.specs.declared.ids.TxnId.{TxnId}
use Rattle.eris_base.specs.ConfigLimits.{ConfigValue}
use Rattle.eris_txn.specs.declared.body.Body.{Body}
use Rattle.eris_txn.specs.declared.body.Body.TheVariants.{Independent, Prelim, Abort}
use Rattle.eris_txn.specs.declared.history.HistoryEvent.{HistoryEvent}
use Rattle.eris_txn.specs.declared.txn.Txn.{Txn}
use Rattle.eris_txn.specs.PlanValues.{PlanValue}
use Rattle.eris_txn.specs.Plans.{locks_of}
use Rattle.eris_msg.specs.declared.outgoing.Outgoing.{Outgoing}
use Rattle.eris_rules.specs.declared.transaction.Course.{Course}
use Rattle.eris_rules.specs.declared.transaction.Course.TheVariants.{Executing, Reading, Concluding, Aborting}
use Rattle.eris_rules.specs.declared.transaction.Transaction.{Transaction}

-- which client of which system it is
pub record ClientIdentity : Type 0 where
  pub config : ConfigValue
  pub client : ClientId

-- how many transactions it submitted, which are numbered from 1, and its transactions by id: these, and those
-- of others of which it asked the abort
pub record ClientState : Type 0 where
  pub submitted : ℕ
  pub transactions : List (TxnId × Transaction)

-- what a step gives: at most one thing happens at the client that the history has
pub record ClientOut : Type 0 where
  pub state : ClientState
  pub sends : List Outgoing
  pub event : Option HistoryEvent

unfoldable pub first_client : ClientState
first_client = record { submitted = 0; transactions = [] }

-- the order of ids: by client, then by number
abbrev pub txn_id_cmp : TxnId → TxnId → Ordering
txn_id_cmp some other = ordering_then (nat_cmp some.client.0 other.client.0) (nat_cmp some.number other.number)

-- the transaction of an id, if the client has it
unfoldable pub transaction_at : ClientState → TxnId → Option Transaction
transaction_at state id = lookup (is_at (txn_id_cmp id)) state.transactions

unfoldable pub with_transaction : ClientState → TxnId → Transaction → ClientState
with_transaction state id transaction =
    record state { transactions = insert_entry txn_id_cmp state.transactions id transaction }

-- the body of the present half
abbrev pub body_of : Course → Body
body_of (Executing ops) = Independent ops
body_of (Reading plan) = Prelim (locks_of plan)
body_of (Concluding plan body) = body
body_of (Aborting keys) = Abort keys

-- the plan of a general transaction of its own
abbrev pub plan_of : Course → Option PlanValue
plan_of (Executing ops) = None
plan_of (Reading plan) = Some plan
plan_of (Concluding plan body) = Some plan
plan_of (Aborting keys) = None

-- a half that begins
unfoldable pub begun_half : Course → Transaction
begun_half course = record { course = course; votes = []; counted = []; finished = false }

-- how a transaction begins
abbrev pub course_of : Txn → Course
course_of (Txn.Whole ops) = Executing ops
course_of (Txn.General plan) = Reading plan

-- the id of the next transaction that it submits
abbrev pub next_id : ClientIdentity → ClientState → TxnId
next_id me state = record { client = me.client; number = state.submitted + 1 }
