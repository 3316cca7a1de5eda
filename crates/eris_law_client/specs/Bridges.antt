-- From what a client counted to evidence: what is asked of a history and of an order of packets, beside the client.
use Rattle.std.specs.Prelude.{◌≡◌, ℕ, Some, List}
use Rattle.eris_base.specs.declared.ids.ShardId.{ShardId}
use Rattle.eris_base.specs.declared.ids.TxnId.{TxnId}
use Rattle.eris_base.specs.Each.{Each}
use Rattle.eris_txn.specs.declared.answer.Answer.{Answer}
use Rattle.eris_txn.specs.declared.body.Body.{Body}
use Rattle.eris_txn.specs.declared.history.HistoryEvent.{HistoryEvent}
use Rattle.eris_txn.specs.declared.key.Key.{Key}
use Rattle.eris_txn.specs.declared.packet.Packet.{Packet}
use Rattle.eris_txn.specs.declared.txn.Txn.{Txn}
use Rattle.eris_txn.specs.declared.txn.Txn.TheVariants.{General}
use Rattle.eris_txn.specs.PlanValues.{PlanValue}
use Rattle.eris_audit.specs.Histories.{first_submit, txn_of}
use Rattle.eris_locks.specs.States.{phase_of}
use Rattle.eris_rules.specs.ClientStates.{ClientIdentity}
use Rattle.eris_serial.specs.Evidence.{IsIn, SaidOn, SubmitsWell}
use Rattle.eris_law_client.specs.ClientRuns.{ClientInput, WasCalledToAbort, history_to}
use Rattle.eris_law_client.specs.Counts.{CountedOn}

-- A HISTORY OF ALL CLIENTS has what this one's has by a moment: its events and its submits; every submitted
-- transaction can be run; and what it was called to abort is a general transaction with these keys
pub record IsHistoryWith (me : ClientIdentity) (inputs : List ClientInput) (number : ℕ) (history : List HistoryEvent) : Type 0 where
  pub events : (event : HistoryEvent) → IsIn event (history_to me inputs number) → IsIn event history
  pub submits : (id : TxnId) (txn : Txn) → first_submit (history_to me inputs number) id ≡ Some txn → first_submit history id ≡ Some txn
  pub well : Each SubmitsWell history
  pub aborted : (id : TxnId) (keys : List Key) → WasCalledToAbort inputs number id keys → (plan : PlanValue) × (txn_of history id ≡ General plan) × (keys ≡ plan.keys)

-- WHAT A CLIENT COUNTED WAS SAID over the packets
abbrev pub CountedIsSaid : ClientIdentity → List ClientInput → ℕ → List Packet → Type 0
CountedIsSaid me inputs number packets =
    (id : TxnId) (body : Body) (shard : ShardId) (answer : Answer) → CountedOn me inputs number id body shard answer → SaidOn shard id (phase_of body) answer packets
