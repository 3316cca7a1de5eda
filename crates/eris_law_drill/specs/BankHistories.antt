-- A BANK'S HISTORY: first the puts are submitted and answered, and then the turns are submitted.
use Rattle.std.specs.Prelude.{◌≡◌, ◌<◌, ◌⊎◌, ℕ, List, [], ◌∷◌, ◌++◌, IsTrue}
use Rattle.eris_base.specs.declared.ids.TxnId.{TxnId}
use Rattle.eris_txn.specs.declared.answer.Answer.{Answer}
use Rattle.eris_txn.specs.declared.history.HistoryEvent.{HistoryEvent}
use Rattle.eris_txn.specs.declared.txn.Txn.{Txn}
use Rattle.eris_audit.specs.Histories.{is_submitted, txn_of}
use Rattle.eris_law_drill.specs.Banks.{IsPut, IsTurn}

-- the event stands in the history
abbrev pub Happened : HistoryEvent → List HistoryEvent → Type 0
Happened event [] = ⊥
Happened event (other ∷ history) = (event ≡ other) ⊎ Happened event history

-- some account's first put
pub record IsSomePut (txn : Txn) : Type 0 where
  pub number : ℕ
  pub put : IsPut txn number

-- it is answered
pub record WasAnswered (id : TxnId) (history : List HistoryEvent) : Type 0 where
  pub answer : Answer
  pub there : Happened (HistoryEvent.Answer id answer) history

-- the first put of an account is submitted
pub record HasPut (history early : List HistoryEvent) (number : ℕ) : Type 0 where
  pub id : TxnId
  pub submitted : IsTrue (is_submitted early id)
  pub put : IsPut (txn_of history id) number

pub record IsBankHistory (history : List HistoryEvent) : Type 0 where
  pub early : List HistoryEvent
  pub late : List HistoryEvent
  pub are : history ≡ early ++ late
  pub puts : (id : TxnId) → IsTrue (is_submitted early id) → IsSomePut (txn_of history id)
  pub answered : (id : TxnId) → IsTrue (is_submitted early id) → WasAnswered id early
  pub all : (number : ℕ) → number < 16 → HasPut history early number
  pub turns : (id : TxnId) (txn : Txn) → Happened (HistoryEvent.Submit id txn) late → IsTurn txn
