use Rattle.std.specs.Prelude.{Bool, Option, Some, None, List, [], ◌∷◌, is_some, unwrap_or, if◌then◌else◌}
use Rattle.eris_base.specs.declared.ids.TxnId.{TxnId}
use Rattle.eris_txn.specs.declared.history.HistoryEvent.{HistoryEvent}
use Rattle.eris_txn.specs.declared.history.HistoryEvent.TheVariants.{Submit}
use Rattle.eris_txn.specs.declared.txn.Txn.{Txn}
use Rattle.eris_txn.specs.declared.txn.Txn.TheVariants.{Whole}
use Rattle.eris_base.specs.TxnIds.{same_id}

-- the transaction of an id's first submit
abbrev pub first_submit : List HistoryEvent → TxnId → Option Txn
first_submit [] id = None
first_submit (Submit other txn ∷ history) id = if same_id other id then Some txn else first_submit history id
first_submit (event ∷ history) id = first_submit history id

abbrev pub is_submitted : List HistoryEvent → TxnId → Bool
is_submitted history id = is_some (first_submit history id)

-- the transaction of an id; where the id was never submitted, one that does nothing
abbrev pub txn_of : List HistoryEvent → TxnId → Txn
txn_of history id = unwrap_or (first_submit history id) (Whole [])
