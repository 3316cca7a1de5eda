-- WHAT IS SUBMITTED, in order: each transaction, with the id that its client gave it.
use Rattle.std.specs.Prelude.{ℕ, ◌+◌, ◌/◌, ◌==◌, List, [], ◌∷◌, ◌++◌, if◌then◌else◌}
use Rattle.eris_base.specs.declared.ids.TxnId.{TxnId}
use Rattle.eris_txn.specs.declared.history.HistoryEvent.{HistoryEvent}
use Rattle.eris_txn.specs.declared.history.HistoryEvent.TheVariants as history
use Rattle.eris_txn.specs.declared.op.Op.TheVariants.{Get, Put}
use Rattle.eris_txn.specs.declared.txn.Txn.{Txn}
use Rattle.eris_txn.specs.declared.txn.Txn.TheVariants.{Whole, General}
use Rattle.eris_drill.specs.declared.turn.Turn.{Turn}
use Rattle.eris_drill.specs.Draws.{turn_at}
use Rattle.eris_drill.specs.DrillLines.{account, below, payee, payer, teller, transfer}

-- in a history
abbrev pub submissions : List HistoryEvent → List (TxnId × Txn)
submissions [] = []
submissions (history.Submit id txn ∷ events) = (id, txn) ∷ submissions events
submissions (history.Read id values ∷ events) = submissions events
submissions (history.Answer id answer ∷ events) = submissions events
submissions (history.Told asker id answer ∷ events) = submissions events

-- IN A DRILL the clients take turns, from the first put on: the id of the submission of this number, from 0
unfoldable pub id_at : ℕ → TxnId
id_at n = record { client = teller n; number = n / 8 + 1 }

-- the first put of an account
abbrev pub put_of : ℕ → Txn
put_of number = Whole (Put (account number) 1000 ∷ [])

-- what is asked in a turn
unfoldable pub asked_txn : Turn → Txn
asked_txn turn = if turn.kind == 0 then Whole (Get (payer turn) ∷ Get (payee turn) ∷ []) else General (transfer turn)

-- the first puts of so many accounts
unfoldable pub first_puts : ℕ → List (TxnId × Txn)
first_puts accounts = below (λ number. (id_at number, put_of number) ∷ []) accounts

-- and so many turns of the drill of this number, behind 16 puts
unfoldable pub first_turns : ℕ → ℕ → List (TxnId × Txn)
first_turns number turns = below (λ turn. (id_at (16 + turn), asked_txn (turn_at number turn)) ∷ []) turns

-- ALL THAT A DRILL SUBMITS
unfoldable pub drill_submissions : ℕ → List (TxnId × Txn)
drill_submissions number = first_puts 16 ++ first_turns number number
