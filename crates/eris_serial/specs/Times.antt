-- What stands before what, in a history and in an order.
use Rattle.std.specs.Prelude.{◌≡◌, Bool, List, [], ◌∷◌, ◌++◌, ⊤, IsTrue, IsFalse}
use Rattle.eris_base.specs.declared.ids.TxnId.{TxnId}
use Rattle.eris_txn.specs.declared.answer.Answer.{Answer}
use Rattle.eris_txn.specs.declared.history.HistoryEvent.{HistoryEvent}
use Rattle.eris_txn.specs.declared.history.HistoryEvent.TheVariants.{Submit, Answer as Answered}
use Rattle.eris_txn.specs.declared.packet.Packet.{Packet}
use Rattle.eris_txn.specs.declared.txn.Txn.{Txn}
use Rattle.eris_locks.specs.States.{is_conclusory}
use Rattle.eris_serial.specs.Evidence.{IsIn, StandsBehind}

-- a packet is an own one of an id: it is of the id and not conclusory
pub record IsOwn (id : TxnId) (packet : Packet) : Type 0 where
  pub of_id : packet.id ≡ id
  pub own : IsFalse (is_conclusory packet.body)

-- wherever an answer stands before a submit in the history, what was submitted stands behind what was answered
-- in the order
abbrev pub EachAnswerFirst : List HistoryEvent → List Packet → Type 0
EachAnswerFirst history order =
    (before between after : List HistoryEvent) (answered submitted : TxnId) (answer : Answer) (txn : Txn)
    → history ≡ before ++ Answered answered answer ∷ (between ++ Submit submitted txn ∷ after)
    → StandsBehind order answered submitted

-- each item is below each one behind it
abbrev pub IsOrderedBy : {X : Type 0} → (X → X → Bool) → List X → Type 0
IsOrderedBy below [] = ⊤
IsOrderedBy below (item ∷ items) = ((other : _) → IsIn other items → IsTrue (below item other)) × IsOrderedBy below items

-- no two are below each other
abbrev pub IsOneWay : {X : Type 0} → (X → X → Bool) → Type 0
IsOneWay {X} below = (some other : X) → IsTrue (below some other) → IsTrue (below other some) → ⊥
