use Rattle.std.specs.Prelude.{ℕ, List, ◌∷◌, [], Option, Some, None, map, codes}
use Rattle.eris_txn.specs.declared.answer.Answer.{Answer}
use Rattle.eris_txn.specs.declared.answer.Answer.TheVariants.{Ops, Values, Committed, Aborted}
use Rattle.eris_txn.specs.declared.history.HistoryEvent.{HistoryEvent}
use Rattle.eris_txn.specs.declared.history.HistoryEvent.TheVariants as event
use Rattle.eris_txn.specs.declared.op.OpAnswer.{OpAnswer}
use Rattle.eris_txn.specs.declared.op.OpAnswer.TheVariants.{Value, Absent, Done, Yes, No}
use Rattle.eris_txn.specs.declared.txn.Txn.TheVariants.{Whole, General}
use Rattle.eris_words.specs.Decimal.{decimal}
use Rattle.eris_words.specs.OpText.{ops_words}
use Rattle.eris_words.specs.PlanText.{plan_words}
use Rattle.eris_words.specs.Words.{id_word}

-- a key's value, `-` where it has none
abbrev pub value_word : Option ℕ → List ℕ
value_word (Some value) = decimal value
value_word None = codes "-"

-- what one operation answered
abbrev pub op_answer_word : OpAnswer → List ℕ
op_answer_word (Value value) = decimal value
op_answer_word Absent = codes "-"
op_answer_word Done = codes "ok"
op_answer_word Yes = codes "yes"
op_answer_word No = codes "no"

-- what a transaction was answered: by its operations, by its keys' values, or its outcome
abbrev pub answer_words : Answer → List (List ℕ)
answer_words (Ops answers) = map op_answer_word answers
answer_words (Values values) = map value_word values
answer_words Committed = codes "committed" ∷ []
answer_words Aborted = codes "aborted" ∷ []

-- `submit I OP ; OP`, `general I lock K K ; CLAUSE`, `read I V V`, `answer I A A`, `told D I OUTCOME`
abbrev pub event_words : HistoryEvent → List (List ℕ)
event_words (event.Submit id (Whole ops)) = codes "submit" ∷ id_word id ∷ ops_words ops
event_words (event.Submit id (General plan)) = codes "general" ∷ id_word id ∷ plan_words plan
event_words (event.Read id values) = codes "read" ∷ id_word id ∷ map value_word values
event_words (event.Answer id answer) = codes "answer" ∷ id_word id ∷ answer_words answer
event_words (event.Told asker id outcome) = codes "told" ∷ decimal asker.0 ∷ id_word id ∷ answer_words outcome
