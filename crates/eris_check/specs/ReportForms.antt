-- How a line of a report behind its config is read.
use Rattle.std.specs.Prelude.{ℕ, ◌||◌, ◌&&◌, nat_le, not, Bool, true, Result, Ok, Err, List, [], ◌∷◌, bytes_eq, codes, if◌then◌else◌}
use Rattle.std.specs.List.{list_all}
use Rattle.eris_audit.specs.declared.outcome.Outcome.{Outcome}
use Rattle.eris_base.specs.declared.ids.ClientId.{ClientId}
use Rattle.eris_base.specs.declared.ids.ShardId.{ShardId}
use Rattle.eris_base.specs.declared.ids.TxnId.{TxnId}
use Rattle.eris_base.specs.ConfigLimits.{ConfigValue}
use Rattle.eris_base.specs.Places.{are_stamp_places}
use Rattle.eris_base.specs.Stamps.{StampValue}
use Rattle.eris_event.specs.declared.report.ReplicaState.{ReplicaState}
use Rattle.eris_grammar.specs.Fields.{count, number}
use Rattle.eris_grammar.specs.OpForms.{ops_of}
use Rattle.eris_grammar.specs.PlanForms.{plan_of}
use Rattle.eris_txn.specs.declared.answer.Answer.{Answer}
use Rattle.eris_txn.specs.declared.answer.Answer.TheVariants as answer
use Rattle.eris_txn.specs.declared.history.HistoryEvent.TheVariants as event
use Rattle.eris_txn.specs.declared.txn.Txn.TheVariants.{Whole, General}
use Rattle.eris_words.specs.declared.reason.Reason.{Reason}
use Rattle.eris_words.specs.declared.reason.Reason.TheVariants as reason
use Rattle.eris_words.specs.Forms.{Form, ◌>>=◌, ended, expect, is_next, pair, whole}
use Rattle.eris_check.specs.declared.fixed_words.LineWord.{LineWord}
use Rattle.eris_check.specs.declared.fixed_words.LineWord.TheVariants as w
use Rattle.eris_check.specs.declared.report_line.ReportLine.{ReportLine}
use Rattle.eris_check.specs.declared.report_line.ReportLine.TheVariants as line
use Rattle.eris_check.specs.ReportFields.{asker, few_items, id, items, labelled, read_op_answer, read_place, read_value, told}
use Rattle.eris_check.specs.ReportWords.{line_word, outcome, state}

-- THE CONFIG

-- the limits of a config, as a test
abbrev pub is_config : ConfigValue → Bool
is_config c = nat_le 1 c.shards && (nat_le c.shards 64 && (nat_le c.f 3 && (nat_le 1 c.clients && nat_le c.clients 128)))

abbrev pub if_config : ConfigValue → Result ConfigValue Reason
if_config c = if is_config c then Ok c else Err reason.Number

unfoldable pub sizes : Form (ℕ × (ℕ × ℕ))
sizes = pair (number 255) (pair (number 255) (number 255))

-- `config S F C`
unfoldable pub config_of : List (List ℕ) → Result ConfigValue Reason
config_of words =
    expect (codes "config") words >>= λ behind. whole sizes behind >>= λ s. if_config (record { shards = s.0; f = s.1.0; clients = s.1.1 })

-- THE HISTORY

-- `submit I OP ; OP`
unfoldable pub submit_of : List (List ℕ) → Result ReportLine Reason
submit_of words = id.read words >>= λ i. ops_of 2 i.1 >>= λ ops. Ok (line.Event (event.Submit i.0 (Whole ops)))

-- the word of a setting
abbrev pub is_setting_word : List ℕ → Bool
is_setting_word word = bytes_eq word (codes "set") || (bytes_eq word (codes "plus") || bytes_eq word (codes "minus"))

-- no word is that of a guard
abbrev pub have_no_guard : List (List ℕ) → Bool
have_no_guard words = list_all (λ word. not (bytes_eq word (codes "guard"))) words

-- no guard stands behind a setting
unfoldable pub guards_come_first : List (List ℕ) → Bool
guards_come_first [] = true
guards_come_first (word ∷ words) = if is_setting_word word then have_no_guard words else guards_come_first words

-- `general I` and a plan, its guards before its settings
unfoldable pub general_of : List (List ℕ) → List (List ℕ) → Result ReportLine Reason
general_of all words =
    if guards_come_first all
    then (id.read words >>= λ i. plan_of 2 i.1 >>= λ plan. Ok (line.Event (event.Submit i.0 (General plan))))
    else Err reason.Word

-- `read I V V`
unfoldable pub read_of : List (List ℕ) → Result ReportLine Reason
read_of words = id.read words >>= λ i. few_items read_value i.1 >>= λ values. Ok (line.Event (event.Read i.0 values))

-- an outcome, or an answer for each operation
unfoldable pub answer_of : List (List ℕ) → Result Answer Reason
answer_of words =
    if is_next (codes "committed") words || is_next (codes "aborted") words then whole told words
    else (few_items read_op_answer words >>= λ answers. Ok (answer.Ops answers))

-- `answer I A A`
unfoldable pub answered_of : List (List ℕ) → Result ReportLine Reason
answered_of words = id.read words >>= λ i. answer_of i.1 >>= λ a. Ok (line.Event (event.Answer i.0 a))

unfoldable pub asker_and_id : Form (ClientId × TxnId)
asker_and_id = pair asker id

-- `told D I OUTCOME`
unfoldable pub told_of : List (List ℕ) → Result ReportLine Reason
told_of words = asker_and_id.read words >>= λ p. whole told p.1 >>= λ o. Ok (line.Event (event.Told p.0.0 p.0.1 o))

-- THE ORDER

abbrev pub if_stamp : List (ShardId × ℕ) → Result (List (ShardId × ℕ)) Reason
if_stamp places = if are_stamp_places places then Ok places else Err reason.Number

abbrev pub places_of : List (List ℕ) → Result (List (ShardId × ℕ)) Reason
places_of words = items read_place words >>= if_stamp

-- `E S:N S:N`
unfoldable pub stamp_of : List (List ℕ) → Result StampValue Reason
stamp_of words = count.read words >>= λ e. places_of e.1 >>= λ places. Ok (record { epoch = record { 0 = e.0 }; places = places })

unfoldable pub id_and_outcome : Form (TxnId × Outcome)
id_and_outcome = pair id outcome

-- `order I OUTCOME E S:N S:N`
unfoldable pub order_of : List (List ℕ) → Result ReportLine Reason
order_of words =
    id_and_outcome.read words >>= λ p. stamp_of p.1 >>= λ s. Ok (line.Order (record { id = p.0.0; outcome = p.0.1; stamp = s }))

-- THE REPLICAS AND THE END

unfoldable pub replica_and_state : Form (ℕ × (ℕ × ReplicaState))
replica_and_state = pair (number 255) (pair (number 255) state)

unfoldable pub progress : Form (ℕ × (ℕ × (ℕ × (ℕ × ℕ))))
progress =
    pair (labelled (codes "epoch"))
    (pair (labelled (codes "view")) (pair (labelled (codes "held")) (pair (labelled (codes "length")) (labelled (codes "settled")))))

-- `replica S R STATE epoch E view V held H length L settled M`
unfoldable pub replica_of : List (List ℕ) → Result ReportLine Reason
replica_of words = whole (pair replica_and_state progress) words >>= λ p. Ok (line.Replica (record {
  shard = record { 0 = p.0.0 };
  replica = record { 0 = p.0.1.0 };
  state = p.0.1.1;
  epoch = record { 0 = p.1.0 };
  view = record { 0 = p.1.1.0 };
  held = p.1.1.1.0;
  length = p.1.1.1.1.0;
  settled = p.1.1.1.1.1;
}))

unfoldable pub counts : Form (ℕ × (ℕ × (ℕ × ℕ)))
counts =
    pair (labelled (codes "epoch")) (pair (labelled (codes "target")) (pair (labelled (codes "found")) (labelled (codes "dropped"))))

-- `coordinator epoch E target T found N dropped N`
unfoldable pub coordinator_of : List (List ℕ) → Result ReportLine Reason
coordinator_of words = whole counts words >>= λ c. Ok (line.Coordinator (record {
  current = record { 0 = c.0 };
  target = record { 0 = c.1.0 };
  found = c.1.1.0;
  dropped = c.1.1.1;
}))

-- `sent N`
unfoldable pub sent_of : List (List ℕ) → Result ReportLine Reason
sent_of words = whole count words >>= λ n. Ok (line.Sent n)

-- `end`
unfoldable pub end_of : List (List ℕ) → Result ReportLine Reason
end_of words = ended (line.End, words)

-- what a line says behind its first word; `all` are all of its words
unfoldable pub line_behind : List (List ℕ) → LineWord → List (List ℕ) → Result ReportLine Reason
line_behind all w.Submit words = submit_of words
line_behind all w.General words = general_of all words
line_behind all w.Read words = read_of words
line_behind all w.Answer words = answered_of words
line_behind all w.Told words = told_of words
line_behind all w.Order words = order_of words
line_behind all w.Replica words = replica_of words
line_behind all w.Coordinator words = coordinator_of words
line_behind all w.Sent words = sent_of words
line_behind all w.End words = end_of words

unfoldable pub line_of : List (List ℕ) → Result ReportLine Reason
line_of words = line_word.read words >>= λ asked. line_behind words asked.0 asked.1
