-- WHAT A SERIAL RUN HAS is in range: where the numbers of each transaction are, so is each value on the way, and each result.
use Rattle.std.proofs.Common.{◌≡◌, ◌<◌, ◌^◌, ℕ, Bool, true, false, cond, Option, Some, None, List, [], ◌∷◌, map, subst, arith}
use Rattle.std.specs.Prelude.{⊤}
use Rattle.std.proofs.lemmas.Bool.{cond_both}
use Rattle.eris_base.specs.declared.ids.TxnId.{TxnId}
use Rattle.eris_base.specs.Each.{Each}
use Rattle.eris_base.specs.TxnIds.{same_id}
use Rattle.eris_txn.specs.declared.answer.Answer.{Answer}
use Rattle.eris_txn.specs.declared.answer.Answer.TheVariants as answers
use Rattle.eris_txn.specs.declared.key.Key.{Key}
use Rattle.eris_txn.specs.declared.op.Op.{Op}
use Rattle.eris_txn.specs.declared.op.Op.TheVariants.{Get, Put, Del, Add, Cas}
use Rattle.eris_txn.specs.declared.op.OpAnswer.{OpAnswer}
use Rattle.eris_txn.specs.declared.op.OpAnswer.TheVariants.{Value, Absent, Done, Yes, No}
use Rattle.eris_txn.specs.declared.plan.How.{How}
use Rattle.eris_txn.specs.declared.plan.How.TheVariants as how
use Rattle.eris_txn.specs.declared.plan.Setting.{Setting}
use Rattle.eris_txn.specs.declared.txn.Txn.{Txn}
use Rattle.eris_txn.specs.declared.txn.Txn.TheVariants.{Whole, General}
use Rattle.eris_txn.specs.Keys.{Values, no_values, same_key, with_value}
use Rattle.eris_txn.specs.Operations.{after, after_all, answered, answers, has_value, key_of, left_by, sum_of, value_or_absent, yes_or_no}
use Rattle.eris_txn.specs.Plans.{set_by, settled}
use Rattle.eris_audit.specs.declared.outcome.Outcome.{Outcome}
use Rattle.eris_audit.specs.declared.outcome.Outcome.TheVariants as outcomes
use Rattle.eris_audit.specs.Lines.{Line}
use Rattle.eris_audit.specs.SerialRun.{left_by_txn, result_in, result_of}

-- ---- numbers of 64 bits
abbrev pub ValueFits : Option ℕ → Type 0
ValueFits None = ⊤
ValueFits (Some value) = value < 2 ^ 64

abbrev pub ValuesFit : Values → Type 0
ValuesFit values = (key : Key) → ValueFits (values key)

abbrev pub OpAnswerFits : OpAnswer → Type 0
OpAnswerFits (Value value) = value < 2 ^ 64
OpAnswerFits Absent = ⊤
OpAnswerFits Done = ⊤
OpAnswerFits Yes = ⊤
OpAnswerFits No = ⊤

abbrev pub AnswerFits : Answer → Type 0
AnswerFits (answers.Ops items) = Each OpAnswerFits items
AnswerFits (answers.Values items) = Each ValueFits items
AnswerFits answers.Committed = ⊤
AnswerFits answers.Aborted = ⊤

-- the number that an operation or a setting may leave at its key
abbrev pub OpFits : Op → Type 0
OpFits (Get key) = ⊤
OpFits (Put key value) = value < 2 ^ 64
OpFits (Del key) = ⊤
OpFits (Add key more) = ⊤
OpFits (Cas key expected value) = value < 2 ^ 64

abbrev pub HowFits : How → Type 0
HowFits (how.Put value) = value < 2 ^ 64
HowFits (how.Plus more) = ⊤
HowFits (how.Minus less) = ⊤

abbrev pub NumbersFit : Txn → Type 0
NumbersFit (Whole operations) = Each OpFits operations
NumbersFit (General plan) = Each (λ (setting : Setting). HowFits setting.how) plan.settings

-- ---- operations
sum_fits : (before : Option ℕ) (more : ℕ) → sum_of before more < 2 ^ 64
sum_fits None more = omega arith
sum_fits (Some value) more = omega arith

left_fits : (op : Op) (before : Option ℕ) → OpFits op → ValueFits before → ValueFits (left_by op before)
left_fits (Get key) before h k = k
left_fits (Put key value) before h k = h
left_fits (Del key) before h k = tt
left_fits (Add key more) before h k = sum_fits before more
left_fits (Cas key expected value) before h k = cond_both (has_value before expected) (Some value) before ValueFits (λ e. h) (λ e. k)

with_fits : (key : Key) (value : Option ℕ) (values : Values) → ValueFits value → ValuesFit values → ValuesFit (with_value key value values)
with_fits key value values h k = λ other. cond_both (same_key key other) value (values other) ValueFits (λ e. h) (λ e. k other)

after_fits : (op : Op) (values : Values) → OpFits op → ValuesFit values → ValuesFit (after op values)
after_fits op values h k = with_fits (key_of op) (left_by op (values (key_of op))) values (left_fits op (values (key_of op)) h (k (key_of op))) k

after_all_fits : (ops : List Op) (values : Values) → Each OpFits ops → ValuesFit values → ValuesFit (after_all ops values)
after_all_fits [] values h k = k
after_all_fits (op ∷ ops) values h k = after_all_fits ops (after op values) h.1 (after_fits op values h.0 k)

read_fits : (before : Option ℕ) → ValueFits before → OpAnswerFits (value_or_absent before)
read_fits None k = tt
read_fits (Some value) k = k

said_fits : (said : Bool) → OpAnswerFits (yes_or_no said)
said_fits true = tt
said_fits false = tt

answered_fits : (op : Op) (before : Option ℕ) → ValueFits before → OpAnswerFits (answered op before)
answered_fits (Get key) before k = read_fits before k
answered_fits (Put key value) before k = tt
answered_fits (Del key) before k = said_fits _
answered_fits (Add key more) before k = sum_fits before more
answered_fits (Cas key expected value) before k = said_fits _

answers_fit : (ops : List Op) (values : Values) → Each OpFits ops → ValuesFit values → Each OpAnswerFits (answers ops values)
answers_fit [] values h k = tt
answers_fit (op ∷ ops) values h k = (answered_fits op (values (key_of op)) (k (key_of op)), answers_fit ops (after op values) h.1 (after_fits op values h.0 k))

-- ---- plans
set_fits : (how : How) (before : Option ℕ) → HowFits how → set_by how before < 2 ^ 64
set_fits (how.Put value) before h = h
set_fits (how.Plus more) before h = sum_fits before more
set_fits (how.Minus less) None h = omega arith
set_fits (how.Minus less) (Some value) h = omega arith

settled_fits : (settings : List Setting) (values : Values) → Each (λ (setting : Setting). HowFits setting.how) settings → ValuesFit values → ValuesFit (settled settings values)
settled_fits [] values h k = k
settled_fits (setting ∷ settings) values h k =
    settled_fits settings (with_value setting.key (Some (set_by setting.how (values setting.key))) values) h.1
    (with_fits setting.key (Some (set_by setting.how (values setting.key))) values (set_fits setting.how (values setting.key) h.0) k)

values_fit : (keys : List Key) (values : Values) → ValuesFit values → Each ValueFits (map values keys)
values_fit [] values k = tt
values_fit (key ∷ keys) values k = (k key, values_fit keys values k)

-- ---- the serial run
txn_leaves : (txn : Txn) (outcome : Outcome) (values : Values) → NumbersFit txn → ValuesFit values → ValuesFit (left_by_txn txn outcome values)
txn_leaves (Whole operations) outcome values h k = after_all_fits operations values h k
txn_leaves (General plan) outcomes.Committed values h k = settled_fits plan.settings values h k
txn_leaves (General plan) outcomes.Done values h k = k
txn_leaves (General plan) outcomes.Aborted values h k = k
txn_leaves (General plan) outcomes.Pending values h k = k

result_fits : (txn : Txn) (values : Values) → NumbersFit txn → ValuesFit values → AnswerFits (result_of txn values)
result_fits (Whole operations) values h k = answers_fit operations values h k
result_fits (General plan) values h k = values_fit plan.keys values k

-- EACH RESULT of a serial run is in range
pub results_fit : (txn : TxnId → Txn) → ((id : TxnId) → NumbersFit (txn id)) → (lines : List Line) (values : Values) → ValuesFit values
    → (id : TxnId) (answer : Answer) → result_in txn lines values id ≡ Some answer → AnswerFits answer
results_fit txn h [] values k id answer is = absurd cc
results_fit txn h (line ∷ lines) values k id answer is =
    by_test (same_id line.id id) is (results_fit txn h lines (left_by_txn (txn line.id) line.outcome values) (txn_leaves (txn line.id) line.outcome values (h line.id) k) id answer)
  where
    by_test : (test : Bool) → cond test (Some (result_of (txn line.id) values)) (result_in txn lines (left_by_txn (txn line.id) line.outcome values) id) ≡ Some answer
        → (result_in txn lines (left_by_txn (txn line.id) line.outcome values) id ≡ Some answer → AnswerFits answer) → AnswerFits answer
    by_test true is rest = let same : result_of (txn line.id) values ≡ answer = cc in subst AnswerFits same (result_fits (txn line.id) values (h line.id) k)
    by_test false is rest = rest is

pub none_fit : ValuesFit no_values
none_fit = λ key. tt
