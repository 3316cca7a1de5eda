-- A HISTORY IN RANGE: where what was submitted is, whoever was told is a client, there is evidence for the history and it is
-- serial, each of its events is in range. Evidence says how many answers there are and that each id was submitted; the serial run
-- has the answers.
use Rattle.std.proofs.Common.{◌≡◌, ◌<◌, ◌≤◌, ◌&&◌, ◌^◌, ◌-◌, inl, inr, ℕ, suc, Bool, true, false, cond, nat_le, nat_lt, length, Option, Some, None, List, [], ◌∷◌, refl, ap, sym, subst, arith}
use Rattle.std.specs.Prelude.{⊤, unwrap_or}
use Rattle.std.specs.List.{list_all}
use Rattle.std.proofs.lemmas.Bool.{and_from, and_parts, le-leb, leb-true, lt-ltb}
use Rattle.eris_base.specs.declared.ids.ClientId.{ClientId}
use Rattle.eris_base.specs.declared.ids.TxnId.{TxnId}
use Rattle.eris_base.specs.Each.{Each}
use Rattle.eris_base.specs.TxnIds.{same_id}
use Rattle.eris_base.proofs.TxnIdLaws.{same_id-true}
use Rattle.eris_txn.specs.declared.answer.Answer.{Answer}
use Rattle.eris_txn.specs.declared.answer.Answer.TheVariants as answers
use Rattle.eris_txn.specs.declared.history.HistoryEvent.{HistoryEvent}
use Rattle.eris_txn.specs.declared.history.HistoryEvent.TheVariants.{Submit, Read, Answer as Answered, Told}
use Rattle.eris_txn.specs.declared.op.Op.{Op}
use Rattle.eris_txn.specs.declared.op.Op.TheVariants.{Get, Put, Del, Add, Cas}
use Rattle.eris_txn.specs.declared.op.OpAnswer.{OpAnswer}
use Rattle.eris_txn.specs.declared.op.OpAnswer.TheVariants.{Value, Absent, Done, Yes, No}
use Rattle.eris_txn.specs.declared.packet.Packet.{Packet}
use Rattle.eris_txn.specs.declared.plan.How.{How}
use Rattle.eris_txn.specs.declared.plan.How.TheVariants as how
use Rattle.eris_txn.specs.declared.plan.Setting.{Setting}
use Rattle.eris_txn.specs.declared.txn.Txn.{Txn}
use Rattle.eris_txn.specs.declared.txn.Txn.TheVariants.{Whole, General}
use Rattle.eris_txn.specs.Keys.{no_values}
use Rattle.eris_txn.specs.PlanValues.{PlanValue}
use Rattle.eris_audit.specs.Histories.{first_submit, txn_of}
use Rattle.eris_audit.specs.IsSerial.{EqualsRun, IsAnswer, IsOutcome, IsSerial, IsToldOutcome}
use Rattle.eris_audit.specs.Lines.{Line}
use Rattle.eris_event.specs.EventRanges.{fits_key, fits_op, fits_setting, fits_value, number_of}
use Rattle.eris_report_range.specs.ReportRanges.{is_ranged_answer, is_ranged_client, is_ranged_event, is_ranged_id, is_ranged_length, is_ranged_op_answer, is_ranged_outcome, is_ranged_txn, is_ranged_value}
use Rattle.eris_serial.specs.Evidence.{AnswerEvidence, ByOutcome, ByRefusal, ByWhole, Counted, Evidence, OutcomeEvidence, ReadEvidence, WholeEvidence}
use Rattle.eris_serial.specs.Shares.{OneForEach}
use Rattle.eris_serial.proofs.Runnable.{sized_can_run}
use Rattle.eris_law_report.proofs.Results.{AnswerFits, HowFits, NumbersFit, OpAnswerFits, OpFits, ValueFits, none_fit, results_fit}
use Rattle.eris_law_report.proofs.Versions.{plan_parts}

-- ---- what is asked of the events
abbrev pub SubmitFits : HistoryEvent → Type 0
SubmitFits (Submit id txn) = (is_ranged_id id ≡ true) × (is_ranged_txn txn ≡ true)
SubmitFits (Read id values) = ⊤
SubmitFits (Answered id answer) = ⊤
SubmitFits (Told asker id answer) = ⊤

abbrev pub AskerFits : HistoryEvent → Type 0
AskerFits (Submit id txn) = ⊤
AskerFits (Read id values) = ⊤
AskerFits (Answered id answer) = ⊤
AskerFits (Told asker id answer) = is_ranged_client asker ≡ true

-- ---- the numbers of a transaction in range
value_below : (value : ℕ) → fits_value value ≡ true → value < 2 ^ 64
value_below value h = let le = leb-true value (2 ^ 64 - 1) h in omega (arith, le)

value_ranged : (value : ℕ) → value < 2 ^ 64 → fits_value value ≡ true
value_ranged value lt = le-leb value (2 ^ 64 - 1) (omega (arith, lt))

op_numbers : (op : Op) → fits_op 2 op ≡ true → OpFits op
op_numbers (Get key) h = tt
op_numbers (Put key value) h = value_below value (and_parts (fits_key 2 key) (fits_value value) h).1
op_numbers (Del key) h = tt
op_numbers (Add key more) h = tt
op_numbers (Cas key expected value) h =
    value_below value (and_parts (fits_value expected) (fits_value value) (and_parts (fits_key 2 key) (fits_value expected && fits_value value) h).1).1

ops_numbers : (ops : List Op) → list_all (fits_op 2) ops ≡ true → Each OpFits ops
ops_numbers [] h = tt
ops_numbers (op ∷ ops) h = let parts = and_parts (fits_op 2 op) (list_all (fits_op 2) ops) h in (op_numbers op parts.0, ops_numbers ops parts.1)

how_numbers : (made : How) → fits_value (number_of made) ≡ true → HowFits made
how_numbers (how.Put value) h = value_below value h
how_numbers (how.Plus more) h = tt
how_numbers (how.Minus less) h = tt

settings_numbers : (settings : List Setting) → list_all (fits_setting 2) settings ≡ true → Each (λ (setting : Setting). HowFits setting.how) settings
settings_numbers [] h = tt
settings_numbers (setting ∷ settings) h =
    let parts = and_parts (fits_setting 2 setting) (list_all (fits_setting 2) settings) h in
    (how_numbers setting.how (and_parts (fits_key 2 setting.key) (fits_value (number_of setting.how)) parts.0).1, settings_numbers settings parts.1)

txn_numbers : (txn : Txn) → is_ranged_txn txn ≡ true → NumbersFit txn
txn_numbers (Whole ops) h = ops_numbers ops (and_parts (nat_lt 0 (length ops) && nat_le (length ops) 32) (list_all (fits_op 2) ops) h).1
txn_numbers (General plan) h = settings_numbers plan.settings (plan_parts 2 plan h).settings

-- ---- how many there are
length_ranged : (count : ℕ) → 0 < count → count ≤ 32 → is_ranged_length count ≡ true
length_ranged count some few = and_from (nat_lt 0 count) (nat_le count 32) (lt-ltb 0 count some) (le-leb count 32 few)

ops_length : (ops : List Op) → is_ranged_txn (Whole ops) ≡ true → is_ranged_length (length ops) ≡ true
ops_length ops h = (and_parts (nat_lt 0 (length ops) && nat_le (length ops) 32) (list_all (fits_op 2) ops) h).0

some_item : {X : Type 0} (xs : List X) → (xs ≡ [] → ⊥) → 0 < length xs
some_item [] h = absurd (h refl)
some_item (x ∷ xs) h = omega arith

keys_length : (plan : PlanValue) → is_ranged_txn (General plan) ≡ true → is_ranged_length (length plan.keys) ≡ true
keys_length plan h =
    let parts = plan_parts 2 plan h in
    length_ranged (length plan.keys) (some_item plan.keys (sized_can_run (General plan) parts.sound).some_key) (leb-true (length plan.keys) 32 parts.few_keys)

one_length : {X A : Type 0} (places : List X) (items : List A) → OneForEach places items → length items ≡ length places
one_length [] [] h = refl
one_length [] (item ∷ items) h = absurd h
one_length (place ∷ places) [] h = absurd h
one_length (place ∷ places) (item ∷ items) h = ap suc (one_length places items h)

-- ---- what results fit
value_test : (value : Option ℕ) → ValueFits value → is_ranged_value value ≡ true
value_test None h = refl
value_test (Some value) h = value_ranged value h

values_test : (values : List (Option ℕ)) → Each ValueFits values → list_all is_ranged_value values ≡ true
values_test [] h = refl
values_test (value ∷ values) h = and_from (is_ranged_value value) (list_all is_ranged_value values) (value_test value h.0) (values_test values h.1)

op_answer_test : (answer : OpAnswer) → OpAnswerFits answer → is_ranged_op_answer answer ≡ true
op_answer_test (Value value) h = value_ranged value h
op_answer_test Absent h = refl
op_answer_test Done h = refl
op_answer_test Yes h = refl
op_answer_test No h = refl

op_answers_test : (answers : List OpAnswer) → Each OpAnswerFits answers → list_all is_ranged_op_answer answers ≡ true
op_answers_test [] h = refl
op_answers_test (answer ∷ answers) h =
    and_from (is_ranged_op_answer answer) (list_all is_ranged_op_answer answers) (op_answer_test answer h.0) (op_answers_test answers h.1)

outcome_test : (lines : List Line) (id : TxnId) (answer : Answer) → IsOutcome lines id answer → is_ranged_outcome answer ≡ true
outcome_test lines id answers.Committed h = refl
outcome_test lines id answers.Aborted h = refl
outcome_test lines id (answers.Ops items) h = absurd h
outcome_test lines id (answers.Values items) h = absurd h

outcome_answers : (answer : Answer) → is_ranged_outcome answer ≡ true → is_ranged_answer answer ≡ true
outcome_answers answers.Committed h = refl
outcome_answers answers.Aborted h = refl
outcome_answers (answers.Ops items) h = absurd cc
outcome_answers (answers.Values items) h = absurd cc

-- ---- what was submitted
abbrev pub IsRanged : TxnId → Txn → Type 0
IsRanged id txn = (is_ranged_id id ≡ true) × (is_ranged_txn txn ≡ true)

found_submit : (history : List HistoryEvent) → Each SubmitFits history → (id : TxnId) (txn : Txn) → first_submit history id ≡ Some txn → IsRanged id txn
found_submit [] h id txn is = absurd cc
found_submit (Submit other made ∷ history) h id txn is = by_test (same_id other id) refl is (found_submit history h.1 id txn)
  where
    by_test : (test : Bool) → same_id other id ≡ test → cond test (Some made) (first_submit history id) ≡ Some txn → (first_submit history id ≡ Some txn → IsRanged id txn) → IsRanged id txn
    by_test true e k rest =
        let same : made ≡ txn = cc in
        let one : other ≡ id = same_id-true other id e in
        (subst (λ (z : TxnId). is_ranged_id z ≡ true) one h.0.0, subst (λ (z : Txn). is_ranged_txn z ≡ true) same h.0.1)
    by_test false e k rest = rest k
found_submit (Read other values ∷ history) h id txn is = found_submit history h.1 id txn is
found_submit (Answered other answer ∷ history) h id txn is = found_submit history h.1 id txn is
found_submit (Told asker other answer ∷ history) h id txn is = found_submit history h.1 id txn is

module _ (history : List HistoryEvent) (submits : Each SubmitFits history) where
  -- the numbers of every transaction fit; one that wasn't submitted has none
  all_numbers : (id : TxnId) → NumbersFit (txn_of history id)
  all_numbers id = by_found (first_submit history id) refl
    where
      by_found : (found : Option Txn) → first_submit history id ≡ found → NumbersFit (unwrap_or found (Whole []))
      by_found None e = tt
      by_found (Some txn) e = txn_numbers txn (found_submit history submits id txn e).1

  -- an id whose transaction does something was submitted
  of_txn : (id : TxnId) (txn : Txn) → (Whole [] ≡ txn → ⊥) → txn_of history id ≡ txn → IsRanged id txn
  of_txn id txn some is = by_found (first_submit history id) refl is
    where
      by_found : (found : Option Txn) → first_submit history id ≡ found → unwrap_or found (Whole []) ≡ txn → IsRanged id txn
      by_found None e k = absurd (some k)
      by_found (Some made) e k = subst (IsRanged id) k (found_submit history submits id made e)

  of_general : (id : TxnId) (plan : PlanValue) → txn_of history id ≡ General plan → IsRanged id (General plan)
  of_general id plan is = of_txn id (General plan) (λ e. cc) is

  of_whole : (id : TxnId) (ops : List Op) → (ops ≡ [] → ⊥) → txn_of history id ≡ Whole ops → IsRanged id (Whole ops)
  of_whole id ops some is = of_txn id (Whole ops) (λ e. let none : ops ≡ [] = cc in some none) is

  module _ (packets : List Packet) (lines : List Line) where
    answer_of_whole : (id : TxnId) (answer : Answer) → WholeEvidence (txn_of history) id answer packets → IsAnswer history lines id answer (txn_of history id)
        → (is_ranged_id id && is_ranged_answer answer) ≡ true
    answer_of_whole id answer from equal =
        let ranged = of_whole id from.operations from.some_operation from.is in
        let result = subst (IsAnswer history lines id answer) from.is equal in
        let fits = subst AnswerFits from.answer_is (results_fit (txn_of history) all_numbers lines no_values none_fit id answer result) in
        let count = one_length from.operations from.answers from.each in
        and_from (is_ranged_id id) (is_ranged_answer answer) ranged.0
        (subst (λ (z : Answer). is_ranged_answer z ≡ true) (sym from.answer_is)
        (and_from (is_ranged_length (length from.answers)) (list_all is_ranged_op_answer from.answers)
        (subst (λ (n : ℕ). is_ranged_length n ≡ true) (sym count) (ops_length from.operations ranged.1))
        (op_answers_test from.answers fits)))

    answer_of_outcome : (id : TxnId) (answer : Answer) → OutcomeEvidence (txn_of history) id answer packets → IsAnswer history lines id answer (txn_of history id)
        → (is_ranged_id id && is_ranged_answer answer) ≡ true
    answer_of_outcome id answer from equal =
        let ranged = of_general id from.plan from.is in
        let outcome = subst (IsAnswer history lines id answer) from.is equal in
        and_from (is_ranged_id id) (is_ranged_answer answer) ranged.0 (outcome_answers answer (outcome_test lines id answer outcome))

    answer_fits : (id : TxnId) (answer : Answer) → AnswerEvidence history id answer packets → IsAnswer history lines id answer (txn_of history id)
        → (is_ranged_id id && is_ranged_answer answer) ≡ true
    answer_fits id answer (ByWhole from) equal = answer_of_whole id answer from equal
    answer_fits id answer (ByRefusal from) equal =
        and_from (is_ranged_id id) (is_ranged_answer answer) (of_general id from.plan from.is).0
        (subst (λ (z : Answer). is_ranged_answer z ≡ true) (sym from.answer_is) refl)
    answer_fits id answer (ByOutcome from) equal = answer_of_outcome id answer from.outcome equal

    read_fits : (id : TxnId) (values : List (Option ℕ)) → ReadEvidence (txn_of history) id values packets → EqualsRun history lines (Read id values) → is_ranged_event (Read id values) ≡ true
    read_fits id values from equal =
        let ranged = of_general id from.plan from.is in
        let count = one_length from.plan.keys values from.each in
        and_from (is_ranged_id id) (is_ranged_length (length values) && list_all is_ranged_value values) ranged.0
        (and_from (is_ranged_length (length values)) (list_all is_ranged_value values)
        (subst (λ (n : ℕ). is_ranged_length n ≡ true) (sym count) (keys_length from.plan ranged.1))
        (values_test values (results_fit (txn_of history) all_numbers lines no_values none_fit id (answers.Values values) equal)))

    told_test : (id : TxnId) (answer : Answer) (asker : ClientId) → IsToldOutcome lines (Told asker id answer) → is_ranged_outcome answer ≡ true
    told_test id answer asker (inl outcome) = outcome_test lines id answer outcome
    told_test id answer asker (inr aborted) = subst (λ (z : Answer). is_ranged_outcome z ≡ true) (sym aborted.0) refl

    event_fits : (event : HistoryEvent) → SubmitFits event → AskerFits event → Counted history packets event → EqualsRun history lines event → IsToldOutcome lines event
        → is_ranged_event event ≡ true
    event_fits (Submit id txn) submit asker counted equal told = and_from (is_ranged_id id) (is_ranged_txn txn) submit.0 submit.1
    event_fits (Read id values) submit asker counted equal told = read_fits id values counted equal
    event_fits (Answered id answer) submit asker counted equal told = answer_fits id answer counted equal
    event_fits (Told who id answer) submit asker counted equal told =
        and_from (is_ranged_client who) (is_ranged_id id && is_ranged_outcome answer) asker
        (and_from (is_ranged_id id) (is_ranged_outcome answer) (of_general id counted.plan counted.is).0 (told_test id answer who told))

    each_fits : (events : List HistoryEvent) → Each SubmitFits events → Each AskerFits events → Each (Counted history packets) events → Each (EqualsRun history lines) events
        → Each (IsToldOutcome lines) events → list_all is_ranged_event events ≡ true
    each_fits [] submits askers counted equal told = refl
    each_fits (event ∷ events) submits askers counted equal told =
        and_from (is_ranged_event event) (list_all is_ranged_event events) (event_fits event submits.0 askers.0 counted.0 equal.0 told.0)
        (each_fits events submits.1 askers.1 counted.1 equal.1 told.1)

-- EACH EVENT IS IN RANGE
pub history_fits : (history : List HistoryEvent) (packets : List Packet) (lines : List Line) → Each SubmitFits history → Each AskerFits history → Evidence history packets → IsSerial history lines
    → list_all is_ranged_event history ≡ true
history_fits history packets lines submits askers evidence serial =
    each_fits history submits packets lines history submits askers evidence.counted serial.equal serial.told
