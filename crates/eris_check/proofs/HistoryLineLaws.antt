-- The lines of the history are read as just what they spell.
use Rattle.std.proofs.Common.{◌≡◌, ◌∙◌, ◌&&◌, ◌||◌, ℕ, Bool, true, false, cond, codes, Option, Ok, Err, List, [], ◌∷◌, length, map, refl, sym, ap, subst}
use Rattle.std.specs.List.{list_all}
use Rattle.std.proofs.lemmas.Bool.{and_from}
use Rattle.eris_base.proofs.Booleans.{left_of, right_of}
use Rattle.eris_base.specs.declared.ids.ClientId.{ClientId}
use Rattle.eris_base.specs.declared.ids.TxnId.{TxnId}
use Rattle.eris_txn.specs.declared.answer.Answer.{Answer}
use Rattle.eris_txn.specs.declared.answer.Answer.TheVariants as answer
use Rattle.eris_txn.specs.declared.history.HistoryEvent.TheVariants as event
use Rattle.eris_txn.specs.declared.op.Op.{Op}
use Rattle.eris_txn.specs.declared.op.OpAnswer.{OpAnswer}
use Rattle.eris_txn.specs.declared.op.OpAnswer.TheVariants.{Value, Absent, Done, Yes, No}
use Rattle.eris_txn.specs.declared.txn.Txn.TheVariants.{Whole, General}
use Rattle.eris_txn.specs.PlanValues.{PlanValue}
use Rattle.eris_event.specs.EventRanges.{are_ops, is_plan}
use Rattle.eris_grammar.specs.OpForms.{ops_of}
use Rattle.eris_grammar.specs.PlanForms.{plan_of}
use Rattle.eris_grammar.proofs.OpListLaws.{ops_again, ops_take}
use Rattle.eris_grammar.proofs.PlanLaws.{plan_again, plan_printed, plan_take}
use Rattle.eris_report.specs.HistoryText.{answer_words, op_answer_word, value_word}
use Rattle.eris_report_range.specs.ReportRanges.{is_ranged_answer, is_ranged_client, is_ranged_id, is_ranged_length, is_ranged_op_answer, is_ranged_outcome, is_ranged_value}
use Rattle.eris_words.specs.declared.reason.Reason.TheVariants as reason
use Rattle.eris_words.specs.Decimal.{decimal}
use Rattle.eris_words.specs.Forms.{◌>>=◌, is_next, whole}
use Rattle.eris_words.specs.OpText.{ops_words}
use Rattle.eris_words.specs.PlanText.{plan_words}
use Rattle.eris_words.specs.Words.{id_word}
use Rattle.eris_words.proofs.FormLaws.{bind_ok, ok_is}
use Rattle.eris_check.specs.declared.report_line.ReportLine.{ReportLine}
use Rattle.eris_check.specs.declared.report_line.ReportLine.TheVariants as line
use Rattle.eris_check.specs.ReportFields.{asker, few_items, id, read_op_answer, read_value, told}
use Rattle.eris_check.specs.ReportForms.{answer_of, answered_of, asker_and_id, general_of, guards_come_first, read_of, submit_of, told_of}
use Rattle.eris_check.proofs.FieldLaws.{few_again, few_take, number_other, op_answer_item, value_item}
use Rattle.eris_check.proofs.LineFieldLaws.{Said, asker_again, asker_taken, id_again, id_begins, id_taken, outcome_again, outcome_taken}
use Rattle.eris_check.proofs.PlanOrderLaws.{past_digit, plan_in_order, plan_is_in_order}

abbrev submitted : TxnId → List Op → ReportLine
submitted i ops = line.Event (event.Submit i (Whole ops))

abbrev general : TxnId → PlanValue → ReportLine
general i plan = line.Event (event.Submit i (General plan))

abbrev was_read : TxnId → List (Option ℕ) → ReportLine
was_read i values = line.Event (event.Read i values)

abbrev answered : TxnId → Answer → ReportLine
answered i a = line.Event (event.Answer i a)

abbrev was_told : ClientId → TxnId → Answer → ReportLine
was_told c i a = line.Event (event.Told c i a)

-- `submit I OP ; OP`

pub submit_takes : (words : List (List ℕ)) (v : ReportLine) → submit_of words ≡ Ok v → Said (codes "submit" ∷ words) v
unfolding submit_of
submit_takes words v read =
    let a = bind_ok (id.read words) (λ i. ops_of 2 i.1 >>= λ ops. Ok (submitted i.0 ops)) v read in
    let b = bind_ok (ops_of 2 a.0.1) (λ ops. Ok (submitted a.0.0 ops)) v a.2 in
    let t = id_taken words a.0.0 a.0.1 a.1 in
    let u = ops_take 2 a.0.1 b.0 b.1 in
    let made : Said (codes "submit" ∷ words) (submitted a.0.0 b.0) = record {
      spelled = ap (λ (z : List (List ℕ)). codes "submit" ∷ z) (t.0 ∙ ap (λ (z : List (List ℕ)). id_word a.0.0 ∷ z) u.parts);
      fits = and_from (is_ranged_id a.0.0) (are_ops 2 b.0) t.1 u.fits;
    } in
    subst (λ (z : ReportLine). Said (codes "submit" ∷ words) z) (ok_is (submitted a.0.0 b.0) v b.2) made

pub submit_again : (i : TxnId) (ops : List Op) → (is_ranged_id i && are_ops 2 ops) ≡ true → submit_of (id_word i ∷ ops_words ops) ≡ Ok (submitted i ops)
unfolding submit_of
submit_again i ops fits =
    ap (λ r. ◌>>=◌ {B = ReportLine} r (λ i. ops_of 2 i.1 >>= λ ops. Ok (submitted i.0 ops))) (id_again i (ops_words ops) (left_of (is_ranged_id i) (are_ops 2 ops) fits))
    ∙ ap (λ r. ◌>>=◌ {B = ReportLine} r (λ ops. Ok (submitted i ops))) (ops_again 2 ops (right_of (is_ranged_id i) (are_ops 2 ops) fits))

-- `general I` and a plan

plan_takes : (words : List (List ℕ)) (v : ReportLine) → guards_come_first (codes "general" ∷ words) ≡ true →
    (id.read words >>= λ i. plan_of 2 i.1 >>= λ plan. Ok (general i.0 plan)) ≡ Ok v → Said (codes "general" ∷ words) v
unfolding guards_come_first
plan_takes words v first read =
    let a = bind_ok (id.read words) (λ i. plan_of 2 i.1 >>= λ plan. Ok (general i.0 plan)) v read in
    let b = bind_ok (plan_of 2 a.0.1) (λ plan. Ok (general a.0.0 plan)) v a.2 in
    let t = id_taken words a.0.0 a.0.1 a.1 in
    let u = plan_take 2 a.0.1 b.0 b.1 in
    let behind : guards_come_first a.0.1 ≡ true = sym (ap guards_come_first t.0 ∙ past_digit (id_word a.0.0) a.0.1 (id_begins a.0.0 t.1)) ∙ first in
    let own = plan_in_order a.0.1 b.0 u.spelled u.fits behind in
    let made : Said (codes "general" ∷ words) (general a.0.0 b.0) = record {
      spelled = ap (λ (z : List (List ℕ)). codes "general" ∷ z) (t.0 ∙ ap (λ (z : List (List ℕ)). id_word a.0.0 ∷ z) own);
      fits = and_from (is_ranged_id a.0.0) (is_plan 2 b.0) t.1 u.fits;
    } in
    subst (λ (z : ReportLine). Said (codes "general" ∷ words) z) (ok_is (general a.0.0 b.0) v b.2) made

pub general_takes : (words : List (List ℕ)) (v : ReportLine) → general_of (codes "general" ∷ words) words ≡ Ok v → Said (codes "general" ∷ words) v
unfolding general_of
general_takes words v read = of_test (guards_come_first (codes "general" ∷ words)) refl read
  where
    of_test : (test : Bool) → test ≡ guards_come_first (codes "general" ∷ words) →
        cond test (id.read words >>= λ i. plan_of 2 i.1 >>= λ plan. Ok (general i.0 plan)) (Err reason.Word) ≡ Ok v → Said (codes "general" ∷ words) v
    of_test true is found = plan_takes words v (sym is) found
    of_test false is found = absurd cc

in_order : (i : TxnId) (plan : PlanValue) → (is_ranged_id i && is_plan 2 plan) ≡ true → guards_come_first (codes "general" ∷ id_word i ∷ plan_words plan) ≡ true
unfolding guards_come_first
in_order i plan fits =
    past_digit (id_word i) (plan_words plan) (id_begins i (left_of (is_ranged_id i) (is_plan 2 plan) fits))
    ∙ plan_is_in_order plan (right_of (is_ranged_id i) (is_plan 2 plan) fits)

pub general_again : (i : TxnId) (plan : PlanValue) → (is_ranged_id i && is_plan 2 plan) ≡ true →
    general_of (codes "general" ∷ id_word i ∷ plan_words plan) (id_word i ∷ plan_words plan) ≡ Ok (general i plan)
unfolding general_of
general_again i plan fits =
    ap (λ test. cond test (id.read (id_word i ∷ plan_words plan) >>= λ i. plan_of 2 i.1 >>= λ plan. Ok (general i.0 plan)) (Err reason.Word)) (in_order i plan fits)
    ∙ ap (λ r. ◌>>=◌ {B = ReportLine} r (λ i. plan_of 2 i.1 >>= λ plan. Ok (general i.0 plan))) (id_again i (plan_words plan) (left_of (is_ranged_id i) (is_plan 2 plan) fits))
    ∙ ap (λ r. ◌>>=◌ {B = ReportLine} r (λ plan. Ok (general i plan))) (plan_again 2 (plan_words plan) plan (plan_printed plan) (right_of (is_ranged_id i) (is_plan 2 plan) fits))

-- `read I V V`

abbrev are_values : List (Option ℕ) → Bool
are_values values = is_ranged_length (length values) && list_all is_ranged_value values

pub read_takes : (words : List (List ℕ)) (v : ReportLine) → read_of words ≡ Ok v → Said (codes "read" ∷ words) v
unfolding read_of
read_takes words v read =
    let a = bind_ok (id.read words) (λ i. few_items read_value i.1 >>= λ values. Ok (was_read i.0 values)) v read in
    let b = bind_ok (few_items read_value a.0.1) (λ values. Ok (was_read a.0.0 values)) v a.2 in
    let t = id_taken words a.0.0 a.0.1 a.1 in
    let u = few_take value_word read_value is_ranged_value value_item a.0.1 b.0 b.1 in
    let made : Said (codes "read" ∷ words) (was_read a.0.0 b.0) = record {
      spelled = ap (λ (z : List (List ℕ)). codes "read" ∷ z) (t.0 ∙ ap (λ (z : List (List ℕ)). id_word a.0.0 ∷ z) u.0);
      fits = and_from (is_ranged_id a.0.0) (are_values b.0) t.1 u.1;
    } in
    subst (λ (z : ReportLine). Said (codes "read" ∷ words) z) (ok_is (was_read a.0.0 b.0) v b.2) made

pub read_again : (i : TxnId) (values : List (Option ℕ)) → (is_ranged_id i && are_values values) ≡ true → read_of (id_word i ∷ map value_word values) ≡ Ok (was_read i values)
unfolding read_of
read_again i values fits =
    ap (λ r. ◌>>=◌ {B = ReportLine} r (λ i. few_items read_value i.1 >>= λ values. Ok (was_read i.0 values)))
    (id_again i (map value_word values) (left_of (is_ranged_id i) (are_values values) fits))
    ∙ ap (λ r. ◌>>=◌ {B = ReportLine} r (λ values. Ok (was_read i values)))
    (few_again value_word read_value is_ranged_value value_item values (right_of (is_ranged_id i) (are_values values) fits))

-- `answer I A A`

record AnswerSaid (words : List (List ℕ)) (a : Answer) : Type 0 where
  spelled : words ≡ answer_words a
  fits : is_ranged_answer a ≡ true

outcome_said : (words : List (List ℕ)) (a : Answer) → words ≡ answer_words a → is_ranged_outcome a ≡ true → AnswerSaid words a
outcome_said words (answer.Ops answers) spelled fits = absurd cc
outcome_said words (answer.Values values) spelled fits = absurd cc
outcome_said words answer.Committed spelled fits = record { spelled = spelled; fits = refl }
outcome_said words answer.Aborted spelled fits = record { spelled = spelled; fits = refl }

ops_said : (words : List (List ℕ)) (a : Answer) → (few_items read_op_answer words >>= λ answers. Ok (answer.Ops answers)) ≡ Ok a → AnswerSaid words a
ops_said words a read =
    let b = bind_ok (few_items read_op_answer words) (λ answers. Ok (answer.Ops answers)) a read in
    let u = few_take op_answer_word read_op_answer is_ranged_op_answer op_answer_item words b.0 b.1 in
    let made : AnswerSaid words (answer.Ops b.0) = record { spelled = u.0; fits = u.1 } in
    subst (λ (z : Answer). AnswerSaid words z) (ok_is (answer.Ops b.0) a b.2) made

answer_takes : (words : List (List ℕ)) (a : Answer) → answer_of words ≡ Ok a → AnswerSaid words a
unfolding answer_of
answer_takes words a read = of_test (is_next (codes "committed") words || is_next (codes "aborted") words) read
  where
    of_test : (test : Bool) → cond test (whole told words) (few_items read_op_answer words >>= λ answers. Ok (answer.Ops answers)) ≡ Ok a → AnswerSaid words a
    of_test true found = let t = outcome_taken words a found in outcome_said words a t.0 t.1
    of_test false found = ops_said words a found

-- an answer of an operation is no outcome
other_answer : (one : OpAnswer) (words : List (List ℕ)) → is_ranged_op_answer one ≡ true →
    (is_next (codes "committed") (op_answer_word one ∷ words) || is_next (codes "aborted") (op_answer_word one ∷ words)) ≡ false
other_answer (Value n) words fits = rw (number_other n (codes "committed") fits refl, number_other n (codes "aborted") fits refl) refl
other_answer Absent words fits = refl
other_answer Done words fits = refl
other_answer Yes words fits = refl
other_answer No words fits = refl

other_answers : (answers : List OpAnswer) → list_all is_ranged_op_answer answers ≡ true →
    (is_next (codes "committed") (map op_answer_word answers) || is_next (codes "aborted") (map op_answer_word answers)) ≡ false
other_answers [] fits = refl
other_answers (one ∷ answers) fits = other_answer one (map op_answer_word answers) (left_of (is_ranged_op_answer one) (list_all is_ranged_op_answer answers) fits)

answer_again : (a : Answer) → is_ranged_answer a ≡ true → answer_of (answer_words a) ≡ Ok a
unfolding answer_of
answer_again (answer.Ops answers) fits =
    ap (λ test. cond test (whole told (map op_answer_word answers)) (few_items read_op_answer (map op_answer_word answers) >>= λ answers. Ok (answer.Ops answers)))
    (other_answers answers (right_of (is_ranged_length (length answers)) (list_all is_ranged_op_answer answers) fits))
    ∙ ap (λ r. ◌>>=◌ {B = Answer} r (λ answers. Ok (answer.Ops answers))) (few_again op_answer_word read_op_answer is_ranged_op_answer op_answer_item answers fits)
answer_again (answer.Values values) fits = absurd cc
answer_again answer.Committed fits = outcome_again answer.Committed refl
answer_again answer.Aborted fits = outcome_again answer.Aborted refl

pub answered_takes : (words : List (List ℕ)) (v : ReportLine) → answered_of words ≡ Ok v → Said (codes "answer" ∷ words) v
unfolding answered_of
answered_takes words v read =
    let a = bind_ok (id.read words) (λ i. answer_of i.1 >>= λ a. Ok (answered i.0 a)) v read in
    let b = bind_ok (answer_of a.0.1) (λ one. Ok (answered a.0.0 one)) v a.2 in
    let t = id_taken words a.0.0 a.0.1 a.1 in
    let u = answer_takes a.0.1 b.0 b.1 in
    let made : Said (codes "answer" ∷ words) (answered a.0.0 b.0) = record {
      spelled = ap (λ (z : List (List ℕ)). codes "answer" ∷ z) (t.0 ∙ ap (λ (z : List (List ℕ)). id_word a.0.0 ∷ z) u.spelled);
      fits = and_from (is_ranged_id a.0.0) (is_ranged_answer b.0) t.1 u.fits;
    } in
    subst (λ (z : ReportLine). Said (codes "answer" ∷ words) z) (ok_is (answered a.0.0 b.0) v b.2) made

pub answered_again : (i : TxnId) (a : Answer) → (is_ranged_id i && is_ranged_answer a) ≡ true → answered_of (id_word i ∷ answer_words a) ≡ Ok (answered i a)
unfolding answered_of
answered_again i a fits =
    ap (λ r. ◌>>=◌ {B = ReportLine} r (λ i. answer_of i.1 >>= λ a. Ok (answered i.0 a))) (id_again i (answer_words a) (left_of (is_ranged_id i) (is_ranged_answer a) fits))
    ∙ ap (λ r. ◌>>=◌ {B = ReportLine} r (λ a. Ok (answered i a))) (answer_again a (right_of (is_ranged_id i) (is_ranged_answer a) fits))

-- `told D I OUTCOME`

record PairTaken (words : List (List ℕ)) (c : ClientId) (i : TxnId) (rest : List (List ℕ)) : Type 0 where
  spelled : words ≡ decimal c.0 ∷ id_word i ∷ rest
  client : is_ranged_client c ≡ true
  id_fits : is_ranged_id i ≡ true

pair_taken : (words : List (List ℕ)) (c : ClientId) (i : TxnId) (rest : List (List ℕ)) → asker_and_id.read words ≡ Ok ((c, i), rest) → PairTaken words c i rest
unfolding asker_and_id
pair_taken words c i rest read =
    let a = bind_ok (asker.read words) (λ x. id.read x.1 >>= λ y. Ok ((x.0, y.0), y.1)) ((c, i), rest) read in
    let b = bind_ok (id.read a.0.1) (λ y. Ok ((a.0.0, y.0), y.1)) ((c, i), rest) a.2 in
    let t = asker_taken words a.0.0 a.0.1 a.1 in
    let u = id_taken a.0.1 b.0.0 b.0.1 b.1 in
    let made : PairTaken words a.0.0 b.0.0 b.0.1 = record { spelled = t.0 ∙ ap (λ (z : List (List ℕ)). decimal a.0.0.0 ∷ z) u.0; client = t.1; id_fits = u.1 } in
    subst (λ (z : (ClientId × TxnId) × List (List ℕ)). PairTaken words z.0.0 z.0.1 z.1) (ok_is ((a.0.0, b.0.0), b.0.1) ((c, i), rest) b.2) made

pair_again : (c : ClientId) (i : TxnId) (rest : List (List ℕ)) → is_ranged_client c ≡ true → is_ranged_id i ≡ true →
    asker_and_id.read (decimal c.0 ∷ id_word i ∷ rest) ≡ Ok ((c, i), rest)
unfolding asker_and_id
pair_again c i rest client fits =
    ap (λ r. ◌>>=◌ {B = (ClientId × TxnId) × List (List ℕ)} r (λ x. id.read x.1 >>= λ y. Ok ((x.0, y.0), y.1))) (asker_again c (id_word i ∷ rest) client)
    ∙ ap (λ r. ◌>>=◌ {B = (ClientId × TxnId) × List (List ℕ)} r (λ y. Ok ((c, y.0), y.1))) (id_again i rest fits)

pub told_takes : (words : List (List ℕ)) (v : ReportLine) → told_of words ≡ Ok v → Said (codes "told" ∷ words) v
unfolding told_of
told_takes words v read =
    let a = bind_ok (asker_and_id.read words) (λ p. whole told p.1 >>= λ o. Ok (was_told p.0.0 p.0.1 o)) v read in
    let b = bind_ok (whole told a.0.1) (λ o. Ok (was_told a.0.0.0 a.0.0.1 o)) v a.2 in
    let t = pair_taken words a.0.0.0 a.0.0.1 a.0.1 a.1 in
    let u = outcome_taken a.0.1 b.0 b.1 in
    let made : Said (codes "told" ∷ words) (was_told a.0.0.0 a.0.0.1 b.0) = record {
      spelled = ap (λ (z : List (List ℕ)). codes "told" ∷ z) (t.spelled ∙ ap (λ (z : List (List ℕ)). decimal a.0.0.0.0 ∷ id_word a.0.0.1 ∷ z) u.0);
      fits = and_from (is_ranged_client a.0.0.0) (is_ranged_id a.0.0.1 && is_ranged_outcome b.0) t.client
          (and_from (is_ranged_id a.0.0.1) (is_ranged_outcome b.0) t.id_fits u.1);
    } in
    subst (λ (z : ReportLine). Said (codes "told" ∷ words) z) (ok_is (was_told a.0.0.0 a.0.0.1 b.0) v b.2) made

pub told_again : (c : ClientId) (i : TxnId) (a : Answer) → (is_ranged_client c && (is_ranged_id i && is_ranged_outcome a)) ≡ true →
    told_of (decimal c.0 ∷ id_word i ∷ answer_words a) ≡ Ok (was_told c i a)
unfolding told_of
told_again c i a fits =
    let more = right_of (is_ranged_client c) (is_ranged_id i && is_ranged_outcome a) fits in
    ap (λ r. ◌>>=◌ {B = ReportLine} r (λ p. whole told p.1 >>= λ o. Ok (was_told p.0.0 p.0.1 o)))
    (pair_again c i (answer_words a) (left_of (is_ranged_client c) (is_ranged_id i && is_ranged_outcome a) fits) (left_of (is_ranged_id i) (is_ranged_outcome a) more))
    ∙ ap (λ r. ◌>>=◌ {B = ReportLine} r (λ o. Ok (was_told c i o))) (outcome_again a (right_of (is_ranged_id i) (is_ranged_outcome a) more))
