-- WHERE WHAT A CLIENT COUNTED WAS SAID over an order of packets, each of its events is counted as evidence asks. Used where
-- the protocol's half of the law meets the meaning's.
use Rattle.std.proofs.Common.{◌≡◌, ◌≤◌, ℕ, zero, suc, true, Option, Some, unwrap_or, List, [], ◌∷◌, refl, ap, sym, ◌∙◌, subst, inl, inr, arith}
use Rattle.std.specs.Prelude.{is_some}
use Rattle.std.proofs.lemmas.Bool.{cond_both}
use Rattle.eris_base.specs.declared.ids.Phase.{Phase}
use Rattle.eris_base.specs.declared.ids.ShardId.{ShardId}
use Rattle.eris_base.specs.declared.ids.TxnId.{TxnId}
use Rattle.eris_txn.specs.declared.answer.Answer.{Answer}
use Rattle.eris_txn.specs.declared.body.Body.{Body}
use Rattle.eris_txn.specs.declared.body.Body.TheVariants.{Abort, Commit}
use Rattle.eris_txn.specs.declared.history.HistoryEvent.{HistoryEvent}
use Rattle.eris_txn.specs.declared.history.HistoryEvent.TheVariants.{Submit, Read, Answer as Answered, Told}
use Rattle.eris_txn.specs.declared.key.Key.{Key}
use Rattle.eris_txn.specs.declared.packet.Packet.{Packet}
use Rattle.eris_txn.specs.declared.txn.Txn.{Txn}
use Rattle.eris_txn.specs.declared.txn.Txn.TheVariants.{Whole, General}
use Rattle.eris_txn.specs.Bodies.{any_on, keys_of}
use Rattle.eris_txn.specs.PlanValues.{PlanValue}
use Rattle.eris_txn.specs.Plans.{guards_hold, value_in, writes_from}
use Rattle.eris_audit.specs.Histories.{first_submit, txn_of}
use Rattle.eris_general.specs.Outcomes.{conclusion_of}
use Rattle.eris_locks.specs.States.{phase_of}
use Rattle.eris_rules.specs.ClientStates.{ClientIdentity}
use Rattle.eris_serial.specs.Evidence.{AnswerEvidence, ByOutcome, ByRefusal, ByWhole, Counted, IsIn, OutcomeEvidence, SaidOn, WholeEvidence}
use Rattle.eris_serial.specs.Transactions.{CanRun, takes_part}
use Rattle.eris_serial.proofs.JoinedShares.{read_joined, whole_joined}
use Rattle.eris_serial.proofs.Runnable.{Each-of, plan_can_run, txn_can_run}
use Rattle.eris_serial.proofs.CountedStands.{some_shard}
use Rattle.eris_law_client.specs.Bridges.{CountedIsSaid, IsHistoryWith}
use Rattle.eris_law_client.specs.ClientRuns.{AbortsOthers, ClientInput, history_to}
use Rattle.eris_base.specs.Each.{Each}
use Rattle.eris_base.proofs.Numbers.{last_or}
use Rattle.eris_law_client.specs.Counts.{CountedOn}
use Rattle.eris_law_client.proofs.Counting.{counted_later}
use Rattle.eris_law_client.proofs.Resting.{happened}
use Rattle.eris_law_client.specs.Courses.{events_of}
use Rattle.eris_law_client.specs.Rests.{AllCommit, AnswerRests, EventRests, OfConclusion, OfRefusal, OfWhole, OneAborts, OutcomeRests}
use Rattle.eris_law_client.proofs.Events.{event_there, txn_by_events}
use Rattle.eris_law_client.proofs.Growing.{event_stays, submit_stays}

conclusion_keys : (plan : PlanValue) (values : List (Option ℕ)) → keys_of (conclusion_of plan (value_in plan.keys values)) ≡ plan.keys
conclusion_keys plan values = cond_both (guards_hold plan.guards (value_in plan.keys values)) (Commit plan.keys (writes_from plan.settings (value_in plan.keys values))) (Abort plan.keys) (λ b. keys_of b ≡ plan.keys) (λ h. refl) (λ h. refl)

conclusion_phase : (plan : PlanValue) (values : List (Option ℕ)) → phase_of (conclusion_of plan (value_in plan.keys values)) ≡ Phase.Conclude
conclusion_phase plan values = cond_both (guards_hold plan.guards (value_in plan.keys values)) (Commit plan.keys (writes_from plan.settings (value_in plan.keys values))) (Abort plan.keys) (λ b. phase_of b ≡ Phase.Conclude) (λ h. refl) (λ h. refl)

module _ (me : ClientIdentity) (inputs : List ClientInput) (number : ℕ) (history : List HistoryEvent) (packets : List Packet)
    (with : IsHistoryWith me inputs (suc number) history) (said : CountedIsSaid me inputs (suc number) packets) where
  -- the transaction of an id, by its events
  found_is : (id : TxnId) (txn : Txn) (rest : List HistoryEvent) → events_of id (history_to me inputs number) ≡ Submit id txn ∷ rest → first_submit history id ≡ Some txn
  found_is id txn rest are =
      with.submits id txn (submit_stays me inputs number (suc number) (omega arith) id txn (txn_by_events id (history_to me inputs number) rest txn are))

  txn_there : (id : TxnId) (txn : Txn) (rest : List HistoryEvent) → events_of id (history_to me inputs number) ≡ Submit id txn ∷ rest → txn_of history id ≡ txn
  txn_there id txn rest are = ap (λ (found : Option Txn). unwrap_or found (Whole [])) (found_is id txn rest are)

  part_of : (id : TxnId) (plan : PlanValue) (shard : ShardId) → txn_of history id ≡ General plan → any_on plan.keys shard ≡ true → takes_part shard (txn_of history id) ≡ true
  part_of id plan shard is part = ap (λ (t : Txn). takes_part shard t) is ∙ part

  -- an outcome that rests on counted shards was said by one that takes part
  outcome_said : (id : TxnId) (plan : PlanValue) (body : Body) (outcome : Answer) → txn_of history id ≡ General plan → keys_of body ≡ plan.keys → phase_of body ≡ Phase.Conclude
      → OutcomeRests me inputs number id body outcome → OutcomeEvidence (txn_of history) id outcome packets
  outcome_said id plan body outcome is keys phase (AllCommit own all) =
      let first = some_shard plan.keys (plan_can_run history id plan with.well is).some_key in
      record {
        plan = plan;
        is = is;
        shard = first.0;
        part = part_of id plan first.0 is first.1;
        said = subst (λ (a : Answer). SaidOn first.0 id Phase.Conclude a packets) (sym own)
            (subst (λ (p : Phase). SaidOn first.0 id p Answer.Committed packets) phase
            (said id body first.0 Answer.Committed (all first.0 (ap (λ (l : List Key). any_on l first.0) keys ∙ first.1))));
      }
  outcome_said id plan body outcome is keys phase (OneAborts own shard part on others) =
      record {
        plan = plan;
        is = is;
        shard = shard;
        part = part_of id plan shard is (ap (λ (l : List Key). any_on l shard) (sym keys) ∙ part);
        said = subst (λ (a : Answer). SaidOn shard id Phase.Conclude a packets) (sym own) (subst (λ (p : Phase). SaidOn shard id p Answer.Aborted packets) phase (said id body shard Answer.Aborted on));
      }

  answer_counted : (id : TxnId) (answer : Answer) → AnswerRests me inputs number id answer → AnswerEvidence history id answer packets
  answer_counted id answer (OfWhole rests) =
      let is = txn_there id (Whole rests.operations) [] rests.events_are in
      ByWhole (subst (λ (a : Answer). WholeEvidence (txn_of history) id a packets) (sym rests.answer_is)
      (whole_joined (txn_of history) id rests.operations rests.given rests.answers packets is
      (subst CanRun is (txn_can_run history id with.well (ap (λ (found : Option Txn). is_some found) (found_is id (Whole rests.operations) [] rests.events_are))))
      rests.joined (λ shard part. said id _ shard _ (rests.counted shard (ap (λ (t : Txn). takes_part shard t) (sym is) ∙ part)))))
  answer_counted id answer (OfRefusal rests) =
      let is = txn_there id (General rests.plan) [] rests.events_are in
      ByRefusal (record {
        plan = rests.plan;
        is = is;
        answer_is = rests.answer_is;
        shard = rests.shard;
        part = ap (λ (t : Txn). takes_part rests.shard t) is ∙ rests.part;
        said = said id _ rests.shard _ rests.counted;
      })
  answer_counted id answer (OfConclusion rests) =
      let is = txn_there id (General rests.plan) (Read id rests.values ∷ []) rests.events_are in
      ByOutcome (record {
        values = rests.values;
        read = with.events (Read id rests.values) (event_stays me inputs number (suc number) (omega arith) (Read id rests.values)
            (event_there id (history_to me inputs number) (Read id rests.values) (subst (λ (l : List HistoryEvent). IsIn (Read id rests.values) l) (sym rests.events_are) (inr (inl refl)))));
        outcome = outcome_said id rests.plan _ answer is (conclusion_keys rests.plan rests.values) (conclusion_phase rests.plan rests.values) rests.rests;
      })

  -- AN EVENT THAT RESTS SO IS COUNTED
  pub event_counted : (event : HistoryEvent) → EventRests me inputs number event → Counted history packets event
  event_counted (Submit id txn) rests = tt
  event_counted (Read id values) rests =
      let is = txn_there id (General rests.plan) [] rests.events_are in
      read_joined (txn_of history) id rests.plan rests.given values packets is rests.joined
      (λ shard part. said id _ shard _ (rests.counted shard (ap (λ (t : Txn). takes_part shard t) (sym is) ∙ part)))
  event_counted (Answered id answer) rests = answer_counted id answer rests
  event_counted (Told asker id answer) rests =
      let general = with.aborted id rests.keys rests.called in
      outcome_said id general.0 (Abort rests.keys) answer general.1 general.2 refl rests.rests

-- ---- of the whole history
-- a shard that was counted stays so
counted_stays : (me : ClientIdentity) (inputs : List ClientInput) (id : TxnId) (body : Body) (shard : ShardId) (answer : Answer) (early late : ℕ) → early ≤ late
    → CountedOn me inputs early id body shard answer → CountedOn me inputs late id body shard answer
counted_stays me inputs id body shard answer early zero h on =
    let is : early ≡ 0 = omega arith in subst (λ (n : ℕ). CountedOn me inputs n id body shard answer) is on
counted_stays me inputs id body shard answer early (suc late) h on =
    elim (last_or early late h) [
      | inl before ↦ counted_later me inputs late id body shard answer (counted_stays me inputs id body shard answer early late before on)
      | inr same ↦ subst (λ (n : ℕ). CountedOn me inputs n id body shard answer) same on
    ]

history_early : (me : ClientIdentity) (inputs : List ClientInput) (early late : ℕ) (history : List HistoryEvent) → early ≤ late → IsHistoryWith me inputs late history → IsHistoryWith me inputs early history
history_early me inputs early late history h with =
    record {
      events = λ event there. with.events event (event_stays me inputs early late h event there);
      submits = λ id txn is. with.submits id txn (submit_stays me inputs early late h id txn is);
      well = with.well;
      aborted = λ id keys called. with.aborted id keys (record { at = called.at; before = omega (arith, h, called.before); called = called.called });
    }

-- EVERY EVENT OF THE CLIENT IS COUNTED
pub history_counted : (me : ClientIdentity) (inputs : List ClientInput) → AbortsOthers me inputs → (number : ℕ) (history : List HistoryEvent) (packets : List Packet) → IsHistoryWith me inputs number history
    → CountedIsSaid me inputs number packets → Each (Counted history packets) (history_to me inputs number)
history_counted me inputs others number history packets with said =
    Each-of (Counted history packets) (history_to me inputs number)
    (λ event there. let so = happened me inputs others number event there in
    event_counted me inputs so.at history packets (history_early me inputs (suc so.at) number history so.before with)
    (λ id body shard answer on. said id body shard answer (counted_stays me inputs id body shard answer (suc so.at) number so.before on)) event so.rests)
