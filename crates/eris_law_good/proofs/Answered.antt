-- WHAT WAS ANSWERED BEFORE A SUBMIT stands before it in the order. An answered id was counted in its first half, by messages
-- that were sent by then; and no packet of an id is stamped before the id is submitted.
use Rattle.std.proofs.Common.{◌≡◌, inl, inr, ℕ, suc, ◌≤◌, true, Some, None, Option, List, [], ◌∷◌, refl, sym, ap, ◌∙◌, subst, arith, is_some}
use Rattle.std.proofs.lemmas.Bool.{eq-eqb, or_left, both_ways}
use Rattle.eris_base.specs.declared.ids.ClientId.{ClientId}
use Rattle.eris_base.specs.declared.ids.Phase.{Phase}
use Rattle.eris_base.specs.declared.ids.ShardId.{ShardId}
use Rattle.eris_base.specs.declared.ids.TxnId.{TxnId}
use Rattle.eris_base.specs.ConfigLimits.{ConfigValue}
use Rattle.eris_base.specs.Each.{EachAfter}
use Rattle.eris_txn.specs.declared.answer.Answer.{Answer}
use Rattle.eris_txn.specs.declared.history.HistoryEvent.{HistoryEvent}
use Rattle.eris_txn.specs.declared.history.HistoryEvent.TheVariants.{Submit, Read, Answer as Answered, Told}
use Rattle.eris_txn.specs.declared.txn.Txn.{Txn}
use Rattle.eris_txn.specs.declared.txn.Txn.TheVariants.{Whole, General}
use Rattle.eris_txn.specs.Operations.{key_of}
use Rattle.eris_audit.specs.Histories.{first_submit}
use Rattle.eris_event.specs.declared.event.Event.{Event}
use Rattle.eris_rules.specs.ClientStates.{ClientIdentity}
use Rattle.eris_rules.specs.WorldOrders.{order}
use Rattle.eris_serial.specs.Evidence.{AnsweredFirst, IsIn, SubmitsWell, SubmittedLater}
use Rattle.eris_serial.specs.Transactions.{CanRun, takes_part}
use Rattle.eris_serial.proofs.CountedStands.{some_shard, prelim_is_own, whole_is_own}
use Rattle.eris_serial.proofs.Runnable.{Each-in, Each-of}
use Rattle.eris_law_agreement.specs.WorldMoments.{world_at}
use Rattle.eris_law_client.specs.ClientRuns.{ClientInput, history_to, step_at}
use Rattle.eris_law_client.specs.Courses.{events_of}
use Rattle.eris_law_client.specs.Rests.{AnswerRests, EventRests, OfConclusion, OfRefusal, OfWhole}
use Rattle.eris_law_client.proofs.Events.{event_there}
use Rattle.eris_law_client.proofs.Resting.{happened}
use Rattle.eris_law_course.specs.Accepted.{AreEventsFit, IsAccepted, IsThere}
use Rattle.eris_law_course.specs.Inputs.{identity, inputs_of}
use Rattle.eris_law_course.proofs.Calls.{aborts_others}
use Rattle.eris_law_course.proofs.Courses.{event_from, event_to}
use Rattle.eris_law_course.proofs.Merged.{each_added, is_new, submits_well}
use Rattle.eris_law_course.proofs.Packets.{packet_submitted, was_asked}
use Rattle.eris_law_evidence.specs.Fronts.{IsSaidFrom, IsUnstamped}
use Rattle.eris_law_evidence.proofs.OldPackets.{behind}
use Rattle.eris_law_order.proofs.OrderMembers.{In-list}
use Rattle.eris_law_good.proofs.Counted.{counted_from}

-- some shard takes part in what can be run
some_part : (txn : Txn) → CanRun txn → (shard : ShardId) × (takes_part shard txn ≡ true)
some_part (Whole []) some = absurd (some refl)
some_part (Whole (op ∷ ops)) some = ((key_of op).shard, or_left _ _ (eq-eqb (key_of op).shard.0 (key_of op).shard.0 refl))
some_part (General plan) can = some_shard plan.keys can.some_key

module _ (config : ConfigValue) (events : List Event) (ok : IsAccepted config events) (fit : AreEventsFit events) where
  abbrev me : ClientId → ClientIdentity
  me client = identity config client

  abbrev inputs : ClientId → List ClientInput
  inputs client = inputs_of config events client

  abbrev own : ClientId → ℕ → List HistoryEvent
  own client k = history_to (me client) (inputs client) k

  -- a first half of the id is said from the moment on, by some shard
  pub record IsHalfSaid (n : ℕ) (id : TxnId) : Type 0 where
    pub shard : ShardId
    pub phase : Phase
    pub answer : Answer
    pub first : phase ≡ Phase.Conclude → ⊥
    pub said : IsSaidFrom config events n shard id phase answer

  -- what a client submitted can be run
  own_can_run : (client : ClientId) → IsThere config client → (at : ℕ) (id : TxnId) (txn : Txn) → IsIn (Submit id txn) (own client at) → CanRun txn
  own_can_run client there at id txn i =
      Each-in SubmitsWell (world_at config events at).history (Submit id txn) (submits_well config events ok fit at) (event_to config events client there at (Submit id txn) i)

  submit_first : (client : ClientId) (at : ℕ) (id : TxnId) (txn : Txn) (rest : List HistoryEvent) → events_of id (own client at) ≡ Submit id txn ∷ rest → IsIn (Submit id txn) (own client at)
  submit_first client at id txn rest are = event_there id (own client at) (Submit id txn) (subst (IsIn (Submit id txn)) (sym are) (inl refl))

  -- by values that were read
  by_read : (client : ClientId) → IsThere config client → (at n : ℕ) → suc at ≤ n → (id : TxnId) (values : List (Option ℕ)) → EventRests (me client) (inputs client) at (Read id values) → IsHalfSaid n id
  by_read client there at n le id values rests =
      let some = some_part (General rests.plan) (own_can_run client there at id (General rests.plan) (submit_first client at id (General rests.plan) [] rests.events_are)) in
      record {
        shard = some.0;
        phase = Phase.Prelim;
        answer = Answer.Values (rests.given some.0);
        first = prelim_is_own;
        said = counted_from config events client (suc at) n le id _ some.0 _ (rests.counted some.0 some.1);
      }

  by_answer : (client : ClientId) → IsThere config client → (at n : ℕ) → suc at ≤ n → (id : TxnId) (answer : Answer) → AnswerRests (me client) (inputs client) at id answer → IsHalfSaid n id
  by_answer client there at n le id answer (OfWhole rests) =
      let some = some_part (Whole rests.operations) (own_can_run client there at id (Whole rests.operations) (submit_first client at id (Whole rests.operations) [] rests.events_are)) in
      record {
        shard = some.0;
        phase = Phase.Whole;
        answer = Answer.Ops (rests.given some.0);
        first = whole_is_own;
        said = counted_from config events client (suc at) n le id _ some.0 _ (rests.counted some.0 some.1);
      }
  by_answer client there at n le id answer (OfRefusal rests) =
      record { shard = rests.shard; phase = Phase.Prelim; answer = Answer.Aborted; first = prelim_is_own; said = counted_from config events client (suc at) n le id _ rests.shard Answer.Aborted rests.counted }
  by_answer client there at n le id answer (OfConclusion rests) =
      let read = event_there id (own client at) (Read id rests.values) (subst (IsIn (Read id rests.values)) (sym rests.events_are) (inr (inl refl))) in
      let so = happened (me client) (inputs client) (aborts_others config events ok client) at (Read id rests.values) read in
      by_read client there so.at n (omega (arith, le, so.before)) id rests.values so.rests

  -- AN ANSWERED ID's first half is said from then on
  pub half_said : (n : ℕ) (id : TxnId) (answer : Answer) → IsIn (Answered id answer) (world_at config events n).history → IsHalfSaid n id
  half_said n id answer i =
      let from = event_from config events n (Answered id answer) i in
      let so = happened (me from.client) (inputs from.client) (aborts_others config events ok from.client) n (Answered id answer) from.stands in
      by_answer from.client from.there so.at n so.before id answer so.rests

  -- WHAT WASN'T SUBMITTED WASN'T STAMPED
  unstamped : (n : ℕ) (id : TxnId) → first_submit (world_at config events n).history id ≡ None → IsUnstamped config events n id
  unstamped n id none = λ epoch packet i own.
      let was = was_asked config events ok n packet (In-list config events n packet epoch i) in
      let there = packet_submitted config events ok n packet was in
      let nothing : first_submit (world_at config events n).history packet.id ≡ None = ap (first_submit (world_at config events n).history) own.of_id ∙ none in
      absurd (both_ways _ (ap (λ (found : Option Txn). is_some found) nothing) there)

  later_event : (n k : ℕ) → n ≤ k → (id : TxnId) → first_submit (world_at config events n).history id ≡ None → (event : HistoryEvent) → IsIn event (world_at config events n).history
      → AnsweredFirst (order (world_at config events k)) id event
  later_event n k le id none (Answered answered answer) i =
      let half = half_said n answered answer i in
      behind config events n k le half.shard answered id half.phase half.answer half.said half.first (unstamped n id none)
  later_event n k le id none (Submit other txn) i = tt
  later_event n k le id none (Read other values) i = tt
  later_event n k le id none (Told asker other answer) i = tt

  later_submit : (k n : ℕ) (client : ClientId) (event : HistoryEvent) → suc n ≤ k → IsThere config client → (step_at (me client) (inputs client) n).event ≡ Some event
      → SubmittedLater (order (world_at config events k)) (world_at config events n).history event
  later_submit k n client (Submit id txn) le there h =
      Each-of (AnsweredFirst (order (world_at config events k)) id) (world_at config events n).history
      (λ event i. later_event n k (omega (arith, le)) id (is_new config events ok client there n id txn h) event i)
  later_submit k n client (Read id values) le there h = tt
  later_submit k n client (Answered id answer) le there h = tt
  later_submit k n client (Told asker id answer) le there h = tt

  -- WHAT WAS ANSWERED STANDS BEFORE what was submitted later
  pub all_later : (k : ℕ) → EachAfter (SubmittedLater (order (world_at config events k))) [] (world_at config events k).history
  all_later k = each_added config events ok (SubmittedLater (order (world_at config events k))) k (λ n client event le there h. later_submit k n client event le there h) k (omega arith)
