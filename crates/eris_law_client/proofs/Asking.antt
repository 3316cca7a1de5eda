-- WHERE THE BODY OF EACH ASK COMES FROM. Used where the origin of each stamped packet is shown.
use Rattle.std.proofs.Common.{◌≡◌, ℕ, zero, suc, true, false, Option, Some, None, List, [], ◌∷◌, ◌++◌, refl, ap, sym, ◌∙◌, subst, arith, inl, inr}
use Rattle.std.specs.Prelude.{◌⊎◌, slice_get, unwrap_or}
use Rattle.std.proofs.lemmas.Bool.{both_ways, cases_Bool, eq-eqb, cond-true, cond-false}
use Rattle.eris_base.specs.declared.ids.ShardId.{ShardId}
use Rattle.eris_base.specs.declared.ids.TxnId.{TxnId}
use Rattle.eris_base.specs.Each.{Each}
use Rattle.eris_txn.specs.declared.body.Body.{Body}
use Rattle.eris_txn.specs.declared.history.HistoryEvent.{HistoryEvent}
use Rattle.eris_txn.specs.declared.history.HistoryEvent.TheVariants.{Submit, Read}
use Rattle.eris_txn.specs.declared.key.Key.{Key}
use Rattle.eris_base.specs.declared.ids.ClientId.{ClientId}
use Rattle.eris_txn.specs.declared.txn.Txn.{Txn}
use Rattle.eris_txn.specs.declared.txn.Txn.TheVariants.{Whole, General}
use Rattle.eris_txn.specs.Bodies.{any_on, has_shard, keys_of, participants_of}
use Rattle.eris_txn.specs.Plans.{guards_hold, value_in}
use Rattle.eris_txn.proofs.BodyLaws.{has_shard-participants}
use Rattle.eris_audit.specs.Histories.{txn_of}
use Rattle.eris_msg.specs.declared.outgoing.Outgoing.{Outgoing}
use Rattle.eris_rules.specs.declared.transaction.Course.{Course}
use Rattle.eris_rules.specs.declared.transaction.Course.TheVariants.{Executing, Reading, Concluding, Aborting}
use Rattle.eris_rules.specs.declared.transaction.Transaction.{Transaction}
use Rattle.eris_rules.specs.Clients.{ask_for, begins_half, concludes, finishes, has_concluded, is_executed, is_told, submit}
use Rattle.eris_rules.specs.ClientStates.{ClientIdentity, ClientOut, ClientState, begun_half, body_of, next_id, transaction_at}
use Rattle.eris_serial.specs.Evidence.{IsIn}
use Rattle.eris_serial.specs.Transactions.{keys_in, takes_part}
use Rattle.eris_serial.proofs.Runnable.{Each-in, prelim_keys}
use Rattle.eris_law_client.specs.ClientRuns.{AbortsOthers, ClientInput, history_to, moment, perhaps, sent_to, step_at}
use Rattle.eris_law_client.specs.Courses.{IsOwn, IsSoFar, Stands, StandsAt, events_of}
use Rattle.eris_law_client.specs.Rests.{AskRests, AsksAbort, AsksAnothers, AsksCommit, AsksPrelim, AsksWhole, IsAsk, SentSo}
use Rattle.eris_law_client.proofs.Entries.{found_put}
use Rattle.eris_law_client.proofs.Events.{txn_by_events}
use Rattle.eris_law_client.proofs.Standing.{so_far_of, stands_at}
use Rattle.eris_law_client.proofs.Steps.{AsksAgain, Begins, BeginsAbort, Concludes, Executes, Leaf, Nothing, Reads, Refuses, Tells, WaitsOn, leaf}

-- ---- what is sent
-- a message is an Ask of the body of an open transaction
pub record IsAskOf (me : ClientIdentity) (state : ClientState) (send : Outgoing) : Type 0 where
  pub id : TxnId
  pub transaction : Transaction
  pub known : transaction_at state id ≡ Some transaction
  pub unfinished : transaction.finished ≡ false
  pub is : send ≡ ask_for me id (body_of transaction.course)

begun : (me : ClientIdentity) (state : ClientState) (id : TxnId) (course : Course) (event : Option HistoryEvent) → Each (IsAskOf me (begins_half me state id course event).state) (begins_half me state id course event).sends
unfolding begins_half begun_half
begun me state id course event = (record { id = id; transaction = begun_half course; known = found_put state id (begun_half course); unfinished = refl; is = refl }, tt)

-- A STEP SENDS ONLY ASKS
asks : (me : ClientIdentity) (state : ClientState) (input : ClientInput) (out : ClientOut) → Leaf me state input out → Each (IsAskOf me out.state) out.sends
unfolding submit finishes is_executed concludes has_concluded is_told
asks me state _ _ (Nothing input) = tt
asks me state _ _ (Begins txn) = begun me _ (next_id me state) _ _
asks me state _ _ (AsksAgain input id transaction is unfinished) = (record { id = id; transaction = transaction; known = is; unfinished = unfinished; is = refl }, tt)
asks me state _ _ (BeginsAbort id keys none) = begun me state id (Aborting keys) None
asks me state _ _ (WaitsOn message id before after heard) = tt
asks me state _ _ (Executes message id before after heard whole operations is) = tt
asks me state _ _ (Refuses message id before after heard whole plan is some) = tt
asks me state _ _ (Reads message id before after heard whole plan is none) = begun me state id _ _
asks me state _ _ (Concludes message id before after heard whole plan body is) = tt
asks me state _ _ (Tells message id before after heard whole keys is) = tt

-- ---- where a body comes from
module _ (me : ClientIdentity) (inputs : List ClientInput) (number : ℕ) (id : TxnId) where
  abbrev events : List HistoryEvent
  events = events_of id (history_to me inputs number)

  by_course : (course : Course) → IsSoFar me inputs number id events course false → AskRests me inputs number id (body_of course)
  by_course (Executing operations) h = AsksWhole operations h.own h.events_are refl
  by_course (Reading plan) h = AsksPrelim plan h.own h.events_are refl
  by_course (Concluding plan body) h = by_guards (cases_Bool (guards_hold plan.guards (value_in plan.keys h.values)))
    where
      by_guards : ((guards_hold plan.guards (value_in plan.keys h.values) ≡ true) ⊎ (guards_hold plan.guards (value_in plan.keys h.values) ≡ false)) → AskRests me inputs number id body
      by_guards (inl held) =
          AsksCommit (record {
            plan = plan;
            values = h.values;
            own = h.own;
            events_are = h.events_are;
            each = h.each;
            guards = held;
            body_is = h.body_is ∙ cond-true _ _ _ held;
          })
      by_guards (inr failed) =
          AsksAbort (record {
            plan = plan;
            values = h.values;
            own = h.own;
            events_are = h.events_are;
            each = h.each;
            guards = failed;
            body_is = h.body_is ∙ cond-false _ _ _ failed;
          })
  by_course (Aborting keys) h = AsksAnothers keys h.another h.called refl

  -- the body of an open transaction
  pub open_rests : (transaction : Transaction) → transaction.finished ≡ false → Stands me inputs number id events transaction → AskRests me inputs number id (body_of transaction.course)
  open_rests transaction unfinished stands = by_course transaction.course (so_far_of me inputs number id events transaction transaction.course refl unfinished stands)

  -- ALL BODIES OF AN OWN ID NAME THE SAME SHARDS: those that take part in its transaction
  own_shards : (body : Body) (txn : Txn) (rest : List HistoryEvent) (shard : ShardId) → events ≡ Submit id txn ∷ rest → keys_of body ≡ keys_in txn → has_shard (participants_of body) shard ≡ takes_part shard (txn_of (history_to me inputs number) id)
  own_shards body txn rest shard are keys =
      has_shard-participants body shard ∙ (ap (λ (l : List Key). any_on l shard) keys
      ∙ ap (λ (found : Option Txn). takes_part shard (unwrap_or found (Whole []))) (sym (txn_by_events id (history_to me inputs number) rest txn are)))

  pub named_shards : (body : Body) → AskRests me inputs number id body → IsOwn me id → (shard : ShardId) → has_shard (participants_of body) shard ≡ takes_part shard (txn_of (history_to me inputs number) id)
  named_shards body (AsksWhole operations own are is) _ shard = own_shards body (Whole operations) [] shard are (ap keys_of is)
  named_shards body (AsksPrelim plan own are is) _ shard = own_shards body (General plan) [] shard are (ap keys_of is ∙ prelim_keys plan)
  named_shards body (AsksCommit rests) _ shard = own_shards body (General rests.plan) (Read id rests.values ∷ []) shard rests.events_are (ap keys_of rests.body_is)
  named_shards body (AsksAbort rests) _ shard = own_shards body (General rests.plan) (Read id rests.values ∷ []) shard rests.events_are (ap keys_of rests.body_is)
  named_shards body (AsksAnothers keys another called is) own shard = absurd (both_ways _ another (eq-eqb id.client.0 me.client.0 (ap (λ (c : ClientId). c.0) own)))

module _ (me : ClientIdentity) (inputs : List ClientInput) (others : AbortsOthers me inputs) where
  sends_perhaps : (number : ℕ) (found : Option ClientInput) → Each (IsAskOf me (perhaps me (moment me inputs number) found).state) (perhaps me (moment me inputs number) found).sends
  sends_perhaps number None = tt
  sends_perhaps number (Some input) = asks me (moment me inputs number) input _ (leaf me (moment me inputs number) input)

  ask_at : (number : ℕ) (send : Outgoing) → IsAskOf me (moment me inputs number) send → IsAsk me inputs number send
  ask_at number send ask =
      record {
        id = ask.id;
        body = body_of ask.transaction.course;
        is = ask.is;
        rests = open_rests me inputs number ask.id ask.transaction ask.unfinished
            (subst (StandsAt me inputs number ask.id (events_of ask.id (history_to me inputs number))) ask.known (stands_at me inputs others number ask.id));
      }

  -- EACH MESSAGE THAT A STEP SENDS is an Ask, and its body rests so
  pub ask_rests : (number : ℕ) (send : Outgoing) → IsIn send (step_at me inputs number).sends → IsAsk me inputs (suc number) send
  unfolding moment
  ask_rests number send there =
      ask_at (suc number) send (Each-in (IsAskOf me (moment me inputs (suc number))) (step_at me inputs number).sends send (sends_perhaps number (slice_get inputs number)) there)

  behind : (send : Outgoing) (front more : List Outgoing) → IsIn send (front ++ more) → (IsIn send front) ⊎ (IsIn send more)
  behind send [] more there = inr there
  behind send (other ∷ front) more (inl is) = inl (inl is)
  behind send (other ∷ front) more (inr there) = elim (behind send front more there) [ inl h ↦ inl (inr h) | inr h ↦ inr h ]

  -- EVERYTHING THAT WAS SENT was sent in a step
  pub sent_so : (number : ℕ) (send : Outgoing) → IsIn send (sent_to me inputs number) → SentSo me inputs number send
  unfolding sent_to
  sent_so zero send there = absurd there
  sent_so (suc number) send there =
      elim (behind send (sent_to me inputs number) (step_at me inputs number).sends there) [
        | inl before ↦ (let so = sent_so number send before in record { at = so.at; before = omega (arith, so.before); sent = so.sent; ask = so.ask })
        | inr own ↦ record { at = number; before = omega arith; sent = own; ask = ask_rests number send own }
      ]
