-- A transaction that was taken out goes on as if it were still there. Used where it hears a vote or a late answer.
use Rattle.std.proofs.Common.{◌≡◌, ℕ, Bool, true, false, cond, Option, Some, None, List, [], ap}
use Rattle.std.specs.List.{list_any}
use Rattle.eris_base.specs.declared.ids.TxnId.{TxnId}
use Rattle.eris_txn.specs.declared.answer.Answer.{Answer}
use Rattle.eris_txn.specs.declared.history.HistoryEvent.{HistoryEvent}
use Rattle.eris_txn.specs.PlanValues.{PlanValue}
use Rattle.eris_general.specs.Outcomes.{is_aborted}
use Rattle.eris_msg.specs.declared.outgoing.Outgoing.{Outgoing}
use Rattle.eris_rules.specs.declared.transaction.Course.{Course}
use Rattle.eris_rules.specs.declared.transaction.Course.TheVariants.{Executing, Reading, Concluding, Aborting}
use Rattle.eris_rules.specs.declared.transaction.Transaction.{Transaction}
use Rattle.eris_rules.specs.ClientStates.{ClientIdentity, ClientOut, ClientState, body_of, with_transaction}
use Rattle.eris_rules.specs.Clients.{all_values, answers_counted, begins_half, completes, concludes, finishes, goes_on, has_concluded, has_read, is_executed, is_told}
use Rattle.eris_rules.specs.Votes.{is_complete}
use Rattle.eris_client.proofs.Entries.{put_again}

module _ (me : ClientIdentity) (state : ClientState) (id : TxnId) (before : Transaction) where
  abbrev there : ClientState
  there = with_transaction state id before

  abbrev out : ClientState → List Outgoing → Option HistoryEvent → ClientOut
  out made sends event = record { state = made; sends = sends; event = event }

  put_out : (after : Transaction) (sends : List Outgoing) (event : Option HistoryEvent)
      → out (with_transaction there id after) sends event ≡ out (with_transaction state id after) sends event
  put_out after sends event = ap (λ (made : ClientState). out made sends event) (put_again state id before after)

  finishes_so : (transaction : Transaction) (event : HistoryEvent) → finishes there id transaction event ≡ finishes state id transaction event
  unfolding finishes
  finishes_so transaction event = put_out (record transaction { finished = true }) [] (Some event)

  begins_so : (course : Course) (event : Option HistoryEvent) → begins_half me there id course event ≡ begins_half me state id course event
  unfolding begins_half
  begins_so course event = put_out _ _ event

  concludes_so : (plan : PlanValue) (values : List (Option ℕ)) → concludes me there id plan values ≡ concludes me state id plan values
  unfolding concludes
  concludes_so plan values = begins_so _ _

  reads_so : (transaction : Transaction) (plan : PlanValue) → has_read me there id transaction plan ≡ has_read me state id transaction plan
  unfolding has_read concludes
  reads_so transaction plan = by_test (list_any is_aborted (answers_counted transaction))
    where
      aborted : HistoryEvent
      aborted = HistoryEvent.Answer id Answer.Aborted

      values : List (Option ℕ)
      values = all_values (body_of transaction.course) transaction.counted

      by_test : (test : Bool) → cond test (finishes there id transaction aborted) (concludes me there id plan values) ≡ cond test (finishes state id transaction aborted) (concludes me state id plan values)
      by_test true = finishes_so transaction aborted
      by_test false = concludes_so plan values

  completes_so : (transaction : Transaction) (course : Course) → completes me there id transaction course ≡ completes me state id transaction course
  unfolding is_executed has_concluded is_told
  completes_so transaction (Executing ops) = finishes_so transaction _
  completes_so transaction (Reading plan) = reads_so transaction plan
  completes_so transaction (Concluding plan body) = finishes_so transaction _
  completes_so transaction (Aborting keys) = finishes_so transaction _

  goes_on_so : (transaction : Transaction) → goes_on me there id transaction ≡ goes_on me state id transaction
  unfolding goes_on
  goes_on_so transaction = by_test (is_complete transaction)
    where
      by_test : (test : Bool) → cond test (completes me there id transaction transaction.course) (out (with_transaction there id transaction) [] None)
          ≡ cond test (completes me state id transaction transaction.course) (out (with_transaction state id transaction) [] None)
      by_test true = completes_so transaction transaction.course
      by_test false = put_out transaction [] None

pub goes_on_as_there : (me : ClientIdentity) (state : ClientState) (id : TxnId) (before after : Transaction)
    → goes_on me (with_transaction state id before) id after ≡ goes_on me state id after
goes_on_as_there me state id before after = goes_on_so me state id before after

pub ruleset goes_on_taken = (goes_on_as_there)
