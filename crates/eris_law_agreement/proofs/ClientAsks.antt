-- All that a client sends are asks to the sequencer. So no law of the servers has a case for clients.
use Rattle.std.proofs.Common.{ℕ, List, Bool, Option, Some, None}
use Rattle.std.specs.List.{list_any}
use Rattle.std.specs.Prelude.{if◌then◌else◌, ⊤}
use Rattle.std.proofs.lemmas.Bool.{cond_both}
use Rattle.eris_base.specs.declared.ids.Phase.{Phase}
use Rattle.eris_base.specs.declared.ids.ShardId.{ShardId}
use Rattle.eris_base.specs.declared.ids.TxnId.{TxnId}
use Rattle.eris_base.specs.Each.{Each}
use Rattle.eris_txn.specs.declared.answer.Answer.{Answer}
use Rattle.eris_txn.specs.declared.history.HistoryEvent.{HistoryEvent}
use Rattle.eris_txn.specs.declared.key.Key.{Key}
use Rattle.eris_txn.specs.declared.txn.Txn.{Txn}
use Rattle.eris_txn.specs.PlanValues.{PlanValue}
use Rattle.eris_general.specs.Outcomes.{is_aborted}
use Rattle.eris_msg.specs.declared.message.Message.{Message}
use Rattle.eris_msg.specs.declared.outgoing.Outgoing.{Outgoing}
use Rattle.eris_rules.specs.declared.transaction.Course.{Course}
use Rattle.eris_rules.specs.declared.transaction.Course.TheVariants.{Executing, Reading, Concluding, Aborting}
use Rattle.eris_rules.specs.declared.transaction.Transaction.{Transaction}
use Rattle.eris_rules.specs.declared.transaction.Vote.{Vote}
use Rattle.eris_rules.specs.Clients.{idle, begins_half, submit, asks_again, retries, own_id, retry, aborts, abort, finishes, is_executed, concludes, answers_counted, has_read, has_concluded, is_told, completes, goes_on, hears_vote_of, hears_vote, vote_row, hears_late_of, hears_late, late_row, client_takes, client_step}
use Rattle.eris_rules.specs.ClientStates.{ClientIdentity, ClientState, ClientOut, transaction_at, with_transaction}
use Rattle.eris_rules.specs.Votes.{with_vote, with_late}

-- an ask, to the sequencer
abbrev pub IsAsk : Message → Type 0
IsAsk (Message.Ask asker id body) = ⊤
IsAsk message = ⊥

abbrev pub AsksOnly : List Outgoing → Type 0
AsksOnly sends = Each (λ one. IsAsk one.message) sends

module _ (me : ClientIdentity) where
  Fine : ClientOut → Type 0
  Fine out = AsksOnly out.sends

  choose : (b : Bool) (x y : ClientOut) → Fine x → Fine y → Fine (if b then x else y)
  choose b x y f g = cond_both b x y Fine (λ h. f) (λ h. g)

  begins : (state : ClientState) (id : TxnId) (course : Course) (event : Option HistoryEvent) → Fine (begins_half me state id course event)
  unfolding Fine begins_half
  begins state id course event = (tt, tt)

  idles : (state : ClientState) → Fine (idle state)
  unfolding Fine
  idles state = tt

  again : (state : ClientState) (id : TxnId) (transaction : Transaction) → Fine (asks_again me state id transaction)
  unfolding asks_again Fine
  again state id transaction = choose transaction.finished _ _ (idles state) (tt, tt)

  pub submit_asks : (state : ClientState) (txn : Txn) → AsksOnly (submit me state txn).sends
  unfolding submit begins_half
  submit_asks state txn = (tt, tt)

  retry_found : (state : ClientState) (id : TxnId) (found : Option Transaction) → Fine (retries me state id found)
  retry_found state id None = idles state
  retry_found state id (Some transaction) = again state id transaction

  pub retry_asks : (state : ClientState) (number : ℕ) → AsksOnly (retry me state number).sends
  unfolding retry Fine
  retry_asks state number = retry_found state (own_id me number) (transaction_at state (own_id me number))

  abort_found : (state : ClientState) (id : TxnId) (keys : List Key) (found : Option Transaction) → Fine (aborts me state id keys found)
  abort_found state id keys None = begins state id (Aborting keys) None
  abort_found state id keys (Some transaction) = again state id transaction

  pub abort_asks : (state : ClientState) (id : TxnId) (keys : List Key) → AsksOnly (abort me state id keys).sends
  unfolding abort Fine
  abort_asks state id keys = abort_found state id keys (transaction_at state id)

  ends : (state : ClientState) (id : TxnId) (transaction : Transaction) (event : HistoryEvent) → Fine (finishes state id transaction event)
  unfolding Fine finishes
  ends state id transaction event = tt

  reads : (state : ClientState) (id : TxnId) (transaction : Transaction) (plan : PlanValue) → Fine (has_read me state id transaction plan)
  unfolding has_read concludes
  reads state id transaction plan = choose (list_any is_aborted (answers_counted transaction)) _ _ (ends _ _ _ _) (begins _ _ _ _)

  completed : (state : ClientState) (id : TxnId) (transaction : Transaction) (course : Course) → Fine (completes me state id transaction course)
  unfolding is_executed has_concluded is_told
  completed state id transaction (Executing ops) = ends _ _ _ _
  completed state id transaction (Reading plan) = reads state id transaction plan
  completed state id transaction (Concluding plan body) = ends _ _ _ _
  completed state id transaction (Aborting keys) = ends _ _ _ _

  went_on : (state : ClientState) (id : TxnId) (transaction : Transaction) → Fine (goes_on me state id transaction)
  unfolding goes_on
  went_on state id transaction = choose _ _ _ (completed state id transaction transaction.course) (idles (with_transaction state id transaction))

  vote_found : (state : ClientState) (id : TxnId) (phase : Phase) (vote : Vote) (found : Option Transaction) → Fine (hears_vote me state id phase vote found)
  unfolding hears_vote_of
  vote_found state id phase vote None = idles state
  vote_found state id phase vote (Some transaction) = choose _ _ _ (went_on state id (with_vote me.config.f transaction vote)) (idles state)

  late_found : (state : ClientState) (id : TxnId) (phase : Phase) (shard : ShardId) (answer : Answer) (found : Option Transaction) → Fine (hears_late me state id phase shard answer found)
  unfolding hears_late_of
  late_found state id phase shard answer None = idles state
  late_found state id phase shard answer (Some transaction) = choose _ _ _ (went_on state id (with_late transaction shard answer)) (idles state)

  takes_asks : (state : ClientState) (message : Message) → Fine (client_takes me state message)
  unfolding vote_row late_row
  takes_asks state (Message.Vouch view shard replica stamp id phase) = vote_found state id phase _ (transaction_at state id)
  takes_asks state (Message.Reply view shard replica stamp id phase answer) = vote_found state id phase _ (transaction_at state id)
  takes_asks state (Message.Late shard replica id phase answer) = late_found state id phase shard answer (transaction_at state id)
  takes_asks state message = idles state

  step_fine : (state : ClientState) (message : Message) → Fine (client_step me state message)
  unfolding client_step
  step_fine state message = choose _ _ _ (takes_asks state message) (idles state)

  pub step_asks : (state : ClientState) (message : Message) → AsksOnly (client_step me state message).sends
  unfolding Fine
  step_asks state message = step_fine state message
