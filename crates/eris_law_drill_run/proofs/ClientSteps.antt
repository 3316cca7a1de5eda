-- WHAT A CLIENT'S STEP LEAVES where it submits nothing: it has submitted as many, it knows each transaction that it knew, and
-- nothing more is submitted in the history.
use Rattle.std.proofs.Common.{◌≡◌, ◌⊎◌, inl, inr, ℕ, true, false, Option, is_some, List, [], ◌∷◌, ◌++◌, refl, ap, ◌∙◌, append-nil}
use Rattle.std.specs.Prelude.{⊤}
use Rattle.std.proofs.lemmas.Bool.{cases_Bool}
use Rattle.eris_base.specs.declared.ids.TxnId.{TxnId}
use Rattle.eris_base.specs.TxnIds.{same_id}
use Rattle.eris_base.proofs.TxnIdLaws.{same_id-true}
use Rattle.eris_txn.specs.declared.history.HistoryEvent.{HistoryEvent}
use Rattle.eris_txn.specs.declared.history.HistoryEvent.TheVariants as history
use Rattle.eris_txn.specs.declared.txn.Txn.{Txn}
use Rattle.eris_msg.specs.declared.message.Message.{Message}
use Rattle.eris_rules.specs.declared.transaction.Transaction.{Transaction}
use Rattle.eris_rules.specs.Clients.{begins_half, client_step, concludes, finishes, has_concluded, is_executed, is_told, retry}
use Rattle.eris_rules.specs.ClientStates.{ClientIdentity, ClientOut, ClientState, transaction_at, with_transaction}
use Rattle.eris_rules.specs.Worlds.{with_event}
use Rattle.eris_law_client.specs.ClientRuns.{ClientInput, Submits, Retries, Aborts, Gets, client_does}
use Rattle.eris_law_client.proofs.Entries.{found_other, found_put}
use Rattle.eris_law_client.proofs.Steps.{AsksAgain, Begins, BeginsAbort, Concludes, Executes, Leaf, Nothing, Reads, Refuses, Tells, WaitsOn, leaf}
use Rattle.eris_law_drill_run.specs.Submissions.{submissions}

-- the client has a transaction of this id
abbrev pub Known : ClientState → TxnId → Type 0
Known state id = is_some (transaction_at state id) ≡ true

pub submissions-append : (events more : List HistoryEvent) → submissions (events ++ more) ≡ submissions events ++ submissions more
submissions-append [] more = refl
submissions-append (history.Submit id txn ∷ events) more = ap (λ (all : List (TxnId × Txn)). (id, txn) ∷ all) (submissions-append events more)
submissions-append (history.Read id values ∷ events) more = submissions-append events more
submissions-append (history.Answer id answer ∷ events) more = submissions-append events more
submissions-append (history.Told asker id answer ∷ events) more = submissions-append events more

-- an event that submits nothing
silent_event : (events : List HistoryEvent) (event : HistoryEvent) → submissions (event ∷ []) ≡ [] → submissions (events ++ event ∷ []) ≡ submissions events
silent_event events event none =
    submissions-append events (event ∷ []) ∙ ap (λ (more : List (TxnId × Txn)). submissions events ++ more) none ∙ append-nil (submissions events)

-- what is known stays known
pub known_put : (state : ClientState) (id : TxnId) (transaction : Transaction) (other : TxnId) → Known state other → Known (with_transaction state id transaction) other
known_put state id transaction other known = by_id (cases_Bool (same_id other id))
  where
    by_id : ((same_id other id ≡ true) ⊎ (same_id other id ≡ false)) → Known (with_transaction state id transaction) other
    by_id (inl same) =
        ap (λ (one : TxnId). is_some (transaction_at (with_transaction state id transaction) one)) (same_id-true other id same)
        ∙ ap (λ (found : Option Transaction). is_some found) (found_put state id transaction)
    by_id (inr apart) = ap (λ (found : Option Transaction). is_some found) (found_other state id transaction other apart) ∙ known

pub record Keeps (state : ClientState) (out : ClientOut) : Type 0 where
  pub count : out.state.submitted ≡ state.submitted
  pub known : (id : TxnId) → Known state id → Known out.state id
  pub silent : (events : List HistoryEvent) → submissions (with_event events out.event) ≡ submissions events

-- it isn't called to submit
abbrev pub IsQuiet : ClientInput → Type 0
IsQuiet (Submits txn) = ⊥
IsQuiet (Retries number) = ⊤
IsQuiet (Aborts id keys) = ⊤
IsQuiet (Gets message) = ⊤

put_count : (state : ClientState) (id : TxnId) (transaction : Transaction) → (with_transaction state id transaction).submitted ≡ state.submitted
unfolding with_transaction
put_count state id transaction = refl

module _ (me : ClientIdentity) (state : ClientState) where
  by_leaf : (input : ClientInput) (out : ClientOut) → Leaf me state input out → IsQuiet input → Keeps state out
  unfolding begins_half finishes is_executed concludes has_concluded is_told
  by_leaf _ _ (Nothing input) quiet = record { count = refl; known = λ id known. known; silent = λ events. refl }
  by_leaf _ _ (Begins txn) quiet = absurd quiet
  by_leaf _ _ (AsksAgain input id transaction is unfinished) quiet = record { count = refl; known = λ other known. known; silent = λ events. refl }
  by_leaf _ _ (BeginsAbort id keys none) quiet = record { count = put_count state id _; known = known_put state id _; silent = λ events. refl }
  by_leaf _ _ (WaitsOn message id before after heard) quiet = record { count = put_count state id _; known = known_put state id after; silent = λ events. refl }
  by_leaf _ _ (Executes message id before after heard whole operations is) quiet =
      record { count = put_count state id _; known = known_put state id _; silent = λ events. silent_event events _ refl }
  by_leaf _ _ (Refuses message id before after heard whole plan is some) quiet =
      record { count = put_count state id _; known = known_put state id _; silent = λ events. silent_event events _ refl }
  by_leaf _ _ (Reads message id before after heard whole plan is none) quiet =
      record { count = put_count state id _; known = known_put state id _; silent = λ events. silent_event events _ refl }
  by_leaf _ _ (Concludes message id before after heard whole plan body is) quiet =
      record { count = put_count state id _; known = known_put state id _; silent = λ events. silent_event events _ refl }
  by_leaf _ _ (Tells message id before after heard whole keys is) quiet =
      record { count = put_count state id _; known = known_put state id _; silent = λ events. silent_event events _ refl }

  pub retry_keeps : (number : ℕ) → Keeps state (retry me state number)
  unfolding client_does
  retry_keeps number = by_leaf (Retries number) _ (leaf me state (Retries number)) tt

  pub message_keeps : (message : Message) → Keeps state (client_step me state message)
  unfolding client_does
  message_keeps message = by_leaf (Gets message) _ (leaf me state (Gets message)) tt
