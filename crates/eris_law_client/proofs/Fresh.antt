-- The next id of a client is new to it. Used where it submits.
use Rattle.std.proofs.Common.{◌≡◌, ◌≤◌, ◌+◌, ℕ, zero, suc, true, false, Option, Some, None, List, refl, ap, sym, ◌∙◌, arith, inl, inr}
use Rattle.std.specs.Prelude.{◌⊎◌, slice_get, ⊤}
use Rattle.std.proofs.lemmas.Bool.{both_ways, cases_Bool, eq-eqb}
use Rattle.eris_base.specs.declared.ids.TxnId.{TxnId}
use Rattle.eris_base.specs.TxnIds.{same_id}
use Rattle.eris_base.proofs.TxnIdLaws.{same_id-true}
use Rattle.eris_rules.specs.declared.transaction.Transaction.{Transaction}
use Rattle.eris_rules.specs.Clients.{begins_half, concludes, finishes, has_concluded, is_executed, is_told, own_id, submit}
use Rattle.eris_rules.specs.ClientStates.{ClientIdentity, ClientState, ClientOut, first_client, next_id, transaction_at, with_transaction}
use Rattle.eris_law_client.specs.ClientRuns.{AbortsOthers, Aborts, ClientInput, Gets, Retries, Submits, moment, perhaps}
use Rattle.eris_law_client.specs.Courses.{IsOfAnother}
use Rattle.eris_law_client.proofs.Entries.{found_other}
use Rattle.eris_law_client.proofs.Steps.{AsksAgain, Begins, BeginsAbort, Concludes, Executes, Leaf, Nothing, Reads, Refuses, Tells, WaitsOn, leaf}

-- no transaction of a number that isn't submitted
abbrev pub IsFresh : ClientIdentity → ClientState → Type 0
IsFresh me state = (number : ℕ) → suc state.submitted ≤ number → transaction_at state (own_id me number) ≡ None

-- an input asks for the abort of another's transaction alone
abbrev pub IsFair : ClientIdentity → ClientInput → Type 0
IsFair me (Submits txn) = ⊤
IsFair me (Retries number) = ⊤
IsFair me (Aborts id keys) = IsOfAnother me id
IsFair me (Gets message) = ⊤

pub fair : (me : ClientIdentity) (inputs : List ClientInput) → AbortsOthers me inputs → (number : ℕ) (input : ClientInput) → slice_get inputs number ≡ Some input → IsFair me input
fair me inputs others number (Submits txn) given = tt
fair me inputs others number (Retries again) given = tt
fair me inputs others number (Aborts id keys) given = others number id keys given
fair me inputs others number (Gets message) given = tt

module _ (me : ClientIdentity) (state : ClientState) (fresh : IsFresh me state) where
  -- a transaction that it knows changes
  known : (id : TxnId) (before after : Transaction) → transaction_at state id ≡ Some before → IsFresh me (with_transaction state id after)
  unfolding with_transaction
  known id before after is number above = found_other state id after (own_id me number) (apart (cases_Bool (same_id (own_id me number) id))) ∙ fresh number above
    where
      apart : ((same_id (own_id me number) id ≡ true) ⊎ (same_id (own_id me number) id ≡ false)) → same_id (own_id me number) id ≡ false
      apart (inl same) =
          let clash : Some before ≡ None = sym is ∙ (ap (λ (one : TxnId). transaction_at state one) (sym (same_id-true (own_id me number) id same)) ∙ fresh number above) in
          absurd (cc)
      apart (inr h) = h

  fresh_submit : (txn : _) → IsFresh me (submit me state txn).state
  unfolding submit begins_half with_transaction transaction_at
  fresh_submit txn number above =
      found_other (record state { submitted = state.submitted + 1 }) (next_id me state) _ (own_id me number) (apart (cases_Bool (same_id (own_id me number) (next_id me state)))) ∙ fresh number (omega (arith, above))
    where
      apart : ((same_id (own_id me number) (next_id me state) ≡ true) ⊎ (same_id (own_id me number) (next_id me state) ≡ false)) → same_id (own_id me number) (next_id me state) ≡ false
      apart (inl same) =
          let equal : number ≡ state.submitted + 1 = ap (λ (one : TxnId). one.number) (same_id-true (own_id me number) (next_id me state) same) in
          absurd (omega (arith, above, equal))
      apart (inr h) = h

  fresh_abort : (id : TxnId) (after : Transaction) → IsOfAnother me id → IsFresh me (with_transaction state id after)
  unfolding with_transaction
  fresh_abort id after another number above = found_other state id after (own_id me number) (apart (cases_Bool (same_id (own_id me number) id))) ∙ fresh number above
    where
      apart : ((same_id (own_id me number) id ≡ true) ⊎ (same_id (own_id me number) id ≡ false)) → same_id (own_id me number) id ≡ false
      apart (inl same) = absurd (both_ways _ another (eq-eqb id.client.0 me.client.0 (ap (λ (one : TxnId). one.client.0) (sym (same_id-true (own_id me number) id same)))))
      apart (inr h) = h

  fresh_step : (input : ClientInput) (out : ClientOut) → IsFair me input → Leaf me state input out → IsFresh me out.state
  unfolding begins_half finishes is_executed concludes has_concluded is_told
  fresh_step _ _ f (Nothing input) = fresh
  fresh_step _ _ f (Begins txn) = fresh_submit txn
  fresh_step _ _ f (AsksAgain input id transaction is unfinished) = fresh
  fresh_step _ _ f (BeginsAbort id keys none) = fresh_abort id _ f
  fresh_step _ _ f (WaitsOn message id before after heard) = known id before _ heard.waited
  fresh_step _ _ f (Executes message id before after heard whole operations is) = known id before _ heard.waited
  fresh_step _ _ f (Refuses message id before after heard whole plan is some) = known id before _ heard.waited
  fresh_step _ _ f (Reads message id before after heard whole plan is none) = known id before _ heard.waited
  fresh_step _ _ f (Concludes message id before after heard whole plan body is) = known id before _ heard.waited
  fresh_step _ _ f (Tells message id before after heard whole keys is) = known id before _ heard.waited

-- AT EVERY MOMENT the numbers above the last submitted one are new
module _ (me : ClientIdentity) (inputs : List ClientInput) (others : AbortsOthers me inputs) where
  fresh_perhaps : (number : ℕ) (found : Option ClientInput) → slice_get inputs number ≡ found → IsFresh me (moment me inputs number) → IsFresh me (perhaps me (moment me inputs number) found).state
  fresh_perhaps number None given fresh = fresh
  fresh_perhaps number (Some input) given fresh = fresh_step me (moment me inputs number) fresh input _ (fair me inputs others number input given) (leaf me (moment me inputs number) input)

  pub fresh_at : (number : ℕ) → IsFresh me (moment me inputs number)
  unfolding moment first_client transaction_at
  fresh_at zero = λ number above. refl
  fresh_at (suc before) = fresh_perhaps before (slice_get inputs before) refl (fresh_at before)
