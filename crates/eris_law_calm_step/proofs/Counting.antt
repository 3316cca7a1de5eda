-- A VOTE COMES to its client: it is noted, and where its shards are all counted by then, the client is answered.
use Rattle.std.proofs.Common.{◌≡◌, ◌⊎◌, inl, inr, ℕ, Bool, true, false, not, cond, Option, Some, None, List, [], ◌∷◌, ◌++◌, refl, ap, sym, ◌∙◌, subst}
use Rattle.std.proofs.lemmas.Bool.{and_from, and_left, cond-false, cond-true}
use Rattle.eris_base.specs.declared.ids.Phase.{Phase}
use Rattle.eris_base.specs.declared.ids.TxnId.{TxnId}
use Rattle.eris_base.specs.ConfigLimits.{ConfigValue}
use Rattle.eris_base.specs.TxnIds.{same_id}
use Rattle.eris_txn.specs.declared.answer.Answer.{Answer}
use Rattle.eris_txn.specs.declared.body.Body.{Body}
use Rattle.eris_txn.specs.declared.body.Body.TheVariants.{Independent}
use Rattle.eris_txn.specs.declared.history.HistoryEvent.{HistoryEvent}
use Rattle.eris_txn.specs.declared.op.Op.{Op}
use Rattle.eris_txn.specs.declared.txn.Txn.{Txn}
use Rattle.eris_rules.specs.declared.transaction.Course.{Course}
use Rattle.eris_rules.specs.declared.transaction.Course.TheVariants.{Executing}
use Rattle.eris_rules.specs.declared.transaction.Transaction.{Transaction}
use Rattle.eris_rules.specs.declared.transaction.Vote.{Vote}
use Rattle.eris_rules.specs.ClientStates.{ClientIdentity, ClientOut, ClientState, body_of, transaction_at, with_transaction}
use Rattle.eris_locks.specs.States.{phase_of, same_phase}
use Rattle.eris_rules.specs.Clients.{client_step, client_takes, completes, finishes, goes_on, hears_vote, hears_vote_of, idle, is_executed, vote_row}
use Rattle.eris_rules.specs.InPlace.{all_name_participants, is_in_place_at_client, is_sound}
use Rattle.eris_rules.specs.Known.{knows_all, knows_client}
use Rattle.eris_rules.specs.Votes.{is_complete, vote_fits, waits_for, with_vote}
use Rattle.eris_rules.specs.Worlds.{with_event}
use Rattle.eris_law_client.specs.Counts.{message_of, message_with}
use Rattle.eris_law_client.proofs.Entries.{found_other, found_put}
use Rattle.eris_law_epoch.specs.Members.{In}
use Rattle.eris_law_epoch.proofs.Members.{In-append, In-left}
use Rattle.eris_law_calm.specs.Calm.{IsOpen, IsRight}
use Rattle.eris_law_calm.specs.Noted.{CountsAll}
use Rattle.eris_law_calm.proofs.Moving.{Keeps}
use Rattle.eris_law_calm.proofs.Voting.{counts_more}

-- what the client's step does with one of its transactions
pub record Hears (f : ℕ) (state : ClientState) (id : TxnId) (before : Transaction) (vote : Vote) (out : ClientOut) : Type 0 where
  pub sends : out.sends ≡ []
  pub after : Transaction
  pub here : transaction_at out.state id ≡ Some after
  pub apart : (other : TxnId) → same_id other id ≡ false → transaction_at out.state other ≡ transaction_at state other
  pub submitted : out.state.submitted ≡ state.submitted
  pub course : after.course ≡ before.course
  pub result : ((before.finished ≡ true) × (after.finished ≡ true) × (out.event ≡ None))
      ⊎ (((after.finished ≡ true) × (answer : Answer) × (out.event ≡ Some (HistoryEvent.Answer id answer)))
      ⊎ ((before.finished ≡ false) × IsOpen f after × (after.votes ≡ before.votes ++ vote ∷ []) × (out.event ≡ None)))

module _ (me : ClientIdentity) (state : ClientState) (id : TxnId) (ops : List Op) (before : Transaction) (vote : Vote) (found : transaction_at state id ≡ Some before) (course : before.course ≡ Executing ops) (fits : vote_fits me.config.f (Independent ops) vote ≡ true) where
  abbrev f : ℕ
  f = me.config.f

  abbrev after : Transaction
  after = with_vote f before vote

  body_is : body_of before.course ≡ Independent ops
  body_is = ap (λ (c : Course). body_of c) course

  rests : before.finished ≡ true → Hears f state id before vote (idle state)
  rests finished = record {
    sends = refl;
    after = before;
    here = found;
    apart = λ other apart. refl;
    submitted = refl;
    course = refl;
    result = inl (finished, finished, refl);
  }

  same_course : after.course ≡ before.course
  unfolding with_vote
  same_course = refl

  still_open : after.finished ≡ before.finished
  unfolding with_vote
  still_open = refl

  more_votes : after.votes ≡ before.votes ++ vote ∷ []
  unfolding with_vote
  more_votes = refl

  puts : (transaction : Transaction) (event : Option HistoryEvent) → transaction.course ≡ before.course
      → (((transaction.finished ≡ true) × (answer : Answer) × (event ≡ Some (HistoryEvent.Answer id answer))) ⊎ ((before.finished ≡ false) × IsOpen f transaction × (transaction.votes ≡ before.votes ++ vote ∷ []) × (event ≡ None)))
      → Hears f state id before vote (record { state = with_transaction state id transaction; sends = []; event = event })
  unfolding with_transaction
  puts transaction event same result = record {
    sends = refl;
    after = transaction;
    here = found_put state id transaction;
    apart = λ other apart. found_other state id transaction other apart;
    submitted = refl;
    course = same;
    result = inr result;
  }

  hears_on : before.finished ≡ false → CountsAll f before.votes before.counted → Hears f state id before vote (goes_on me state id after)
  unfolding goes_on is_executed finishes
  hears_on unfinished counts = by_test (is_complete after) refl
    where
      by_test : (b : Bool) → is_complete after ≡ b → Hears f state id before vote (cond b (completes me state id after after.course) (idle (with_transaction state id after)))
      by_test true whole = subst (λ (c : Course). Hears f state id before vote (completes me state id after c)) (sym (same_course ∙ course))
          (puts (record after { finished = true }) _ same_course (inl (refl, _, refl)))
      by_test false not_whole = puts after None same_course (inr (unfinished, record { unfinished = still_open ∙ unfinished; incomplete = not_whole; counts = counts_more f before vote counts }, more_votes, refl))

  waits : before.finished ≡ false → waits_for before Phase.Whole ≡ true
  unfolding waits_for
  waits unfinished = and_from _ _ (ap not unfinished) (ap (λ (b : Body). same_phase Phase.Whole (phase_of b)) body_is)

  rests_too : before.finished ≡ true → waits_for before Phase.Whole ≡ false
  unfolding waits_for
  rests_too finished = and_left _ _ (ap not finished)

  fits_here : vote_fits f (body_of before.course) vote ≡ true
  fits_here = ap (λ (b : Body). vote_fits f b vote) body_is ∙ fits

  -- the client hears the vote
  hears_it : ((before.finished ≡ true) ⊎ ((before.finished ≡ false) × CountsAll f before.votes before.counted)) → Hears f state id before vote (hears_vote_of me state id Phase.Whole vote before)
  unfolding hears_vote_of
  hears_it (inl finished) = subst (Hears f state id before vote) (sym (cond-false _ _ _ (and_left _ _ (rests_too finished)))) (rests finished)
  hears_it (inr opened) = subst (Hears f state id before vote) (sym (cond-true _ _ _ (and_from _ _ (waits opened.0) fits_here))) (hears_on opened.0 opened.1)

  takes_vote : (given : Option Answer) → client_takes me state (message_with vote id Phase.Whole given) ≡ vote_row me state id Phase.Whole (record vote { answer = given })
  takes_vote None = refl
  takes_vote (Some answer) = refl

  pub heard : is_in_place_at_client me.config (message_of vote id Phase.Whole) ≡ true → ((before.finished ≡ true) ⊎ ((before.finished ≡ false) × CountsAll f before.votes before.counted))
      → Hears f state id before vote (client_step me state (message_of vote id Phase.Whole))
  unfolding client_step vote_row
  heard in_place how =
      subst (Hears f state id before vote)
      (sym (cond-true _ _ _ in_place ∙ takes_vote vote.answer ∙ ap (λ (one : Option Transaction). hears_vote me state id Phase.Whole vote one) found))
      (hears_it how)

-- ---- a vote is one of its message
pub same_vote : (v w : Vote) (i j : TxnId) (given other : Option Answer) → v.answer ≡ given → w.answer ≡ other → message_with v i Phase.Whole given ≡ message_with w j Phase.Whole other → (i ≡ j) × (v ≡ w)
same_vote v w i j None None gv gw h =
    let shard : v.shard ≡ w.shard = cc in
    let replica : v.replica ≡ w.replica = cc in
    let view : v.view ≡ w.view = cc in
    let stamp : v.stamp ≡ w.stamp = cc in
    let answer : v.answer ≡ w.answer = gv ∙ sym gw in
    let id : i ≡ j = cc in
    (id, λ k. record { shard = shard k; replica = replica k; view = view k; stamp = stamp k; answer = answer k })
same_vote v w i j (Some a) (Some b) gv gw h =
    let shard : v.shard ≡ w.shard = cc in
    let replica : v.replica ≡ w.replica = cc in
    let view : v.view ≡ w.view = cc in
    let stamp : v.stamp ≡ w.stamp = cc in
    let given : a ≡ b = cc in
    let answer : v.answer ≡ w.answer = gv ∙ ap (λ (x : Answer). Some x) given ∙ sym gw in
    let id : i ≡ j = cc in
    (id, λ k. record { shard = shard k; replica = replica k; view = view k; stamp = stamp k; answer = answer k })
same_vote v w i j None (Some b) gv gw h = absurd (cc)
same_vote v w i j (Some a) None gv gw h = absurd (cc)

pub in_place_by : (config : ConfigValue) (ops : List Op) (id : TxnId) (vote : Vote) (given : Option Answer) → knows_client config id.client ≡ true → IsRight config ops vote → is_in_place_at_client config (message_with vote id Phase.Whole given) ≡ true
unfolding is_in_place_at_client is_sound knows_all all_name_participants
in_place_by config ops id vote None known right = and_from _ _ (and_from _ _ right.shard (and_from _ _ right.replica (and_from _ _ right.stamp known))) refl
in_place_by config ops id vote (Some answer) known right = and_from _ _ (and_from _ _ right.shard (and_from _ _ right.replica (and_from _ _ right.stamp known))) refl

-- ---- the history
pub keeps_with : (history : List HistoryEvent) (event : Option HistoryEvent) → Keeps history (with_event history event)
keeps_with history None one i = i
keeps_with history (Some event) one i = In-left one history (event ∷ []) i

-- an event that submits nothing
pub submits_none : (history : List HistoryEvent) (event : Option HistoryEvent) (id : TxnId) → (event ≡ None) ⊎ ((answer : Answer) × (event ≡ Some (HistoryEvent.Answer id answer)))
    → (other : TxnId) (txn : Txn) → In (HistoryEvent.Submit other txn) (with_event history event) → In (HistoryEvent.Submit other txn) history
submits_none history event id (inl none) other txn i = subst (λ (e : Option HistoryEvent). In (HistoryEvent.Submit other txn) (with_event history e)) none i
submits_none history event id (inr given) other txn i = by_time (In-append _ history (HistoryEvent.Answer id given.0 ∷ []) (subst (λ (e : Option HistoryEvent). In (HistoryEvent.Submit other txn) (with_event history e)) given.1 i))
  where
    by_time : In (HistoryEvent.Submit other txn) history ⊎ In (HistoryEvent.Submit other txn) (HistoryEvent.Answer id given.0 ∷ []) → In (HistoryEvent.Submit other txn) history
    by_time (inl old) = old
    by_time (inr (inl clash)) = absurd (cc)
    by_time (inr (inr none)) = absurd none
