-- An ask's body in the words of evidence; and what a counted shard's messages say. Used where evidence is made.
use Rattle.std.proofs.Common.{◌≡◌, ℕ, true, ◌&&◌, Option, Some, None, unwrap_or, List, [], ◌∷◌, refl, ap, sym, subst, inl, inr}
use Rattle.std.specs.Prelude.{is_some}
use Rattle.std.proofs.lemmas.Bool.{and_parts, both_ways, eq-eqb}
use Rattle.eris_base.specs.declared.ids.ClientId.{ClientId}
use Rattle.eris_base.specs.declared.ids.Phase.{Phase}
use Rattle.eris_base.specs.declared.ids.ShardId.{ShardId}
use Rattle.eris_base.specs.declared.ids.TxnId.{TxnId}
use Rattle.eris_base.specs.Quorums.{learner_of}
use Rattle.eris_txn.specs.declared.answer.Answer.{Answer}
use Rattle.eris_txn.specs.declared.body.Body.{Body}
use Rattle.eris_txn.specs.declared.history.HistoryEvent.{HistoryEvent}
use Rattle.eris_txn.specs.declared.history.HistoryEvent.TheVariants.{Submit, Read}
use Rattle.eris_txn.specs.declared.txn.Txn.{Txn}
use Rattle.eris_txn.specs.declared.txn.Txn.TheVariants.{Whole, General}
use Rattle.eris_audit.specs.Histories.{is_submitted, txn_of}
use Rattle.eris_locks.specs.States.{phase_of}
use Rattle.eris_msg.specs.declared.message.Message.{Message}
use Rattle.eris_rules.specs.declared.transaction.Vote.{Vote}
use Rattle.eris_rules.specs.ClientStates.{ClientIdentity}
use Rattle.eris_rules.specs.InPlace.{all_name_participants, has_right_log, has_right_part, is_for_client, is_in_place_at_client, is_sound, packets_in}
use Rattle.eris_rules.specs.Known.{knows_all, knows_id, knows_replica, knows_shard, knows_stamp}
use Rattle.eris_serial.specs.Evidence.{BodyOrigin, HasCommitOrigin, IsIn}
use Rattle.eris_serial.proofs.Runnable.{Each-in}
use Rattle.eris_law_client.specs.ClientRuns.{ClientInput, history_to}
use Rattle.eris_law_client.specs.Counts.{CameFor, CountedByVotes, IsVoteFor, IsVoteOf, message_of, message_with}
use Rattle.eris_law_client.specs.Courses.{IsOwn, events_of}
use Rattle.eris_law_client.specs.Rests.{AskRests, AsksAbort, AsksAnothers, AsksCommit, AsksPrelim, AsksWhole}
use Rattle.eris_law_client.proofs.Events.{event_there, txn_by_events}

module _ (me : ClientIdentity) (inputs : List ClientInput) (number : ℕ) (id : TxnId) where
  abbrev history : List HistoryEvent
  history = history_to me inputs number

  -- the transaction of an own id, by the id's events
  pub txn_is : (txn : Txn) (rest : List HistoryEvent) → events_of id history ≡ Submit id txn ∷ rest → txn_of history id ≡ txn
  txn_is txn rest are = ap (λ (found : Option Txn). unwrap_or found (Whole [])) (txn_by_events id history rest txn are)

  pub submitted : (txn : Txn) (rest : List HistoryEvent) → events_of id history ≡ Submit id txn ∷ rest → is_submitted history id ≡ true
  submitted txn rest are = ap (λ (found : Option Txn). is_some found) (txn_by_events id history rest txn are)

  -- a Read that is the second event of an id stands in the history
  read_there : (txn : Txn) (values : List (Option ℕ)) → events_of id history ≡ Submit id txn ∷ Read id values ∷ [] → IsIn (Read id values) history
  read_there txn values are = event_there id history (Read id values) (subst (λ (l : List HistoryEvent). IsIn (Read id values) l) (sym are) (inr (inl refl)))

  -- AN ASK'S BODY is its transaction's
  pub body_origin : (body : Body) → AskRests me inputs number id body → BodyOrigin (txn_of history id) body
  body_origin body (AsksWhole operations own are is) = subst (BodyOrigin (txn_of history id)) (sym is) (txn_is (Whole operations) [] are)
  body_origin body (AsksPrelim plan own are is) = subst (BodyOrigin (txn_of history id)) (sym is) (plan, txn_is (General plan) [] are, refl)
  body_origin body (AsksCommit rests) = subst (BodyOrigin (txn_of history id)) (sym rests.body_is) tt
  body_origin body (AsksAbort rests) = subst (BodyOrigin (txn_of history id)) (sym rests.body_is) tt
  body_origin body (AsksAnothers keys another called is) = subst (BodyOrigin (txn_of history id)) (sym is) tt

  -- A COMMIT'S WRITES are made of a Read of the history
  pub commit_origin : (body : Body) → AskRests me inputs number id body → HasCommitOrigin history id body
  commit_origin body (AsksWhole operations own are is) = subst (HasCommitOrigin history id) (sym is) tt
  commit_origin body (AsksPrelim plan own are is) = subst (HasCommitOrigin history id) (sym is) tt
  commit_origin body (AsksCommit rests) =
      subst (HasCommitOrigin history id) (sym rests.body_is)
      (record {
        values = rests.values;
        read = read_there (General rests.plan) rests.values rests.events_are;
        plan = rests.plan;
        is = txn_is (General rests.plan) (Read id rests.values ∷ []) rests.events_are;
        guards = rests.guards;
        writes_are = refl;
      })
  commit_origin body (AsksAbort rests) = subst (HasCommitOrigin history id) (sym rests.body_is) tt
  commit_origin body (AsksAnothers keys another called is) = subst (HasCommitOrigin history id) (sym is) tt

-- AN OWN ID IS SUBMITTED before an Ask of it is sent
pub ask_submitted : (me : ClientIdentity) (inputs : List ClientInput) (number : ℕ) (id : TxnId) (body : Body) → AskRests me inputs number id body → IsOwn me id → is_submitted (history_to me inputs number) id ≡ true
ask_submitted me inputs number id body (AsksWhole operations own are is) _ = submitted me inputs number id (Whole operations) [] are
ask_submitted me inputs number id body (AsksPrelim plan own are is) _ = submitted me inputs number id (General plan) [] are
ask_submitted me inputs number id body (AsksCommit rests) _ = submitted me inputs number id (General rests.plan) (Read id rests.values ∷ []) rests.events_are
ask_submitted me inputs number id body (AsksAbort rests) _ = submitted me inputs number id (General rests.plan) (Read id rests.values ∷ []) rests.events_are
ask_submitted me inputs number id body (AsksAnothers keys another called is) own = absurd (both_ways _ another (eq-eqb id.client.0 me.client.0 (ap (λ (c : ClientId). c.0) own)))

-- ---- the messages behind a counted shard
module _ (me : ClientIdentity) (inputs : List ClientInput) (number : ℕ) (id : TxnId) (body : Body) where
  -- the Reply that counted a shard: of the learner of the view, with the answer
  pub reply_came : (shard : ShardId) (answer : Answer) (by : CountedByVotes me inputs number id body shard answer)
      → CameFor me inputs number id body (Message.Reply by.view shard (learner_of by.view me.config.f) by.stamp id (phase_of body) answer)
  reply_came shard answer by =
      let is = Each-in (IsVoteFor me inputs number id body) by.votes by.reply by.each by.among in
      let of_one = Each-in (IsVoteOf shard by.view by.stamp) by.votes by.reply by.of_one by.among in
      subst (CameFor me inputs number id body)
      (λ i. message_with (record { shard = of_one.shard_is i; replica = by.learner i; view = of_one.view_is i; stamp = of_one.stamp_is i; answer = by.answered i }) id (phase_of body) (by.answered i))
      is.came

  sound_knows : (message : Message) → is_in_place_at_client me.config message ≡ true → knows_all me.config message ≡ true
  unfolding is_in_place_at_client is_sound
  sound_knows message h =
      let sound = and_parts (is_for_client message) (is_sound me.config message) h in
      (and_parts (knows_all me.config message) (all_name_participants (packets_in message) && (has_right_part message && has_right_log message)) sound.1).0

  knows_voter : (vote : Vote) (phase : Phase) (found : Option Answer) → knows_all me.config (message_with vote id phase found) ≡ true → knows_replica me.config vote.replica ≡ true
  unfolding knows_all
  knows_voter vote phase None h =
      (and_parts (knows_replica me.config vote.replica) (knows_stamp me.config vote.stamp && knows_id me.config id)
      (and_parts (knows_shard me.config vote.shard) (knows_replica me.config vote.replica && (knows_stamp me.config vote.stamp && knows_id me.config id)) h).1).0
  knows_voter vote phase (Some answer) h =
      (and_parts (knows_replica me.config vote.replica) (knows_stamp me.config vote.stamp && knows_id me.config id)
      (and_parts (knows_shard me.config vote.shard) (knows_replica me.config vote.replica && (knows_stamp me.config vote.stamp && knows_id me.config id)) h).1).0

  -- a voter is a replica of the config
  pub voter_known : (vote : Vote) → IsVoteFor me inputs number id body vote → knows_replica me.config vote.replica ≡ true
  voter_known vote is = knows_voter vote (phase_of body) vote.answer (sound_knows (message_of vote id (phase_of body)) is.came.in_place)
