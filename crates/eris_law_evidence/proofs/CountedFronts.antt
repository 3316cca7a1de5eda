-- From what a client counted to fronts of the order: the messages that it counted were sent, so its answers are said
-- over the order, from the moment on by which all that came to it was sent.
use Rattle.std.proofs.Common.{◌≡◌, inl, inr, ℕ, ◌≤◌, ◌<◌, ◌+◌, ◌*◌, List, [], ◌∷◌, map, true, ◌==◌, Option, Some, None, sym, ap, ◌∙◌, subst}
use Rattle.std.proofs.lemmas.Bool.{eqb-true, ltb-true, or_cases}
use Rattle.eris_base.specs.declared.ids.Phase.{Phase}
use Rattle.eris_base.specs.declared.ids.ReplicaId.{ReplicaId}
use Rattle.eris_base.specs.declared.ids.ShardId.{ShardId}
use Rattle.eris_base.specs.declared.ids.TxnId.{TxnId}
use Rattle.eris_base.specs.declared.ids.View.{View}
use Rattle.eris_base.specs.declared.stamp.Stamp.{Stamp}
use Rattle.eris_base.specs.ConfigLimits.{ConfigValue}
use Rattle.eris_base.specs.Each.{Each}
use Rattle.eris_base.specs.Quorums.{has_replica}
use Rattle.eris_txn.specs.declared.answer.Answer.{Answer}
use Rattle.eris_txn.specs.declared.body.Body.{Body}
use Rattle.eris_txn.specs.declared.packet.Packet.{Packet}
use Rattle.eris_locks.specs.Shards.{on_shard}
use Rattle.eris_locks.specs.States.{phase_of}
use Rattle.eris_msg.specs.declared.message.Message.{Message}
use Rattle.eris_msg.specs.declared.outgoing.Outgoing.{Outgoing}
use Rattle.eris_event.specs.declared.event.Event.{Event}
use Rattle.eris_rules.specs.declared.transaction.Vote.{Vote}
use Rattle.eris_rules.specs.ClientStates.{ClientIdentity}
use Rattle.eris_rules.specs.WorldOrders.{order, order_on}
use Rattle.eris_serial.specs.Evidence.{SaidOn}
use Rattle.eris_serial.proofs.SaidByLogs.{said_by_log, on_shard-append}
use Rattle.eris_law_epoch.proofs.Frame.{replica_equal}
use Rattle.eris_law_agreement.specs.EpochRuns.{servers_at}
use Rattle.eris_law_agreement.specs.WorldMoments.{world_at}
use Rattle.eris_law_client.specs.Bridges.{CountedIsSaid}
use Rattle.eris_law_client.specs.ClientRuns.{ClientInput}
use Rattle.eris_law_client.specs.Counts.{ByLate, ByVotes, CameFor, CountedByVotes, CountedOn, IsCounted, IsVoteFor, IsVoteOf, message_with}
use Rattle.eris_law_client.proofs.Origins.{reply_came, voter_known}
use Rattle.eris_law_evidence.specs.Fronts.{IsSaidFrom}
use Rattle.eris_law_evidence.specs.Heard.{AllWasSent, ByReply, ByVouch, WasAnswered, WasSent, WasSpoken}
use Rattle.eris_law_evidence.proofs.Prompts.{on_shard-same}
use Rattle.eris_law_evidence.proofs.SaidFronts.{late_front, replies_front}

-- what is said from a moment on is said over the order at every later one
pub over_the_order : (config : ConfigValue) (events : List Event) (j k : ℕ) → j ≤ k → (shard : ShardId) (id : TxnId) (phase : Phase) (answer : Answer) → IsSaidFrom config events j shard id phase answer
    → SaidOn shard id phase answer (order (world_at config events k))
unfolding order_on
over_the_order config events j k le shard id phase answer said =
    let front = said.begins k le in
    let all : List Packet = order (world_at config events k) in
    said_by_log shard id phase answer all (on_shard shard said.log) (on_shard shard front.rest)
    (on_shard-same shard all ∙ ap (on_shard shard) front.joined ∙ on_shard-append shard said.log front.rest) said.said

module _ (me : ClientIdentity) (inputs : List ClientInput) (number : ℕ) (sent : List Outgoing) (all : AllWasSent me.config sent inputs number) (id : TxnId) (body : Body) where
  came_sent : (message : Message) → CameFor me inputs number id body message → WasSent sent message
  came_sent message came = all came.at message came.before came.given came.in_place

  spoken_by : (vote : Vote) (answer : Option Answer) → WasSent sent (message_with vote id (phase_of body) answer) → WasSpoken sent vote.view vote.shard vote.stamp id (phase_of body) vote.replica
  spoken_by vote None was = ByVouch was
  spoken_by vote (Some answer) was = ByReply answer was

  -- a vote that agrees
  voted : (shard : ShardId) (view : View) (stamp : Stamp) (vote : Vote) → IsVoteFor me inputs number id body vote → IsVoteOf shard view stamp vote → WasSpoken sent view shard stamp id (phase_of body) vote.replica
  voted shard view stamp vote is of =
      subst (λ (v : View). WasSpoken sent v shard stamp id (phase_of body) vote.replica) of.view_is
      (subst (λ (s : ShardId). WasSpoken sent vote.view s stamp id (phase_of body) vote.replica) of.shard_is
      (subst (λ (s : Stamp). WasSpoken sent vote.view vote.shard s id (phase_of body) vote.replica) of.stamp_is
      (spoken_by vote vote.answer (came_sent (message_with vote id (phase_of body) vote.answer) is.came))))

  voters : (shard : ShardId) (view : View) (stamp : Stamp) (votes : List Vote) → Each (IsVoteFor me inputs number id body) votes → Each (IsVoteOf shard view stamp) votes
      → (replica : ReplicaId) → has_replica (map (λ (vote : Vote). vote.replica) votes) replica ≡ true → WasSpoken sent view shard stamp id (phase_of body) replica
  voters shard view stamp [] is of replica h = absurd (cc)
  voters shard view stamp (vote ∷ votes) is of replica h = elim (or_cases (replica.0 == vote.replica.0) (has_replica (map (λ (v : Vote). v.replica) votes) replica) h) [
    | inl same ↦ subst (WasSpoken sent view shard stamp id (phase_of body)) (sym (replica_equal replica vote.replica (eqb-true _ _ same))) (voted shard view stamp vote is.0 of.0)
    | inr later ↦ voters shard view stamp votes is.1 of.1 replica later
  ]

  voters_known : (votes : List Vote) → Each (IsVoteFor me inputs number id body) votes → Each (λ (one : ReplicaId). one.0 < 2 * me.config.f + 1) (map (λ (vote : Vote). vote.replica) votes)
  voters_known [] is = tt
  voters_known (vote ∷ votes) is = (ltb-true _ _ (voter_known me inputs number id body vote is.0), voters_known votes is.1)

  -- COUNTED BY VOTES: it was answered by a quorum
  answered : (shard : ShardId) (answer : Answer) → CountedByVotes me inputs number id body shard answer → WasAnswered me.config sent shard id (phase_of body) answer
  answered shard answer by = record {
    view = by.view;
    stamp = by.stamp;
    who = map (λ (vote : Vote). vote.replica) by.votes;
    quorum = record { below = voters_known by.votes by.each; many = by.quorum };
    each = voters shard by.view by.stamp by.votes by.each by.of_one;
    reply = came_sent _ (reply_came me inputs number id body shard answer by);
  }

-- WHAT A CLIENT COUNTED is said from the moment on by which all that came to it was sent
pub counted_front : (me : ClientIdentity) (events : List Event) (j : ℕ) (inputs : List ClientInput) (number : ℕ) → AllWasSent me.config (servers_at me.config events j).sent inputs number
    → (id : TxnId) (body : Body) (shard : ShardId) (answer : Answer) → CountedOn me inputs number id body shard answer → IsSaidFrom me.config events j shard id (phase_of body) answer
counted_front me events j inputs number all id body shard answer counted = by_way counted.counted
  where
    by_way : IsCounted me inputs number id body shard answer → IsSaidFrom me.config events j shard id (phase_of body) answer
    by_way (ByVotes by) = replies_front me.config events j shard id (phase_of body) answer (answered me inputs number (servers_at me.config events j).sent all id body shard answer by)
    by_way (ByLate late) = late_front me.config events j shard id (phase_of body) answer late.replica (came_sent me inputs number (servers_at me.config events j).sent all id body _ late.came)

pub counted_said : (me : ClientIdentity) (events : List Event) (j k : ℕ) → j ≤ k → (inputs : List ClientInput) (number : ℕ) → AllWasSent me.config (servers_at me.config events j).sent inputs number
    → CountedIsSaid me inputs number (order (world_at me.config events k))
counted_said me events j k le inputs number all = λ id body shard answer counted.
    over_the_order me.config events j k le shard id (phase_of body) answer (counted_front me events j inputs number all id body shard answer counted)
