-- WHAT A CLIENT COUNTS: the messages behind a vote, and behind the answer of a shard.
use Rattle.std.specs.Prelude.{◌≡◌, ℕ, suc, ◌≤◌, true, false, Option, Some, None, List, map, slice_get}
use Rattle.eris_base.specs.declared.ids.Phase.{Phase}
use Rattle.eris_base.specs.declared.ids.ReplicaId.{ReplicaId}
use Rattle.eris_base.specs.declared.ids.ShardId.{ShardId}
use Rattle.eris_base.specs.declared.ids.TxnId.{TxnId}
use Rattle.eris_base.specs.declared.ids.View.{View}
use Rattle.eris_base.specs.declared.stamp.Stamp.{Stamp}
use Rattle.eris_base.specs.Each.{Each}
use Rattle.eris_base.specs.Quorums.{learner_of, are_quorum}
use Rattle.eris_txn.specs.declared.answer.Answer.{Answer}
use Rattle.eris_txn.specs.declared.body.Body.{Body}
use Rattle.eris_txn.specs.Bodies.{participants_of, has_shard}
use Rattle.eris_locks.specs.States.{phase_of}
use Rattle.eris_msg.specs.declared.message.Message.{Message}
use Rattle.eris_rules.specs.declared.transaction.Transaction.{Transaction}
use Rattle.eris_rules.specs.declared.transaction.Vote.{Vote}
use Rattle.eris_rules.specs.ClientStates.{ClientIdentity, body_of, transaction_at}
use Rattle.eris_rules.specs.InPlace.{is_in_place_at_client, names_exactly}
use Rattle.eris_rules.specs.Votes.{answer_fits, vote_fits}
use Rattle.eris_serial.specs.Evidence.{IsIn}
use Rattle.eris_law_client.specs.ClientRuns.{ClientInput, Gets, moment}

-- the message that gives a vote: the learner's answer is a Reply, and any other's a Vouch
abbrev pub message_with : Vote → TxnId → Phase → Option Answer → Message
message_with vote id phase None = Message.Vouch vote.view vote.shard vote.replica vote.stamp id phase
message_with vote id phase (Some answer) = Message.Reply vote.view vote.shard vote.replica vote.stamp id phase answer

abbrev pub message_of : Vote → TxnId → Phase → Message
message_of vote id phase = message_with vote id phase vote.answer

-- A MESSAGE CAME before a moment, in place, while the id's transaction was open with this body
pub record CameFor (me : ClientIdentity) (inputs : List ClientInput) (number : ℕ) (id : TxnId) (body : Body) (message : Message) : Type 0 where
  pub at : ℕ
  pub before : suc at ≤ number
  pub given : slice_get inputs at ≡ Some (Gets message)
  pub in_place : is_in_place_at_client me.config message ≡ true
  pub transaction : Transaction
  pub waited : transaction_at (moment me inputs at) id ≡ Some transaction
  pub unfinished : transaction.finished ≡ false
  pub same_half : body_of transaction.course ≡ body

-- A VOTE for a body: its message came, and it fits
pub record IsVoteFor (me : ClientIdentity) (inputs : List ClientInput) (number : ℕ) (id : TxnId) (body : Body) (vote : Vote) : Type 0 where
  pub came : CameFor me inputs number id body (message_of vote id (phase_of body))
  pub fits : vote_fits me.config.f body vote ≡ true

-- a vote of this shard, view and stamp
pub record IsVoteOf (shard : ShardId) (view : View) (stamp : Stamp) (vote : Vote) : Type 0 where
  pub shard_is : vote.shard ≡ shard
  pub view_is : vote.view ≡ view
  pub stamp_is : vote.stamp ≡ stamp

-- COUNTED BY VOTES: of one view and one stamp, which names the participants, from at least f+1 different
-- replicas, and among them the Reply of the learner of the view, which has the answer
pub record CountedByVotes (me : ClientIdentity) (inputs : List ClientInput) (number : ℕ) (id : TxnId) (body : Body) (shard : ShardId) (answer : Answer) : Type 0 where
  pub view : View
  pub stamp : Stamp
  pub votes : List Vote
  pub each : Each (IsVoteFor me inputs number id body) votes
  pub of_one : Each (IsVoteOf shard view stamp) votes
  pub quorum : are_quorum (map (λ vote. vote.replica) votes) me.config.f ≡ true
  pub reply : Vote
  pub among : IsIn reply votes
  pub answered : reply.answer ≡ Some answer
  pub learner : reply.replica ≡ learner_of view me.config.f
  pub names : names_exactly stamp (participants_of body) ≡ true

-- COUNTED BY A LATE of the shard
pub record CountedByLate (me : ClientIdentity) (inputs : List ClientInput) (number : ℕ) (id : TxnId) (body : Body) (shard : ShardId) (answer : Answer) : Type 0 where
  pub replica : ReplicaId
  pub came : CameFor me inputs number id body (Message.Late shard replica id (phase_of body) answer)

pub data IsCounted (me : ClientIdentity) (inputs : List ClientInput) (number : ℕ) (id : TxnId) (body : Body) (shard : ShardId) (answer : Answer) : Type 0 where
  ByVotes : CountedByVotes me inputs number id body shard answer → IsCounted me inputs number id body shard answer
  ByLate : CountedByLate me inputs number id body shard answer → IsCounted me inputs number id body shard answer

-- A SHARD IS COUNTED with this answer, which is one that it can give to the body
pub record CountedOn (me : ClientIdentity) (inputs : List ClientInput) (number : ℕ) (id : TxnId) (body : Body) (shard : ShardId) (answer : Answer) : Type 0 where
  pub counted : IsCounted me inputs number id body shard answer
  pub part : has_shard (participants_of body) shard ≡ true
  pub fits : answer_fits body shard answer ≡ true
