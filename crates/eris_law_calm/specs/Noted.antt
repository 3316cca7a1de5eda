-- THE VOTES THAT A CLIENT NOTED: a replica's vote in view 0, and the shards that are counted by them.
use Rattle.std.specs.Prelude.{◌≡◌, ℕ, true, Option, Some, is_some, List}
use Rattle.eris_base.specs.declared.ids.ReplicaId.{ReplicaId}
use Rattle.eris_base.specs.declared.ids.ShardId.{ShardId}
use Rattle.eris_base.specs.declared.stamp.Stamp.{Stamp}
use Rattle.eris_txn.specs.declared.answer.Answer.{Answer}
use Rattle.eris_rules.specs.declared.transaction.Vote.{Vote}
use Rattle.eris_rules.specs.Votes.{answer_by_votes, is_counted, votes_with}
use Rattle.eris_law_epoch.specs.Members.{In}

-- where the votes make an answer, the shard is counted
pub record CountsAll (f : ℕ) (votes : List Vote) (counted : List (ShardId × Answer)) : Type 0 where
  pub at : (vote : Vote) (answer : Answer) → In vote votes → answer_by_votes f (votes_with votes vote) ≡ Some answer → is_counted counted vote.shard ≡ true

-- the vote of a replica in view 0
abbrev pub vote_by : ShardId → ReplicaId → Stamp → Option Answer → Vote
vote_by shard replica stamp found = record { shard = shard; replica = replica; view = record { 0 = 0 }; stamp = stamp; answer = found }

-- a replica's vote is there, with an answer where it is the learner's
pub record HasVote (votes : List Vote) (shard : ShardId) (replica : ReplicaId) (stamp : Stamp) : Type 0 where
  pub found : Option Answer
  pub learner : replica.0 ≡ 0 → is_some found ≡ true
  pub there : In (vote_by shard replica stamp found) votes
