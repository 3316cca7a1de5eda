-- What a client asks of the answers that it hears, and when a shard is counted.
use Rattle.std.specs.Prelude.{ℕ, Bool, true, false, not, ◌==◌, ◌&&◌, Option, Some, None, List, [], ◌∷◌, ◌++◌, map, length, count_by, if◌then◌else◌}
use Rattle.std.specs.List.{filter, list_any, list_all}
use Rattle.std.specs.Option.{option_or}
use Rattle.eris_base.specs.declared.ids.Phase.{Phase}
use Rattle.eris_base.specs.declared.ids.ShardId.{ShardId}
use Rattle.eris_base.specs.Quorums.{learner_of, same_replica, are_quorum}
use Rattle.eris_txn.specs.declared.answer.Answer.{Answer}
use Rattle.eris_txn.specs.declared.body.Body.{Body}
use Rattle.eris_txn.specs.declared.body.Body.TheVariants.{Independent, Prelim, Commit, Abort}
use Rattle.eris_txn.specs.Bodies.{keys_of, participants_of, has_shard}
use Rattle.eris_locks.specs.States.{phase_of, same_phase}
use Rattle.eris_epoch.specs.SamePackets.{same_stamp}
use Rattle.eris_rules.specs.declared.transaction.Transaction.{Transaction}
use Rattle.eris_rules.specs.declared.transaction.Vote.{Vote}
use Rattle.eris_rules.specs.ClientStates.{body_of}
use Rattle.eris_rules.specs.InPlace.{names_exactly}

-- how many of the body's operations, locks or keys are on the shard
abbrev pub items_on : Body → ShardId → ℕ
items_on body shard = count_by (λ key. key.shard.0 == shard.0) (keys_of body)

-- an answer that the shard can give to the body, with as many items as the body has there
abbrev pub answer_fits : Body → ShardId → Answer → Bool
answer_fits (Independent ops) shard (Answer.Ops answers) = length answers == items_on (Independent ops) shard
answer_fits (Prelim locks) shard (Answer.Values values) = length values == items_on (Prelim locks) shard
answer_fits (Prelim locks) shard Answer.Aborted = true
answer_fits (Commit keys writes) shard Answer.Committed = true
answer_fits (Commit keys writes) shard Answer.Aborted = true
answer_fits (Abort keys) shard Answer.Committed = true
answer_fits (Abort keys) shard Answer.Aborted = true
answer_fits body shard answer = false

-- only the learner of the view answers, and only another replica vouches
abbrev pub role_fits : ℕ → Body → Vote → Option Answer → Bool
role_fits f body vote None = not (same_replica vote.replica (learner_of vote.view f))
role_fits f body vote (Some answer) =
    same_replica vote.replica (learner_of vote.view f) && answer_fits body vote.shard answer

-- a vote that the body's packet can have got: from a participant, by a stamp that names the participants
unfoldable pub vote_fits : ℕ → Body → Vote → Bool
vote_fits f body vote =
    has_shard (participants_of body) vote.shard
    && (names_exactly vote.stamp (participants_of body) && role_fits f body vote vote.answer)

-- a late answer that the body can have got
unfoldable pub late_fits : Body → ShardId → Answer → Bool
late_fits body shard answer = has_shard (participants_of body) shard && answer_fits body shard answer

-- the transaction waits for answers to this half
unfoldable pub waits_for : Transaction → Phase → Bool
waits_for transaction phase = not transaction.finished && same_phase phase (phase_of (body_of transaction.course))

-- COUNTING. A shard is counted by votes for one stamp in one view: the learner's answer, and f+1 different
-- replicas with it. Votes of different views don't add up, since each view may have begun without what the
-- voters of another had; nor do votes for different stamps.
unfoldable pub agrees_with : Vote → Vote → Bool
agrees_with vote other =
    other.shard.0 == vote.shard.0 && (other.view.0 == vote.view.0 && same_stamp other.stamp vote.stamp)

-- the votes of the same shard, view and stamp
abbrev pub votes_with : List Vote → Vote → List Vote
votes_with votes vote = filter (agrees_with vote) votes

-- the first answer among votes
abbrev pub first_answer : List Vote → Option Answer
first_answer [] = None
first_answer (vote ∷ votes) = option_or vote.answer (first_answer votes)

-- the answer that the votes make, where f+1 different replicas gave them
unfoldable pub answer_by_votes : ℕ → List Vote → Option Answer
answer_by_votes f votes = if are_quorum (map (λ vote. vote.replica) votes) f then first_answer votes else None

abbrev pub is_counted : List (ShardId × Answer) → ShardId → Bool
is_counted counted shard = list_any (λ pair. pair.0.0 == shard.0) counted

-- a shard that is counted keeps its answer
unfoldable pub with_counted : List (ShardId × Answer) → ShardId → Answer → List (ShardId × Answer)
with_counted counted shard answer = if is_counted counted shard then counted else counted ++ (shard, answer) ∷ []

abbrev pub with_answer : List (ShardId × Answer) → ShardId → Option Answer → List (ShardId × Answer)
with_answer counted shard None = counted
with_answer counted shard (Some answer) = with_counted counted shard answer

-- the transaction with one more vote, which may make its shard counted
unfoldable pub with_vote : ℕ → Transaction → Vote → Transaction
with_vote f transaction vote =
    record transaction {
      votes = transaction.votes ++ vote ∷ [];
      counted = with_answer transaction.counted vote.shard (answer_by_votes f (votes_with (transaction.votes ++ vote ∷ []) vote));
    }

-- A late answer counts its shard by itself: it was given at a settled place, so no view can lose it.
unfoldable pub with_late : Transaction → ShardId → Answer → Transaction
with_late transaction shard answer =
    record transaction { counted = with_counted transaction.counted shard answer }

-- every participant is counted
unfoldable pub is_complete : Transaction → Bool
is_complete transaction =
    list_all (λ shard. is_counted transaction.counted shard) (participants_of (body_of transaction.course))
