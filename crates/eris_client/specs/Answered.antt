-- Which answers a client keeps of a half: ones that their shards can give to its body.
use Rattle.std.specs.Prelude.{◌≡◌, true, ⊤, Option, Some, None, List}
use Rattle.std.specs.List.Sorted.{IsStrictlySortedBy}
use Rattle.std.specs.Map.{keys_of}
use Rattle.eris_base.specs.declared.ids.ShardId.{ShardId}
use Rattle.eris_base.specs.declared.ids.TxnId.{TxnId}
use Rattle.eris_base.specs.Each.{Each}
use Rattle.eris_txn.specs.declared.answer.Answer.{Answer}
use Rattle.eris_txn.specs.declared.body.Body.{Body}
use Rattle.eris_rules.specs.declared.transaction.Transaction.{Transaction}
use Rattle.eris_rules.specs.declared.transaction.Vote.{Vote}
use Rattle.eris_rules.specs.ClientStates.{body_of, txn_id_cmp}
use Rattle.eris_rules.specs.Votes.{answer_fits}

-- what a shard answered, if it did, is an answer to the body
abbrev pub Answers : Body → ShardId → Option Answer → Type 0
Answers body shard None = ⊤
Answers body shard (Some answer) = answer_fits body shard answer ≡ true

-- each vote, and each counted shard, answers the present half
pub record IsAnswered (transaction : Transaction) : Type 0 where
  pub votes : Each (λ (vote : Vote). Answers (body_of transaction.course) vote.shard vote.answer) transaction.votes
  pub counted : Each (λ (pair : ShardId × Answer). answer_fits (body_of transaction.course) pair.0 pair.1 ≡ true) transaction.counted

-- a client's transactions: their ids ascend
pub record AreKept (entries : List (TxnId × Transaction)) : Type 0 where
  pub sorted : IsStrictlySortedBy txn_id_cmp (keys_of entries)
  pub answered : Each (λ (entry : TxnId × Transaction). IsAnswered entry.1) entries
