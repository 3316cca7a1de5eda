-- THE LEARNER'S ANSWER over a log of whole transactions is there at once, with an item for each operation on the shard.
-- Used where a learner gets a packet.
use Rattle.std.proofs.Common.{◌≡◌, Some, List}
use Rattle.eris_base.specs.declared.ids.ShardId.{ShardId}
use Rattle.eris_base.specs.declared.ids.TxnId.{TxnId}
use Rattle.eris_base.specs.Each.{Each}
use Rattle.eris_txn.specs.declared.answer.Answer.{Answer}
use Rattle.eris_txn.specs.declared.history.HistoryEvent.{HistoryEvent}
use Rattle.eris_txn.specs.declared.op.Op.{Op}
use Rattle.eris_txn.specs.declared.packet.Packet.{Packet}
use Rattle.eris_rules.specs.ReplicaAnswers.{answer_after, prompt_answer, store_after}
use Rattle.eris_law_calm.specs.Calm.{Submitted}
use Rattle.eris_law_calm.specs.Packets.{HasItems, IsPacketOf, IsWhole, ops_on}
use Rattle.eris_law_calm.proofs.Executing.{answered}

pub prompt_answers : (shard : ShardId) (history : List HistoryEvent) → ((id : TxnId) (ops others : List Op) → Submitted history id ops → Submitted history id others → ops ≡ others)
    → (log : List Packet) (packet : Packet) (ops : List Op) → Each (IsWhole (Submitted history)) log → IsPacketOf (Submitted history) packet ops
    → (answer : Answer) × (answer_after shard log packet ≡ Some answer) × HasItems answer (ops_on shard ops)
unfolding answer_after store_after prompt_answer
prompt_answers shard history one log packet ops whole is = answered shard (Submitted history) one log packet ops whole is
