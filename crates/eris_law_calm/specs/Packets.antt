-- THE PACKETS OF WHOLE TRANSACTIONS that are known, and what an answer to one has on a shard.
use Rattle.std.specs.Prelude.{◌≡◌, ℕ, ◌==◌, List, length, map}
use Rattle.std.specs.List.{count_by}
use Rattle.eris_base.specs.declared.ids.ShardId.{ShardId}
use Rattle.eris_base.specs.declared.ids.TxnId.{TxnId}
use Rattle.eris_txn.specs.declared.answer.Answer.{Answer}
use Rattle.eris_txn.specs.declared.body.Body.TheVariants.{Independent}
use Rattle.eris_txn.specs.declared.op.Op.{Op}
use Rattle.eris_txn.specs.declared.packet.Packet.{Packet}
use Rattle.eris_txn.specs.Operations.{key_of}

-- how many of some operations are on a shard
abbrev pub ops_on : ShardId → List Op → ℕ
ops_on shard ops = count_by (λ key. key.shard.0 == shard.0) (map key_of ops)

-- the answer has an item for each of so many operations
pub record HasItems (answer : Answer) (count : ℕ) : Type 0 where
  pub items : List _
  pub is : answer ≡ Answer.Ops items
  pub many : length items ≡ count

module _ (Known : TxnId → List Op → Type 0) where
  -- the packet of a known transaction
  pub record IsPacketOf (packet : Packet) (ops : List Op) : Type 0 where
    pub body : packet.body ≡ Independent ops
    pub known : Known packet.id ops

  abbrev pub IsWhole : Packet → Type 0
  IsWhole packet = (ops : List Op) × IsPacketOf packet ops
