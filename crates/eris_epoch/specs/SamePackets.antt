-- Packets that are equal in all that they carry.
use Rattle.std.specs.Prelude.{ℕ, Bool, true, false, ◌&&◌, ◌==◌, List, [], ◌∷◌}
use Rattle.std.specs.List.{list_any}
use Rattle.eris_base.specs.declared.ids.ShardId.{ShardId}
use Rattle.eris_base.specs.declared.stamp.Stamp.{Stamp}
use Rattle.eris_base.specs.TxnIds.{same_id}
use Rattle.eris_txn.specs.declared.body.Body.{Body}
use Rattle.eris_txn.specs.declared.body.Body.TheVariants.{Independent, Prelim, Commit, Abort}
use Rattle.eris_txn.specs.declared.lock.Lock.{Lock}
use Rattle.eris_txn.specs.declared.lock.Mode.{Mode}
use Rattle.eris_txn.specs.declared.lock.Mode.TheVariants.{Shared, Exclusive}
use Rattle.eris_txn.specs.declared.op.Op.{Op}
use Rattle.eris_txn.specs.declared.op.Op.TheVariants.{Get, Put, Del, Add, Cas}
use Rattle.eris_txn.specs.declared.packet.Packet.{Packet}
use Rattle.eris_txn.specs.declared.plan.Write.{Write}
use Rattle.eris_txn.specs.Keys.{same_key}

-- lists whose items are the same, one by one
unfoldable pub same_list : {X : Type 0} → (X → X → Bool) → List X → List X → Bool
same_list same [] [] = true
same_list same [] (other ∷ others) = false
same_list same (item ∷ items) [] = false
same_list same (item ∷ items) (other ∷ others) = same item other && same_list same items others

unfoldable pub same_op : Op → Op → Bool
same_op (Get key) (Get other) = same_key key other
same_op (Put key value) (Put other new) = same_key key other && value == new
same_op (Del key) (Del other) = same_key key other
same_op (Add key value) (Add other more) = same_key key other && value == more
same_op (Cas key value new) (Cas other before after) = same_key key other && value == before && new == after
same_op op other = false

unfoldable pub same_mode : Mode → Mode → Bool
same_mode Shared Shared = true
same_mode Exclusive Exclusive = true
same_mode mode other = false

unfoldable pub same_lock : Lock → Lock → Bool
same_lock some other = same_key some.key other.key && same_mode some.mode other.mode

unfoldable pub same_write : Write → Write → Bool
same_write some other = same_key some.key other.key && some.value == other.value

unfoldable pub same_body : Body → Body → Bool
same_body (Independent ops) (Independent others) = same_list same_op ops others
same_body (Prelim locks) (Prelim others) = same_list same_lock locks others
same_body (Commit keys writes) (Commit others rest) = same_list same_key keys others && same_list same_write writes rest
same_body (Abort keys) (Abort others) = same_list same_key keys others
same_body body other = false

unfoldable pub same_place_on : ShardId × ℕ → ShardId × ℕ → Bool
same_place_on some other = some.0.0 == other.0.0 && some.1 == other.1

unfoldable pub same_stamp : Stamp → Stamp → Bool
same_stamp some other = some.epoch.0 == other.epoch.0 && same_list same_place_on some.places other.places

unfoldable pub same_packet : Packet → Packet → Bool
same_packet some other =
    same_stamp some.stamp other.stamp && same_id some.id other.id && some.asker.0 == other.asker.0
    && same_body some.body other.body

-- the packet stands in the list
unfoldable pub is_listed : List Packet → Packet → Bool
is_listed packets packet = list_any (λ other. same_packet packet other) packets
