-- What a replica's store said over its log, the shard said over the order, where the log begins the order's packets
-- on that shard. So a protocol that shows its counted logs to be such beginnings has shown what was said. Used by a
-- protocol.
use Rattle.std.proofs.Common.{◌≡◌, Bool, true, false, cond, List, [], ◌∷◌, ◌++◌, map, refl, ap, sym, ◌∙◌, subst, inl, inr}
use Rattle.eris_base.specs.declared.ids.Phase.{Phase}
use Rattle.eris_base.specs.declared.ids.ShardId.{ShardId}
use Rattle.eris_base.specs.declared.ids.TxnId.{TxnId}
use Rattle.eris_txn.specs.declared.answer.Answer.{Answer}
use Rattle.eris_txn.specs.declared.packet.Packet.{Packet}
use Rattle.eris_locks.specs.declared.done.Done.{Done}
use Rattle.eris_locks.specs.declared.shard_packet.ShardPacket.{ShardPacket}
use Rattle.eris_locks.specs.Law.{Said}
use Rattle.eris_locks.specs.LockTable.{run_dones, run_state}
use Rattle.eris_locks.specs.Shards.{cut, names_shard, on_shard}
use Rattle.eris_locks.specs.States.{empty}
use Rattle.eris_law_lock.proofs.Runs.{dones_of_prefix}
use Rattle.eris_order.specs.Orders.{packets_on}
use Rattle.eris_serial.specs.Evidence.{SaidOn}

-- WHAT A SHARD SEES of an order: the packets on it, each cut to it
pub on_shard-packets_on : (shard : ShardId) (packets : List Packet) → on_shard shard packets ≡ map (cut shard) (packets_on shard packets)
on_shard-packets_on shard [] = refl
on_shard-packets_on shard (packet ∷ packets) = by_test (names_shard shard packet) (on_shard-packets_on shard packets)
  where
    by_test : (named : Bool) → on_shard shard packets ≡ map (cut shard) (packets_on shard packets)
        → elim named as (λ b. List ShardPacket) [ true ↦ cut shard packet ∷ on_shard shard packets | false ↦ on_shard shard packets ]
        ≡ map (cut shard) (cond named (packet ∷ packets_on shard packets) (packets_on shard packets))
    by_test true rest = ap (λ l. cut shard packet ∷ l) rest
    by_test false rest = rest

-- the packets on a shard of two lists, one behind the other
pub on_shard-append : (shard : ShardId) (front back : List Packet) → on_shard shard (front ++ back) ≡ on_shard shard front ++ on_shard shard back
on_shard-append shard [] back = refl
on_shard-append shard (packet ∷ front) back = by_test (names_shard shard packet) (on_shard-append shard front back)
  where
    by_test : (named : Bool) → on_shard shard (front ++ back) ≡ on_shard shard front ++ on_shard shard back
        → elim named as (λ b. List ShardPacket) [ true ↦ cut shard packet ∷ on_shard shard (front ++ back) | false ↦ on_shard shard (front ++ back) ]
        ≡ elim named as (λ b. List ShardPacket) [ true ↦ cut shard packet ∷ on_shard shard front | false ↦ on_shard shard front ] ++ on_shard shard back
    by_test true rest = ap (λ l. cut shard packet ∷ l) rest
    by_test false rest = rest

pub said_before : (id : TxnId) (phase : Phase) (answer : Answer) (dones others : List Done) → Said id phase answer dones → Said id phase answer (dones ++ others)
said_before id phase answer [] others said = absurd said
said_before id phase answer (given ∷ dones) others (inl here) = inl here
said_before id phase answer (given ∷ dones) others (inr there) = inr (said_before id phase answer dones others there)

-- A LOG THAT BEGINS A SHARD'S PACKETS: what was said over it was said over the order
pub said_by_log : (shard : ShardId) (id : TxnId) (phase : Phase) (answer : Answer) (order : List Packet) (log more : List ShardPacket) → on_shard shard order ≡ log ++ more
    → Said id phase answer (run_dones empty log) → SaidOn shard id phase answer order
said_by_log shard id phase answer order log more begins said =
    subst (λ (list : List ShardPacket). Said id phase answer (run_dones empty list)) (sym begins)
    (subst (Said id phase answer) (sym (dones_of_prefix log more empty)) (said_before id phase answer (run_dones empty log) (run_dones (run_state empty log) more) said))

map-append : {X Y : Type 0} (f : X → Y) (xs ys : List X) → map f (xs ++ ys) ≡ map f xs ++ map f ys
map-append f [] ys = refl
map-append f (x ∷ xs) ys = ap (λ l. f x ∷ l) (map-append f xs ys)

-- and the same of a log of whole packets
pub said_by_packets : (shard : ShardId) (id : TxnId) (phase : Phase) (answer : Answer) (order log more : List Packet) → packets_on shard order ≡ log ++ more
    → Said id phase answer (run_dones empty (map (cut shard) log)) → SaidOn shard id phase answer order
said_by_packets shard id phase answer order log more begins said =
    said_by_log shard id phase answer order (map (cut shard) log) (map (cut shard) more)
    (on_shard-packets_on shard order ∙ (ap (map (cut shard)) begins ∙ map-append (cut shard) log more)) said
