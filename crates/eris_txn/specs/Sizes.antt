use Rattle.std.specs.Prelude.{Bool, true, List, length, nat_lt, nat_le, is_none, ◌&&◌}
use Rattle.eris_txn.specs.declared.body.Body.{Body}
use Rattle.eris_txn.specs.declared.body.Body.TheVariants.{Independent, Prelim, Commit, Abort}
use Rattle.eris_txn.specs.declared.history.HistoryEvent.{HistoryEvent}
use Rattle.eris_txn.specs.declared.history.HistoryEvent.TheVariants.{Submit, Read, Answer, Told}
use Rattle.eris_txn.specs.declared.packet.Packet.{Packet}
use Rattle.eris_txn.specs.declared.txn.Txn.{Txn}
use Rattle.eris_txn.specs.declared.txn.Txn.TheVariants.{Whole, General}
use Rattle.eris_txn.specs.PlanFaults.{plan_fault}

-- The sizes that each call takes for granted which takes a transaction, a body, a packet, an event or keys.

-- 1 to 32 operations, locks or keys
abbrev pub is_few : {X : Type 0} → List X → Bool
is_few items = nat_lt 0 (length items) && nat_le (length items) 32

-- 1 to 32 operations; of a general one the facts that its plan keeps
abbrev pub txn_has_size : Txn → Bool
txn_has_size (Whole ops) = is_few ops
txn_has_size (General plan) = is_none (plan_fault plan.keys plan.guards plan.settings)

-- 1 to 32 operations, locks or keys
abbrev pub body_has_size : Body → Bool
body_has_size (Independent ops) = is_few ops
body_has_size (Prelim locks) = is_few locks
body_has_size (Commit keys writes) = is_few keys
body_has_size (Abort keys) = is_few keys

abbrev pub packet_has_size : Packet → Bool
packet_has_size packet = body_has_size packet.body

abbrev pub event_has_size : HistoryEvent → Bool
event_has_size (Submit id txn) = txn_has_size txn
event_has_size (Read id values) = true
event_has_size (Answer id answer) = true
event_has_size (Told client id answer) = true
