-- Why each premise of the evidence stands there: orders and histories where one of them fails, and the history isn't
-- serial. What the shards say over each order is computed. `Independence` uses them.
use Rattle.std.specs.Prelude.{◌≡◌, None, List, [], ◌∷◌, refl}
use Rattle.eris_base.specs.declared.ids.Phase.{Phase}
use Rattle.eris_base.specs.TxnIds.{same_id}
use Rattle.eris_txn.specs.declared.answer.Answer.{Answer}
use Rattle.eris_txn.specs.declared.body.Body.TheVariants.{Independent, Prelim, Commit, Abort}
use Rattle.eris_txn.specs.declared.history.HistoryEvent.{HistoryEvent}
use Rattle.eris_txn.specs.declared.history.HistoryEvent.TheVariants.{Submit, Read, Answer as Answered, Told}
use Rattle.eris_txn.specs.declared.lock.Mode.TheVariants.{Shared}
use Rattle.eris_txn.specs.declared.op.Op.TheVariants.{Get, Put}
use Rattle.eris_txn.specs.declared.op.OpAnswer.{OpAnswer}
use Rattle.eris_txn.specs.declared.packet.Packet.{Packet}
use Rattle.eris_txn.specs.declared.plan.How.{How}
use Rattle.eris_txn.specs.declared.txn.Txn.TheVariants.{Whole, General}
use Rattle.eris_txn.specs.Keys.{same_key}
use Rattle.eris_txn.specs.PlanValues.{PlanValue}
use Rattle.eris_locks.specs.Locks.{conflict}
use Rattle.eris_locks.specs.LockTable.{run_dones}
use Rattle.eris_locks.specs.Shards.{on_shard}
use Rattle.eris_locks.specs.States.{empty}
use Rattle.eris_audit.specs.IsSerial.{IsSerial}
use Rattle.eris_order.specs.Orders.{lines}
use Rattle.std.proofs.Common.{inl, inr}
use Rattle.eris_serial.proofs.Transfer.{a, asked, b, client, exclusive, gives, on_both, on_first, on_second, own, shard, transfer, txn}

-- AN OUTCOME IS OF A GENERAL TRANSACTION. Another's abort of a whole transaction's id: the other is told Aborted, and
-- the id's line says done.
abbrev pub abort_of_whole : List Packet
abort_of_whole = own (on_first 1) (txn 0 1) (Independent (Put a 30 ∷ [])) ∷ asked (on_first 2) (client 1) (txn 0 1) (Abort (a ∷ [])) ∷ []

abbrev pub abort_of_whole_history : List HistoryEvent
abort_of_whole_history = Submit (txn 0 1) (Whole (Put a 30 ∷ [])) ∷ Told (client 1) (txn 0 1) Answer.Aborted ∷ []

pub abort_of_whole_gives : run_dones empty (on_shard (shard 0) abort_of_whole) ≡
    gives 0 1 (txn 0 1) Phase.Whole (client 0) (Answer.Ops (OpAnswer.Done ∷ [])) ∷ gives 0 2 (txn 0 1) Phase.Conclude (client 1) Answer.Aborted ∷ []
unfolding same_key same_id conflict
abort_of_whole_gives = refl

pub abort_of_whole_is_not_serial : IsSerial abort_of_whole_history (lines abort_of_whole) → ⊥
unfolding same_key same_id
abort_of_whole_is_not_serial serial = elim serial.told.1.0 [ inl outcome ↦ cc outcome | inr without ↦ cc without.1 ]

-- AN OWN OUTCOME COMES AFTER A READ. A conclusion with no preliminary: the owner is answered Aborted, and the id has no line.
abbrev pub look_at_a : PlanValue
look_at_a = record { keys = a ∷ []; guards = []; settings = [] }

abbrev pub abort_alone : List Packet
abort_alone = own (on_first 1) (txn 0 1) (Abort (a ∷ [])) ∷ []

abbrev pub abort_alone_history : List HistoryEvent
abort_alone_history = Submit (txn 0 1) (General look_at_a) ∷ Answered (txn 0 1) Answer.Aborted ∷ []

pub abort_alone_gives : run_dones empty (on_shard (shard 0) abort_alone) ≡ gives 0 1 (txn 0 1) Phase.Conclude (client 0) Answer.Aborted ∷ []
unfolding same_key same_id conflict
abort_alone_gives = refl

pub abort_alone_is_not_serial : IsSerial abort_alone_history (lines abort_alone) → ⊥
unfolding same_key same_id
abort_alone_is_not_serial serial = cc serial.have_lines.1.0

-- A STAMP NAMES EXACTLY THE SHARDS OF ITS TRANSACTION. A Commit that names one of two shards, and then another's abort
-- on both: the shards decide differently.
abbrev pub put_both : PlanValue
put_both = record {
  keys = a ∷ b ∷ [];
  guards = [];
  settings = record { key = a; how = How.Put 9 } ∷ record { key = b; how = How.Put 8 } ∷ [];
}

abbrev pub half_commit : List Packet
half_commit =
    own (on_both 1 1) (txn 0 1) (Prelim (exclusive a ∷ exclusive b ∷ []))
    ∷ own (on_first 2) (txn 0 1) (Commit (a ∷ b ∷ []) (record { key = a; value = 9 } ∷ record { key = b; value = 8 } ∷ []))
    ∷ asked (on_both 3 2) (client 1) (txn 0 1) (Abort (a ∷ b ∷ []))
    ∷ []

abbrev pub half_commit_history : List HistoryEvent
half_commit_history =
    Submit (txn 0 1) (General put_both)
    ∷ Read (txn 0 1) (None ∷ None ∷ [])
    ∷ Answered (txn 0 1) Answer.Committed
    ∷ Told (client 1) (txn 0 1) Answer.Aborted
    ∷ []

pub half_commit_gives_on_the_first : run_dones empty (on_shard (shard 0) half_commit) ≡
    gives 0 1 (txn 0 1) Phase.Prelim (client 0) (Answer.Values (None ∷ []))
    ∷ gives 0 2 (txn 0 1) Phase.Conclude (client 0) Answer.Committed
    ∷ gives 0 3 (txn 0 1) Phase.Conclude (client 1) Answer.Committed
    ∷ []
unfolding same_key same_id conflict
half_commit_gives_on_the_first = refl

pub half_commit_gives_on_the_second : run_dones empty (on_shard (shard 1) half_commit) ≡
    gives 1 1 (txn 0 1) Phase.Prelim (client 0) (Answer.Values (None ∷ [])) ∷ gives 1 2 (txn 0 1) Phase.Conclude (client 1) Answer.Aborted ∷ []
unfolding same_key same_id conflict
half_commit_gives_on_the_second = refl

pub half_commit_is_not_serial : IsSerial half_commit_history (lines half_commit) → ⊥
unfolding same_key same_id
half_commit_is_not_serial serial = elim serial.told.1.1.1.0 [ inl outcome ↦ cc outcome | inr without ↦ cc without.1 ]

-- A BODY IS ITS TRANSACTION'S. A read that is stamped as a write: it is answered as a write.
abbrev pub other_body : List Packet
other_body = own (on_first 1) (txn 0 1) (Independent (Put a 30 ∷ [])) ∷ []

abbrev pub other_body_history : List HistoryEvent
other_body_history = Submit (txn 0 1) (Whole (Get a ∷ [])) ∷ Answered (txn 0 1) (Answer.Ops (OpAnswer.Done ∷ [])) ∷ []

pub other_body_gives : run_dones empty (on_shard (shard 0) other_body) ≡ gives 0 1 (txn 0 1) Phase.Whole (client 0) (Answer.Ops (OpAnswer.Done ∷ [])) ∷ []
unfolding same_key same_id conflict
other_body_gives = refl

pub other_body_is_not_serial : IsSerial other_body_history (lines other_body) → ⊥
unfolding same_key same_id
other_body_is_not_serial serial = cc serial.equal.1.0

-- A COMMIT'S GUARDS HOLD with the values that were read. A transfer of what isn't there:
abbrev pub unguarded : List Packet
unguarded =
    own (on_both 1 1) (txn 0 1) (Prelim (exclusive a ∷ exclusive b ∷ []))
    ∷ own (on_both 2 2) (txn 0 1) (Commit (a ∷ b ∷ []) (record { key = a; value = 18446744073709551586 } ∷ record { key = b; value = 30 } ∷ []))
    ∷ []

abbrev pub unguarded_history : List HistoryEvent
unguarded_history = Submit (txn 0 1) (General transfer) ∷ Read (txn 0 1) (None ∷ None ∷ []) ∷ Answered (txn 0 1) Answer.Committed ∷ []

pub unguarded_gives : run_dones empty (on_shard (shard 0) unguarded) ≡
    gives 0 1 (txn 0 1) Phase.Prelim (client 0) (Answer.Values (None ∷ [])) ∷ gives 0 2 (txn 0 1) Phase.Conclude (client 0) Answer.Committed ∷ []
unfolding same_key same_id conflict
unguarded_gives = refl

pub unguarded_is_not_serial : IsSerial unguarded_history (lines unguarded) → ⊥
unfolding same_key same_id
unguarded_is_not_serial serial = cc (serial.guards.0 refl)

-- A COMMIT'S WRITES ARE ITS PLAN'S. A plan that sets b to 8, and a Commit that writes 9:
abbrev pub put_second : PlanValue
put_second = record { keys = b ∷ []; guards = []; settings = record { key = b; how = How.Put 8 } ∷ [] }

abbrev pub other_writes : List Packet
other_writes =
    own (on_second 1) (txn 0 1) (Prelim (exclusive b ∷ []))
    ∷ own (on_second 2) (txn 0 1) (Commit (b ∷ []) (record { key = b; value = 9 } ∷ []))
    ∷ own (on_second 3) (txn 0 2) (Independent (Get b ∷ []))
    ∷ []

abbrev pub other_writes_history : List HistoryEvent
other_writes_history =
    Submit (txn 0 1) (General put_second)
    ∷ Read (txn 0 1) (None ∷ [])
    ∷ Answered (txn 0 1) Answer.Committed
    ∷ Submit (txn 0 2) (Whole (Get b ∷ []))
    ∷ Answered (txn 0 2) (Answer.Ops (OpAnswer.Value 9 ∷ []))
    ∷ []

pub other_writes_gives : run_dones empty (on_shard (shard 1) other_writes) ≡
    gives 1 1 (txn 0 1) Phase.Prelim (client 0) (Answer.Values (None ∷ []))
    ∷ gives 1 2 (txn 0 1) Phase.Conclude (client 0) Answer.Committed
    ∷ gives 1 3 (txn 0 2) Phase.Whole (client 0) (Answer.Ops (OpAnswer.Value 9 ∷ []))
    ∷ []
unfolding same_key same_id conflict
other_writes_gives = refl

pub other_writes_is_not_serial : IsSerial other_writes_history (lines other_writes) → ⊥
unfolding same_key same_id
other_writes_is_not_serial serial = cc serial.equal.1.1.1.1.0

-- A PRELIMINARY'S LOCKS ARE ITS PLAN'S, each key that it sets locked alone. Where it locks b Shared, a read passes it:
abbrev pub shared_lock : List Packet
shared_lock =
    own (on_second 1) (txn 0 1) (Prelim (record { key = b; mode = Shared } ∷ []))
    ∷ own (on_second 2) (txn 0 2) (Independent (Get b ∷ []))
    ∷ own (on_second 3) (txn 0 1) (Commit (b ∷ []) (record { key = b; value = 8 } ∷ []))
    ∷ []

abbrev pub shared_lock_history : List HistoryEvent
shared_lock_history =
    Submit (txn 0 1) (General put_second)
    ∷ Submit (txn 0 2) (Whole (Get b ∷ []))
    ∷ Read (txn 0 1) (None ∷ [])
    ∷ Answered (txn 0 1) Answer.Committed
    ∷ Answered (txn 0 2) (Answer.Ops (OpAnswer.Absent ∷ []))
    ∷ []

pub shared_lock_gives : run_dones empty (on_shard (shard 1) shared_lock) ≡
    gives 1 1 (txn 0 1) Phase.Prelim (client 0) (Answer.Values (None ∷ []))
    ∷ gives 1 2 (txn 0 2) Phase.Whole (client 0) (Answer.Ops (OpAnswer.Absent ∷ []))
    ∷ gives 1 3 (txn 0 1) Phase.Conclude (client 0) Answer.Committed
    ∷ []
unfolding same_key same_id conflict
shared_lock_gives = refl

pub shared_lock_is_not_serial : IsSerial shared_lock_history (lines shared_lock) → ⊥
unfolding same_key same_id
shared_lock_is_not_serial serial = cc serial.equal.1.1.1.1.0

-- WHAT WAS ANSWERED BEFORE A SUBMIT STANDS BEFORE IT. A write is answered, and a read that is submitted after that
-- stands before the write:
abbrev pub turned : List Packet
turned = own (on_first 1) (txn 1 1) (Independent (Get a ∷ [])) ∷ own (on_first 2) (txn 0 1) (Independent (Put a 30 ∷ [])) ∷ []

abbrev pub turned_history : List HistoryEvent
turned_history =
    Submit (txn 0 1) (Whole (Put a 30 ∷ []))
    ∷ Answered (txn 0 1) (Answer.Ops (OpAnswer.Done ∷ []))
    ∷ Submit (txn 1 1) (Whole (Get a ∷ []))
    ∷ Answered (txn 1 1) (Answer.Ops (OpAnswer.Absent ∷ []))
    ∷ []

pub turned_gives : run_dones empty (on_shard (shard 0) turned) ≡
    gives 0 1 (txn 1 1) Phase.Whole (client 1) (Answer.Ops (OpAnswer.Absent ∷ [])) ∷ gives 0 2 (txn 0 1) Phase.Whole (client 0) (Answer.Ops (OpAnswer.Done ∷ [])) ∷ []
unfolding same_key same_id conflict
turned_gives = refl

pub turned_is_not_serial : IsSerial turned_history (lines turned) → ⊥
unfolding same_key same_id
turned_is_not_serial serial = cc (serial.follows.1.1.0.1.0 refl refl)

-- A PACKET'S ID WAS SUBMITTED. A packet of an id that never was, with nothing to do and on no shard:
abbrev pub unsubmitted : List Packet
unsubmitted = own (record { epoch = record { 0 = 0 }; places = [] }) (txn 0 1) (Independent []) ∷ []

pub unsubmitted_is_not_serial : IsSerial [] (lines unsubmitted) → ⊥
unfolding same_id
unsubmitted_is_not_serial serial = cc serial.order_lines.0.submitted

-- A SUBMITTED TRANSACTION CAN BE RUN. A plan with no key has read, where no shard said so and nothing was stamped:
abbrev pub no_key : PlanValue
no_key = record { keys = []; guards = []; settings = [] }

pub read_of_nothing_is_not_serial : IsSerial (Submit (txn 0 1) (General no_key) ∷ Read (txn 0 1) [] ∷ []) (lines []) → ⊥
read_of_nothing_is_not_serial serial = cc serial.have_lines.1.0

-- and one that sets a key twice writes by the values that it read, where settings in order would not
abbrev pub twice : PlanValue
twice = record {
  keys = b ∷ [];
  guards = [];
  settings = record { key = b; how = How.Plus 1 } ∷ record { key = b; how = How.Plus 1 } ∷ [];
}

abbrev pub set_twice : List Packet
set_twice =
    own (on_second 1) (txn 0 1) (Prelim (exclusive b ∷ []))
    ∷ own (on_second 2) (txn 0 1) (Commit (b ∷ []) (record { key = b; value = 1 } ∷ record { key = b; value = 1 } ∷ []))
    ∷ own (on_second 3) (txn 0 2) (Independent (Get b ∷ []))
    ∷ []

abbrev pub set_twice_history : List HistoryEvent
set_twice_history =
    Submit (txn 0 1) (General twice)
    ∷ Read (txn 0 1) (None ∷ [])
    ∷ Answered (txn 0 1) Answer.Committed
    ∷ Submit (txn 0 2) (Whole (Get b ∷ []))
    ∷ Answered (txn 0 2) (Answer.Ops (OpAnswer.Value 1 ∷ []))
    ∷ []

pub set_twice_gives : run_dones empty (on_shard (shard 1) set_twice) ≡
    gives 1 1 (txn 0 1) Phase.Prelim (client 0) (Answer.Values (None ∷ []))
    ∷ gives 1 2 (txn 0 1) Phase.Conclude (client 0) Answer.Committed
    ∷ gives 1 3 (txn 0 2) Phase.Whole (client 0) (Answer.Ops (OpAnswer.Value 1 ∷ []))
    ∷ []
unfolding same_key same_id conflict
set_twice_gives = refl

pub set_twice_is_not_serial : IsSerial set_twice_history (lines set_twice) → ⊥
unfolding same_key same_id
set_twice_is_not_serial serial = cc serial.equal.1.1.1.1.0
