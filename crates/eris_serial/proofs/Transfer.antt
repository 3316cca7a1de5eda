-- A transfer over two shards, with a read of both keys behind its locks, and orders with another's abort: lines,
-- results and shards' answers, computed. `TransferEvidence` uses it.
use Rattle.std.specs.Prelude.{◌≡◌, ℕ, true, false, Some, None, List, [], ◌∷◌, refl}
use Rattle.eris_base.specs.declared.ids.ClientId.{ClientId}
use Rattle.eris_base.specs.declared.ids.Phase.{Phase}
use Rattle.eris_base.specs.declared.ids.ShardId.{ShardId}
use Rattle.eris_base.specs.declared.ids.TxnId.{TxnId}
use Rattle.eris_base.specs.Stamps.{StampValue}
use Rattle.eris_base.specs.TxnIds.{same_id}
use Rattle.eris_txn.specs.declared.answer.Answer.{Answer}
use Rattle.eris_txn.specs.declared.body.Body.{Body}
use Rattle.eris_txn.specs.declared.body.Body.TheVariants.{Independent, Prelim, Commit, Abort}
use Rattle.eris_txn.specs.declared.history.HistoryEvent.{HistoryEvent}
use Rattle.eris_txn.specs.declared.history.HistoryEvent.TheVariants.{Submit, Read, Answer as Answered, Told}
use Rattle.eris_txn.specs.declared.key.Key.{Key}
use Rattle.eris_txn.specs.declared.lock.Lock.{Lock}
use Rattle.eris_txn.specs.declared.lock.Mode.TheVariants.{Exclusive}
use Rattle.eris_txn.specs.declared.op.Op.TheVariants.{Get, Put}
use Rattle.eris_txn.specs.declared.op.OpAnswer.{OpAnswer}
use Rattle.eris_txn.specs.declared.packet.Packet.{Packet}
use Rattle.eris_txn.specs.declared.plan.How.{How}
use Rattle.eris_txn.specs.declared.txn.Txn.TheVariants.{Whole, General}
use Rattle.eris_txn.specs.Keys.{same_key, no_values}
use Rattle.eris_txn.specs.PlanValues.{PlanValue}
use Rattle.eris_locks.specs.declared.done.Done.{Done}
use Rattle.eris_locks.specs.Locks.{conflict}
use Rattle.eris_locks.specs.LockTable.{run_dones}
use Rattle.eris_locks.specs.Shards.{on_shard}
use Rattle.eris_locks.specs.States.{empty}
use Rattle.eris_audit.specs.declared.outcome.Outcome.{Outcome}
use Rattle.eris_audit.specs.Histories.{txn_of}
use Rattle.eris_audit.specs.Lines.{Line}
use Rattle.eris_audit.specs.SerialRun.{results_of}
use Rattle.eris_order.specs.Orders.{lines}

abbrev pub shard : ℕ → ShardId
shard number = record { 0 = number }

abbrev pub client : ℕ → ClientId
client number = record { 0 = number }

abbrev pub txn : ℕ → ℕ → TxnId
txn owner number = record { client = client owner; number = number }

-- the keys 0/a and 1/b
abbrev pub a : Key
a = record { shard = shard 0; name = 97 ∷ [] }

abbrev pub b : Key
b = record { shard = shard 1; name = 98 ∷ [] }

abbrev pub exclusive : Key → Lock
exclusive key = record { key = key; mode = Exclusive }

-- stamps of both shards and of one, in epoch 0
abbrev pub on_both : ℕ → ℕ → StampValue
on_both first second = record { epoch = record { 0 = 0 }; places = (shard 0, first) ∷ (shard 1, second) ∷ [] }

abbrev pub on_first : ℕ → StampValue
on_first number = record { epoch = record { 0 = 0 }; places = (shard 0, number) ∷ [] }

abbrev pub on_second : ℕ → StampValue
on_second number = record { epoch = record { 0 = 0 }; places = (shard 1, number) ∷ [] }

-- a packet that its own client asked for, and one that another did
abbrev pub own : StampValue → TxnId → Body → Packet
own stamp id body = record { stamp = stamp; id = id; asker = id.client; body = body }

abbrev pub asked : StampValue → ClientId → TxnId → Body → Packet
asked stamp asker id body = record { stamp = stamp; id = id; asker = asker; body = body }

abbrev pub line : TxnId → Outcome → Line
line id outcome = record { id = id; outcome = outcome }

-- what a shard's store answers at a number of epoch 0, at once or late
abbrev pub gives : ℕ → ℕ → TxnId → Phase → ClientId → Answer → Done
gives of number id phase asker answer = record {
  id = id;
  phase = phase;
  asker = asker;
  answer = answer;
  at = record { epoch = record { 0 = 0 }; shard = shard of; number = number };
  late = false;
}

abbrev pub gives_late : ℕ → ℕ → TxnId → Phase → ClientId → Answer → Done
gives_late of number id phase asker answer = record {
  id = id;
  phase = phase;
  asker = asker;
  answer = answer;
  at = record { epoch = record { 0 = 0 }; shard = shard of; number = number };
  late = true;
}

-- move 30 from a to b, if a has them
abbrev pub transfer : PlanValue
transfer = record {
  keys = a ∷ b ∷ [];
  guards = record { key = a; least = 30 } ∷ [];
  settings = record { key = a; how = How.Minus 30 } ∷ record { key = b; how = How.Plus 30 } ∷ [];
}

-- lock b, and change nothing
abbrev pub look : PlanValue
look = record { keys = b ∷ []; guards = []; settings = [] }

abbrev pub filled : Packet
filled = own (on_both 1 1) (txn 0 1) (Independent (Put a 30 ∷ Put b 5 ∷ []))

abbrev pub locked : Packet
locked = own (on_both 2 2) (txn 0 2) (Prelim (exclusive a ∷ exclusive b ∷ []))

-- 30 and 5 are put; the transfer's preliminary; a read of both keys, which waits on both shards; the Commit, which
-- frees it; and another's Abort of a transaction whose preliminary never came
abbrev pub order : List Packet
order =
    filled
    ∷ locked
    ∷ own (on_both 3 3) (txn 1 1) (Independent (Get a ∷ Get b ∷ []))
    ∷ own (on_both 4 4) (txn 0 2) (Commit (a ∷ b ∷ []) (record { key = a; value = 0 } ∷ record { key = b; value = 35 } ∷ []))
    ∷ asked (on_second 5) (client 1) (txn 2 1) (Abort (b ∷ []))
    ∷ []

abbrev pub history : List HistoryEvent
history =
    Submit (txn 0 1) (Whole (Put a 30 ∷ Put b 5 ∷ []))
    ∷ Answered (txn 0 1) (Answer.Ops (OpAnswer.Done ∷ OpAnswer.Done ∷ []))
    ∷ Submit (txn 0 2) (General transfer)
    ∷ Submit (txn 1 1) (Whole (Get a ∷ Get b ∷ []))
    ∷ Submit (txn 2 1) (General look)
    ∷ Read (txn 0 2) (Some 30 ∷ Some 5 ∷ [])
    ∷ Answered (txn 0 2) Answer.Committed
    ∷ Answered (txn 1 1) (Answer.Ops (OpAnswer.Value 0 ∷ OpAnswer.Value 35 ∷ []))
    ∷ Told (client 1) (txn 2 1) Answer.Aborted
    ∷ []

-- the aborted one isn't in the order
pub the_lines : lines order ≡ line (txn 0 1) Outcome.Done ∷ line (txn 0 2) Outcome.Committed ∷ line (txn 1 1) Outcome.Done ∷ []
unfolding same_id
the_lines = refl

pub the_serial_results : results_of (txn_of history) (lines order) no_values ≡
    Answer.Ops (OpAnswer.Done ∷ OpAnswer.Done ∷ [])
    ∷ Answer.Values (Some 30 ∷ Some 5 ∷ [])
    ∷ Answer.Ops (OpAnswer.Value 0 ∷ OpAnswer.Value 35 ∷ [])
    ∷ []
unfolding same_key same_id
the_serial_results = refl

-- the read is answered late on both shards
pub the_first_shard_gives : run_dones empty (on_shard (shard 0) order) ≡
    gives 0 1 (txn 0 1) Phase.Whole (client 0) (Answer.Ops (OpAnswer.Done ∷ []))
    ∷ gives 0 2 (txn 0 2) Phase.Prelim (client 0) (Answer.Values (Some 30 ∷ []))
    ∷ gives 0 4 (txn 0 2) Phase.Conclude (client 0) Answer.Committed
    ∷ gives_late 0 4 (txn 1 1) Phase.Whole (client 1) (Answer.Ops (OpAnswer.Value 0 ∷ []))
    ∷ []
unfolding same_key same_id conflict
the_first_shard_gives = refl

pub the_second_shard_gives : run_dones empty (on_shard (shard 1) order) ≡
    gives 1 1 (txn 0 1) Phase.Whole (client 0) (Answer.Ops (OpAnswer.Done ∷ []))
    ∷ gives 1 2 (txn 0 2) Phase.Prelim (client 0) (Answer.Values (Some 5 ∷ []))
    ∷ gives 1 4 (txn 0 2) Phase.Conclude (client 0) Answer.Committed
    ∷ gives_late 1 4 (txn 1 1) Phase.Whole (client 1) (Answer.Ops (OpAnswer.Value 35 ∷ []))
    ∷ gives 1 5 (txn 2 1) Phase.Conclude (client 1) Answer.Aborted
    ∷ []
unfolding same_key same_id conflict
the_second_shard_gives = refl

-- ANOTHER'S ABORT BEFORE THE PRELIMINARY: it is aborted, and so is answered
abbrev pub abort_first : List Packet
abort_first = asked (on_second 1) (client 1) (txn 2 1) (Abort (b ∷ [])) ∷ own (on_second 2) (txn 2 1) (Prelim (exclusive b ∷ [])) ∷ []

pub abort_first_has_an_aborted_line : lines abort_first ≡ line (txn 2 1) Outcome.Aborted ∷ []
unfolding same_id
abort_first_has_an_aborted_line = refl

pub abort_first_gives : run_dones empty (on_shard (shard 1) abort_first) ≡
    gives 1 1 (txn 2 1) Phase.Conclude (client 1) Answer.Aborted ∷ gives 1 2 (txn 2 1) Phase.Prelim (client 2) Answer.Aborted ∷ []
unfolding same_key same_id conflict
abort_first_gives = refl

-- ANOTHER'S ABORT AND THEN THE OWN COMMIT: both are answered Aborted
abbrev pub commit_too_late : List Packet
commit_too_late =
    own (on_second 1) (txn 2 1) (Prelim (exclusive b ∷ []))
    ∷ asked (on_second 2) (client 1) (txn 2 1) (Abort (b ∷ []))
    ∷ own (on_second 3) (txn 2 1) (Commit (b ∷ []) (record { key = b; value = 9 } ∷ []))
    ∷ []

pub commit_too_late_has_an_aborted_line : lines commit_too_late ≡ line (txn 2 1) Outcome.Aborted ∷ []
unfolding same_id
commit_too_late_has_an_aborted_line = refl

pub commit_too_late_gives : run_dones empty (on_shard (shard 1) commit_too_late) ≡
    gives 1 1 (txn 2 1) Phase.Prelim (client 2) (Answer.Values (None ∷ []))
    ∷ gives 1 2 (txn 2 1) Phase.Conclude (client 1) Answer.Aborted
    ∷ gives 1 3 (txn 2 1) Phase.Conclude (client 2) Answer.Aborted
    ∷ []
unfolding same_key same_id conflict
commit_too_late_gives = refl

-- AN ABORT BEHIND THE OWN COMMIT: it is told Committed
abbrev pub abort_too_late : List Packet
abort_too_late =
    own (on_second 1) (txn 2 1) (Prelim (exclusive b ∷ []))
    ∷ own (on_second 2) (txn 2 1) (Commit (b ∷ []) (record { key = b; value = 9 } ∷ []))
    ∷ asked (on_second 3) (client 1) (txn 2 1) (Abort (b ∷ []))
    ∷ []

pub abort_too_late_has_a_committed_line : lines abort_too_late ≡ line (txn 2 1) Outcome.Committed ∷ []
unfolding same_id
abort_too_late_has_a_committed_line = refl

pub abort_too_late_gives : run_dones empty (on_shard (shard 1) abort_too_late) ≡
    gives 1 1 (txn 2 1) Phase.Prelim (client 2) (Answer.Values (None ∷ []))
    ∷ gives 1 2 (txn 2 1) Phase.Conclude (client 2) Answer.Committed
    ∷ gives 1 3 (txn 2 1) Phase.Conclude (client 1) Answer.Committed
    ∷ []
unfolding same_key same_id conflict
abort_too_late_gives = refl

-- A PRELIMINARY THAT NOTHING CONCLUDES is pending
abbrev pub unfinished : List Packet
unfinished = own (on_second 1) (txn 2 1) (Prelim (exclusive b ∷ [])) ∷ []

pub unfinished_has_a_pending_line : lines unfinished ≡ line (txn 2 1) Outcome.Pending ∷ []
unfolding same_id
unfinished_has_a_pending_line = refl
