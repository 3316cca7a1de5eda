-- Lists of packets with the answers that the lock table gives, and those of the plain run.
use Rattle.std.specs.Prelude.{◌≡◌, ℕ, true, false, Some, None, List, [], ◌∷◌, refl}
use Rattle.eris_base.specs.declared.ids.ClientId.{ClientId}
use Rattle.eris_base.specs.declared.ids.Phase.{Phase}
use Rattle.eris_base.specs.declared.ids.Place.{Place}
use Rattle.eris_base.specs.declared.ids.TxnId.{TxnId}
use Rattle.eris_txn.specs.declared.answer.Answer.{Answer}
use Rattle.eris_txn.specs.declared.body.Body.{Body}
use Rattle.eris_txn.specs.declared.body.Body.TheVariants.{Independent, Prelim, Commit, Abort}
use Rattle.eris_txn.specs.declared.key.Key.{Key}
use Rattle.eris_txn.specs.declared.lock.Lock.{Lock}
use Rattle.eris_txn.specs.declared.lock.Mode.TheVariants.{Shared, Exclusive}
use Rattle.eris_txn.specs.declared.op.Op.TheVariants.{Get, Put, Add}
use Rattle.eris_txn.specs.declared.op.OpAnswer.{OpAnswer}
use Rattle.eris_txn.specs.Keys.{same_key}
use Rattle.eris_locks.specs.declared.done.Done.{Done}
use Rattle.eris_locks.specs.declared.shard_packet.ShardPacket.{ShardPacket}
use Rattle.eris_locks.specs.Law.{plain_answers}
use Rattle.eris_locks.specs.Locks.{conflict}
use Rattle.eris_locks.specs.LockTable.{run_dones, run_state}
use Rattle.eris_locks.specs.ShardRun.{Served}
use Rattle.eris_locks.specs.States.{empty}
use Rattle.eris_base.specs.TxnIds.{same_id}

-- a key of shard 0 whose name is one letter
abbrev pub letter : ℕ → Key
letter byte = record { shard = record { 0 = 0 }; name = byte ∷ [] }

abbrev pub a : Key
a = letter 97

abbrev pub b : Key
b = letter 98

abbrev pub shared : Key → Lock
shared key = record { key = key; mode = Shared }

abbrev pub exclusive : Key → Lock
exclusive key = record { key = key; mode = Exclusive }

abbrev pub client : ℕ → ClientId
client number = record { 0 = number }

abbrev pub txn : ℕ → ℕ → TxnId
txn owner number = record { client = client owner; number = number }

-- a place of shard 0 in epoch 0
abbrev pub place : ℕ → Place
place number = record { epoch = record { 0 = 0 }; shard = record { 0 = 0 }; number = number }

-- a packet at a place, asked for by its own client
abbrev pub own : ℕ → TxnId → Body → ShardPacket
own at id body = record { id = id; asker = id.client; at = place at; body = body }

-- and one that another client asked for
abbrev pub asked : ℕ → ClientId → TxnId → Body → ShardPacket
asked at asker id body = record { id = id; asker = asker; at = place at; body = body }

abbrev pub at_once : ℕ → TxnId → Phase → ClientId → Answer → Done
at_once at id phase asker answer = record { id = id; phase = phase; asker = asker; answer = answer; at = place at; late = false }

abbrev pub late : ℕ → TxnId → Phase → ClientId → Answer → Done
late at id phase asker answer = record { id = id; phase = phase; asker = asker; answer = answer; at = place at; late = true }

abbrev pub served : TxnId → Answer → Served
served id answer = record { id = id; answer = answer }

-- A READ BEHIND A LOCK: a is 10; a general transaction locks it, and another client's read waits; the
-- Commit, which writes 15, frees the read, whose late answer is 15.
abbrev pub read_behind_a_lock : List ShardPacket
read_behind_a_lock =
    own 1 (txn 0 1) (Independent (Put a 10 ∷ []))
    ∷ own 2 (txn 0 2) (Prelim (exclusive a ∷ []))
    ∷ own 3 (txn 1 1) (Independent (Get a ∷ []))
    ∷ own 4 (txn 0 2) (Commit (a ∷ []) (record { key = a; value = 15 } ∷ []))
    ∷ []

pub a_read_behind_a_lock_is_answered_late : run_dones empty read_behind_a_lock ≡
    at_once 1 (txn 0 1) Phase.Whole (client 0) (Answer.Ops (OpAnswer.Done ∷ []))
    ∷ at_once 2 (txn 0 2) Phase.Prelim (client 0) (Answer.Values (Some 10 ∷ []))
    ∷ at_once 4 (txn 0 2) Phase.Conclude (client 0) Answer.Committed
    ∷ late 4 (txn 1 1) Phase.Whole (client 1) (Answer.Ops (OpAnswer.Value 15 ∷ []))
    ∷ []
unfolding same_key same_id conflict
a_read_behind_a_lock_is_answered_late = refl

pub and_as_the_plain_run_answers_it : plain_answers read_behind_a_lock ≡
    served (txn 0 1) (Answer.Ops (OpAnswer.Done ∷ []))
    ∷ served (txn 0 2) (Answer.Values (Some 10 ∷ []))
    ∷ served (txn 1 1) (Answer.Ops (OpAnswer.Value 15 ∷ []))
    ∷ []
unfolding same_key same_id conflict
and_as_the_plain_run_answers_it = refl

-- TWO SHARED READERS hold side by side, and a read passes them; a writer waits for both; a later read may
-- not pass the writer, though it conflicts with no holder.
abbrev pub shared_readers : List ShardPacket
shared_readers =
    own 1 (txn 0 1) (Prelim (shared a ∷ []))
    ∷ own 2 (txn 1 1) (Prelim (shared a ∷ []))
    ∷ own 3 (txn 2 1) (Independent (Get a ∷ []))
    ∷ own 4 (txn 2 2) (Independent (Put a 7 ∷ []))
    ∷ own 5 (txn 3 1) (Independent (Get a ∷ []))
    ∷ own 6 (txn 0 1) (Commit (a ∷ []) [])
    ∷ own 7 (txn 1 1) (Abort (a ∷ []))
    ∷ []

pub a_writer_waits_for_both_shared_readers : run_dones empty shared_readers ≡
    at_once 1 (txn 0 1) Phase.Prelim (client 0) (Answer.Values (None ∷ []))
    ∷ at_once 2 (txn 1 1) Phase.Prelim (client 1) (Answer.Values (None ∷ []))
    ∷ at_once 3 (txn 2 1) Phase.Whole (client 2) (Answer.Ops (OpAnswer.Absent ∷ []))
    ∷ at_once 6 (txn 0 1) Phase.Conclude (client 0) Answer.Committed
    ∷ at_once 7 (txn 1 1) Phase.Conclude (client 1) Answer.Aborted
    ∷ late 7 (txn 2 2) Phase.Whole (client 2) (Answer.Ops (OpAnswer.Done ∷ []))
    ∷ late 7 (txn 3 1) Phase.Whole (client 3) (Answer.Ops (OpAnswer.Value 7 ∷ []))
    ∷ []
unfolding same_key same_id conflict
a_writer_waits_for_both_shared_readers = refl

-- A RETRIED transaction acts once and is answered the same.
abbrev pub retried : List ShardPacket
retried =
    own 1 (txn 0 1) (Independent (Add a 5 ∷ []))
    ∷ own 2 (txn 0 1) (Independent (Add a 5 ∷ []))
    ∷ []

pub a_retried_transaction_acts_once : run_dones empty retried ≡
    at_once 1 (txn 0 1) Phase.Whole (client 0) (Answer.Ops (OpAnswer.Value 5 ∷ []))
    ∷ at_once 2 (txn 0 1) Phase.Whole (client 0) (Answer.Ops (OpAnswer.Value 5 ∷ []))
    ∷ []
unfolding same_key same_id conflict
a_retried_transaction_acts_once = refl

pub and_its_value_is_added_once : (run_state empty retried).values a ≡ Some 5
unfolding same_key same_id conflict
and_its_value_is_added_once = refl

-- AN ABORT BEFORE the preliminary: another client's Abort decides the id; the preliminary then comes, is
-- answered Aborted and locks nothing.
abbrev pub aborted_before : List ShardPacket
aborted_before =
    asked 1 (client 1) (txn 0 1) (Abort (a ∷ []))
    ∷ own 2 (txn 0 1) (Prelim (exclusive a ∷ []))
    ∷ own 3 (txn 1 1) (Independent (Get a ∷ []))
    ∷ []

pub an_abort_before_the_preliminary : run_dones empty aborted_before ≡
    at_once 1 (txn 0 1) Phase.Conclude (client 1) Answer.Aborted
    ∷ at_once 2 (txn 0 1) Phase.Prelim (client 0) Answer.Aborted
    ∷ at_once 3 (txn 1 1) Phase.Whole (client 1) (Answer.Ops (OpAnswer.Absent ∷ []))
    ∷ []
unfolding same_key same_id conflict
an_abort_before_the_preliminary = refl

-- AN ABORT WHILE it WAITS: it is answered Aborted, late and to its own asker, which is recorded for a retry;
-- and the read that waited behind it is free, though the first preliminary still holds.
abbrev pub aborted_waiting : List ShardPacket
aborted_waiting =
    own 1 (txn 0 1) (Prelim (shared a ∷ []))
    ∷ own 2 (txn 1 1) (Prelim (exclusive a ∷ []))
    ∷ own 3 (txn 2 1) (Independent (Get a ∷ []))
    ∷ asked 4 (client 3) (txn 1 1) (Abort (a ∷ []))
    ∷ own 5 (txn 1 1) (Prelim (exclusive a ∷ []))
    ∷ []

pub an_abort_while_waiting : run_dones empty aborted_waiting ≡
    at_once 1 (txn 0 1) Phase.Prelim (client 0) (Answer.Values (None ∷ []))
    ∷ at_once 4 (txn 1 1) Phase.Conclude (client 3) Answer.Aborted
    ∷ late 4 (txn 1 1) Phase.Prelim (client 1) Answer.Aborted
    ∷ late 4 (txn 2 1) Phase.Whole (client 2) (Answer.Ops (OpAnswer.Absent ∷ []))
    ∷ at_once 5 (txn 1 1) Phase.Prelim (client 1) Answer.Aborted
    ∷ []
unfolding same_key same_id conflict
an_abort_while_waiting = refl

-- AN ABORT WHILE it HOLDS: nothing is written, and the owner's Commit, which comes too late, is answered
-- the outcome.
abbrev pub aborted_holding : List ShardPacket
aborted_holding =
    own 1 (txn 0 1) (Prelim (exclusive a ∷ []))
    ∷ asked 2 (client 1) (txn 0 1) (Abort (a ∷ []))
    ∷ own 3 (txn 0 1) (Commit (a ∷ []) (record { key = a; value = 9 } ∷ []))
    ∷ own 4 (txn 1 1) (Independent (Get a ∷ []))
    ∷ []

pub an_abort_while_holding : run_dones empty aborted_holding ≡
    at_once 1 (txn 0 1) Phase.Prelim (client 0) (Answer.Values (None ∷ []))
    ∷ at_once 2 (txn 0 1) Phase.Conclude (client 1) Answer.Aborted
    ∷ at_once 3 (txn 0 1) Phase.Conclude (client 0) Answer.Aborted
    ∷ at_once 4 (txn 1 1) Phase.Whole (client 1) (Answer.Ops (OpAnswer.Absent ∷ []))
    ∷ []
unfolding same_key same_id conflict
an_abort_while_holding = refl

-- A RELEASE THAT FREES TWO: a preliminary holds a and b, and a preliminary that reads a, an addition to b
-- and a writer of a wait. The Commit frees the first two, over the values that it wrote. The first of them
-- then holds, so the writer waits on.
abbrev pub released : List ShardPacket
released =
    own 1 (txn 0 1) (Prelim (exclusive a ∷ exclusive b ∷ []))
    ∷ own 2 (txn 1 1) (Prelim (shared a ∷ []))
    ∷ own 3 (txn 2 1) (Independent (Add b 1 ∷ []))
    ∷ own 4 (txn 3 1) (Independent (Put a 8 ∷ []))
    ∷ own 5 (txn 0 1) (Commit (a ∷ b ∷ []) (record { key = a; value = 3 } ∷ record { key = b; value = 4 } ∷ []))
    ∷ []

pub a_release_frees_two_and_leaves_one_waiting : run_dones empty released ≡
    at_once 1 (txn 0 1) Phase.Prelim (client 0) (Answer.Values (None ∷ None ∷ []))
    ∷ at_once 5 (txn 0 1) Phase.Conclude (client 0) Answer.Committed
    ∷ late 5 (txn 1 1) Phase.Prelim (client 1) (Answer.Values (Some 3 ∷ []))
    ∷ late 5 (txn 2 1) Phase.Whole (client 2) (Answer.Ops (OpAnswer.Value 5 ∷ []))
    ∷ []
unfolding same_key same_id conflict
a_release_frees_two_and_leaves_one_waiting = refl

pub the_writer_behind_waits_on : (run_state empty released).waiting ≡ own 4 (txn 3 1) (Independent (Put a 8 ∷ [])) ∷ []
unfolding same_key same_id conflict
the_writer_behind_waits_on = refl
