-- Courses of a client, computed: a transfer over two shards is read, committed and answered; an abort of another's
-- transaction is told.
use Rattle.std.specs.Prelude.{◌≡◌, ℕ, Some, List, [], ◌∷◌, refl}
use Rattle.eris_base.specs.declared.ids.ClientId.{ClientId}
use Rattle.eris_base.specs.declared.ids.Phase.{Phase}
use Rattle.eris_base.specs.declared.ids.ReplicaId.{ReplicaId}
use Rattle.eris_base.specs.declared.ids.ShardId.{ShardId}
use Rattle.eris_base.specs.declared.ids.TxnId.{TxnId}
use Rattle.eris_base.specs.TxnIds.{same_id}
use Rattle.eris_base.specs.declared.ids.View.{View}
use Rattle.eris_base.specs.declared.stamp.Stamp.{Stamp}
use Rattle.eris_txn.specs.declared.answer.Answer.{Answer}
use Rattle.eris_txn.specs.declared.body.Body.TheVariants.{Abort, Commit, Prelim}
use Rattle.eris_txn.specs.declared.history.HistoryEvent.TheVariants as history
use Rattle.eris_txn.specs.declared.key.Key.{Key}
use Rattle.eris_txn.specs.declared.plan.How.TheVariants.{Minus, Plus}
use Rattle.eris_txn.specs.Keys.{same_key}
use Rattle.eris_epoch.specs.SamePackets.{same_list, same_place_on, same_stamp}
use Rattle.eris_txn.specs.declared.lock.Mode.TheVariants.{Exclusive}
use Rattle.eris_txn.specs.declared.op.Op.TheVariants.{Put}
use Rattle.eris_txn.specs.declared.op.OpAnswer.TheVariants.{Done}
use Rattle.eris_txn.specs.declared.txn.Txn.{Txn}
use Rattle.eris_txn.specs.PlanValues.{PlanValue}
use Rattle.eris_msg.specs.declared.message.Message.{Message}
use Rattle.eris_rules.specs.Clients.{abort, all_op_answers, all_values, ask_for, asks_again, begins_half, client_step, concludes, finishes, goes_on, has_concluded, has_read, hears_late_of, hears_vote_of, is_executed, is_told, late_row, retry, submit, vote_row}
use Rattle.eris_rules.specs.ClientStates.{ClientIdentity, begun_half, first_client, transaction_at, with_transaction}
use Rattle.eris_rules.specs.InPlace.{all_name_participants, is_in_place_at_client, is_sound, names_exactly}
use Rattle.eris_rules.specs.Known.{knows_all, knows_pairs}
use Rattle.eris_rules.specs.Votes.{agrees_with, answer_by_votes, is_complete, late_fits, vote_fits, waits_for, with_counted, with_late, with_vote}
use Rattle.eris_law_client.specs.ClientRuns.{Aborts, ClientInput, Gets, Retries, Submits, client_does, history_to, moment, sent_to}

-- all definitions that these compute with
unfoldable all_of_client : ℕ
unfolding moment history_to sent_to client_does same_id same_key same_list same_place_on same_stamp first_client transaction_at with_transaction begun_half begins_half submit asks_again retry abort finishes all_op_answers all_values is_executed concludes has_read has_concluded is_told goes_on hears_vote_of vote_row hears_late_of late_row client_step vote_fits late_fits waits_for agrees_with answer_by_votes with_counted with_vote with_late is_complete names_exactly all_name_participants is_sound is_in_place_at_client knows_all knows_pairs
all_of_client = 0

abbrev shard : ℕ → ShardId
shard number = record { 0 = number }

abbrev replica : ℕ → ReplicaId
replica number = record { 0 = number }

abbrev client : ℕ → ClientId
client number = record { 0 = number }

-- a key of a shard whose name is one letter
abbrev key : ℕ → ℕ → Key
key number letter = record { shard = shard number; name = letter ∷ [] }

abbrev a : Key
a = key 0 97

abbrev b : Key
b = key 1 98

abbrev txn : ℕ → ℕ → TxnId
txn owner number = record { client = client owner; number = number }

-- a client of a system of two shards with no faults, whose Replies count by themselves
abbrev me : ℕ → ClientIdentity
me number = record { config = record { shards = 2; f = 0; clients = 2 }; client = client number }

abbrev stamp : ℕ → Stamp
stamp number = record { epoch = record { 0 = 0 }; places = (shard 0, number) ∷ (shard 1, number) ∷ [] }

abbrev view : View
view = record { 0 = 0 }

abbrev replied : ℕ → ℕ → Phase → Answer → ClientInput
replied from number phase answer = Gets (Message.Reply view (shard from) (replica 0) (stamp number) (txn 0 1) phase answer)

abbrev transfer : PlanValue
transfer =
    record {
      keys = a ∷ b ∷ [];
      guards = record { key = a; least = 30 } ∷ [];
      settings = record { key = a; how = Minus 30 } ∷ record { key = b; how = Plus 30 } ∷ [];
    }

-- A TRANSFER: the second shard answers first, and is heard twice
abbrev transfers : List ClientInput
transfers =
    Submits (Txn.General transfer)
    ∷ replied 1 1 Phase.Prelim (Answer.Values (Some 5 ∷ []))
    ∷ replied 1 1 Phase.Prelim (Answer.Values (Some 5 ∷ []))
    ∷ Retries 1
    ∷ replied 0 1 Phase.Prelim (Answer.Values (Some 30 ∷ []))
    ∷ replied 0 2 Phase.Conclude Answer.Committed
    ∷ replied 1 2 Phase.Conclude Answer.Committed
    ∷ []

transfer_history : history_to (me 0) transfers 7
    ≡ history.Submit (txn 0 1) (Txn.General transfer) ∷ history.Read (txn 0 1) (Some 30 ∷ Some 5 ∷ []) ∷ history.Answer (txn 0 1) Answer.Committed ∷ []
unfolding all_of_client
transfer_history = refl

-- it asks for the first half twice, and once for the second, of what it read
transfer_sent : sent_to (me 0) transfers 7
    ≡ ask_for (me 0) (txn 0 1) (Prelim (record { key = a; mode = Exclusive } ∷ record { key = b; mode = Exclusive } ∷ []))
    ∷ ask_for (me 0) (txn 0 1) (Prelim (record { key = a; mode = Exclusive } ∷ record { key = b; mode = Exclusive } ∷ []))
    ∷ ask_for (me 0) (txn 0 1) (Commit (a ∷ b ∷ []) (record { key = a; value = 0 } ∷ record { key = b; value = 35 } ∷ []))
    ∷ []
unfolding all_of_client
transfer_sent = refl

-- AN ABORT of another's, told by one shard
abbrev aborts : List ClientInput
aborts =
    Aborts (txn 0 1) (a ∷ b ∷ [])
    ∷ replied 0 2 Phase.Conclude Answer.Committed
    ∷ Aborts (txn 0 1) (a ∷ b ∷ [])
    ∷ Gets (Message.Late (shard 1) (replica 0) (txn 0 1) Phase.Conclude Answer.Aborted)
    ∷ replied 0 2 Phase.Conclude Answer.Committed
    ∷ []

abort_history : history_to (me 1) aborts 5 ≡ history.Told (client 1) (txn 0 1) Answer.Aborted ∷ []
unfolding all_of_client
abort_history = refl

abort_sent : sent_to (me 1) aborts 5 ≡ ask_for (me 1) (txn 0 1) (Abort (a ∷ b ∷ [])) ∷ ask_for (me 1) (txn 0 1) (Abort (a ∷ b ∷ [])) ∷ []
unfolding all_of_client
abort_sent = refl

-- VOTES OF TWO VIEWS don't add up: a Vouch in view 0 and the Reply of view 1 count nothing, and the Reply of view 0 does
abbrev of_three : ClientIdentity
of_three = record { config = record { shards = 1; f = 1; clients = 1 }; client = client 0 }

abbrev one_place : Stamp
one_place = record { epoch = record { 0 = 0 }; places = (shard 0, 1) ∷ [] }

abbrev put_one : List ClientInput
put_one =
    Submits (Txn.Whole (Put a 7 ∷ []))
    ∷ Gets (Message.Vouch (record { 0 = 0 }) (shard 0) (replica 1) one_place (txn 0 1) Phase.Whole)
    ∷ Gets (Message.Reply (record { 0 = 1 }) (shard 0) (replica 1) one_place (txn 0 1) Phase.Whole (Answer.Ops (Done ∷ [])))
    ∷ Gets (Message.Vouch (record { 0 = 0 }) (shard 0) (replica 1) one_place (txn 0 1) Phase.Whole)
    ∷ Gets (Message.Reply (record { 0 = 0 }) (shard 0) (replica 0) one_place (txn 0 1) Phase.Whole (Answer.Ops (Done ∷ [])))
    ∷ []

not_yet : history_to of_three put_one 4 ≡ history.Submit (txn 0 1) (Txn.Whole (Put a 7 ∷ [])) ∷ []
unfolding all_of_client
not_yet = refl

answered : history_to of_three put_one 5 ≡ history.Submit (txn 0 1) (Txn.Whole (Put a 7 ∷ [])) ∷ history.Answer (txn 0 1) (Answer.Ops (Done ∷ [])) ∷ []
unfolding all_of_client
answered = refl
