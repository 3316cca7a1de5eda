-- Runs with general transactions, computed.
use Rattle.std.specs.Prelude.{◌≡◌, Some, None, List, [], ◌∷◌, ◌++◌, refl}
use Rattle.eris_txn.specs.declared.answer.Answer.{Answer}
use Rattle.eris_txn.specs.declared.history.HistoryEvent.TheVariants as history
use Rattle.eris_txn.specs.declared.op.Op.TheVariants.{Get, Put}
use Rattle.eris_txn.specs.declared.op.OpAnswer.{OpAnswer}
use Rattle.eris_txn.specs.declared.txn.Txn.{Txn}
use Rattle.eris_audit.specs.declared.outcome.Outcome.{Outcome}
use Rattle.eris_event.specs.declared.event.Event.{Event}
use Rattle.eris_event.specs.declared.report.ReplicaState.TheVariants.{Normal}
use Rattle.eris_rules.proofs.ExampleWords.{system, reported, epoch, key, a, b, txn, guard, set, plus, minus, plan, submit, general, abort, deliver, flow, sync, line, ordered}
use Rattle.eris_rules.proofs.Opened.{all_rules}

-- A TRANSFER between two shards commits.
abbrev pub transfer : List Event
transfer = (submit 0 (Put a 30 ∷ Put b 5 ∷ []) ∷ []) ++ flow 5 ++ (general 0 (plan (a ∷ b ∷ []) (guard a 30 ∷ []) (minus a 30 ∷ plus b 30 ∷ [])) ∷ []) ++ flow 100 ++ (submit 0 (Get a ∷ Get b ∷ []) ∷ []) ++ flow 100

transfer_report : reported (system 2 0 1) transfer ≡ Some (record {
  config = system 2 0 1;
  history = history.Submit (txn 0 1) (Txn.Whole (Put a 30 ∷ Put b 5 ∷ []))
      ∷ history.Answer (txn 0 1) (Answer.Ops (OpAnswer.Done ∷ OpAnswer.Done ∷ []))
      ∷ history.Submit (txn 0 2) (Txn.General (plan (a ∷ b ∷ []) (guard a 30 ∷ []) (minus a 30 ∷ plus b 30 ∷ [])))
      ∷ history.Read (txn 0 2) (Some 30 ∷ Some 5 ∷ [])
      ∷ history.Answer (txn 0 2) Answer.Committed
      ∷ history.Submit (txn 0 3) (Txn.Whole (Get a ∷ Get b ∷ []))
      ∷ history.Answer (txn 0 3) (Answer.Ops (OpAnswer.Value 0 ∷ OpAnswer.Value 35 ∷ []))
      ∷ [];
  order = ordered (txn 0 1) Outcome.Done 0 ((0, 1) ∷ (1, 1) ∷ [])
      ∷ ordered (txn 0 2) Outcome.Committed 0 ((0, 2) ∷ (1, 2) ∷ [])
      ∷ ordered (txn 0 3) Outcome.Done 0 ((0, 4) ∷ (1, 4) ∷ [])
      ∷ [];
  replicas = line 0 0 Normal 0 0 4 4 0
      ∷ line 1 0 Normal 0 0 4 4 0
      ∷ [];
  current = epoch 0;
  target = epoch 0;
  found = 0;
  dropped = 0;
  sent = 20;
})
unfolding all_rules
transfer_report = refl

-- With one less its guard fails, and it is aborted.
abbrev pub short_transfer : List Event
short_transfer = (submit 0 (Put a 29 ∷ Put b 5 ∷ []) ∷ []) ++ flow 5 ++ (general 0 (plan (a ∷ b ∷ []) (guard a 30 ∷ []) (minus a 30 ∷ plus b 30 ∷ [])) ∷ []) ++ flow 100 ++ (submit 0 (Get a ∷ Get b ∷ []) ∷ []) ++ flow 100

short_transfer_report : reported (system 2 0 1) short_transfer ≡ Some (record {
  config = system 2 0 1;
  history = history.Submit (txn 0 1) (Txn.Whole (Put a 29 ∷ Put b 5 ∷ []))
      ∷ history.Answer (txn 0 1) (Answer.Ops (OpAnswer.Done ∷ OpAnswer.Done ∷ []))
      ∷ history.Submit (txn 0 2) (Txn.General (plan (a ∷ b ∷ []) (guard a 30 ∷ []) (minus a 30 ∷ plus b 30 ∷ [])))
      ∷ history.Read (txn 0 2) (Some 29 ∷ Some 5 ∷ [])
      ∷ history.Answer (txn 0 2) Answer.Aborted
      ∷ history.Submit (txn 0 3) (Txn.Whole (Get a ∷ Get b ∷ []))
      ∷ history.Answer (txn 0 3) (Answer.Ops (OpAnswer.Value 29 ∷ OpAnswer.Value 5 ∷ []))
      ∷ [];
  order = ordered (txn 0 1) Outcome.Done 0 ((0, 1) ∷ (1, 1) ∷ [])
      ∷ ordered (txn 0 2) Outcome.Aborted 0 ((0, 2) ∷ (1, 2) ∷ [])
      ∷ ordered (txn 0 3) Outcome.Done 0 ((0, 4) ∷ (1, 4) ∷ [])
      ∷ [];
  replicas = line 0 0 Normal 0 0 4 4 0
      ∷ line 1 0 Normal 0 0 4 4 0
      ∷ [];
  current = epoch 0;
  target = epoch 0;
  found = 0;
  dropped = 0;
  sent = 20;
})
unfolding all_rules
short_transfer_report = refl

-- A READ BEHIND A LOCK is answered late, when its place is settled.
abbrev pub behind_a_lock : List Event
behind_a_lock = (submit 0 (Put a 10 ∷ []) ∷ []) ++ flow 3 ++ (general 0 (plan (a ∷ []) [] (plus a 5 ∷ [])) ∷ submit 1 (Get a ∷ []) ∷ []) ++ flow 100 ++ (sync 0 0 ∷ []) ++ flow 100

behind_a_lock_report : reported (system 1 0 2) behind_a_lock ≡ Some (record {
  config = system 1 0 2;
  history = history.Submit (txn 0 1) (Txn.Whole (Put a 10 ∷ []))
      ∷ history.Answer (txn 0 1) (Answer.Ops (OpAnswer.Done ∷ []))
      ∷ history.Submit (txn 0 2) (Txn.General (plan (a ∷ []) [] (plus a 5 ∷ [])))
      ∷ history.Submit (txn 1 1) (Txn.Whole (Get a ∷ []))
      ∷ history.Read (txn 0 2) (Some 10 ∷ [])
      ∷ history.Answer (txn 0 2) Answer.Committed
      ∷ history.Answer (txn 1 1) (Answer.Ops (OpAnswer.Value 15 ∷ []))
      ∷ [];
  order = ordered (txn 0 1) Outcome.Done 0 ((0, 1) ∷ [])
      ∷ ordered (txn 0 2) Outcome.Committed 0 ((0, 2) ∷ [])
      ∷ ordered (txn 1 1) Outcome.Done 0 ((0, 3) ∷ [])
      ∷ [];
  replicas = line 0 0 Normal 0 0 4 4 4
      ∷ [];
  current = epoch 0;
  target = epoch 0;
  found = 0;
  dropped = 0;
  sent = 12;
})
unfolding all_rules
behind_a_lock_report = refl

-- ANOTHER CLIENT ABORTS a transaction that has read; its own commit comes late.
abbrev pub aborted_by_another : List Event
aborted_by_another = (general 0 (plan (a ∷ []) [] (set a 9 ∷ [])) ∷ []) ++ flow 2 ++ (abort 1 (txn 0 1) ∷ deliver 3 ∷ deliver 4 ∷ []) ++ flow 100

aborted_by_another_report : reported (system 1 0 2) aborted_by_another ≡ Some (record {
  config = system 1 0 2;
  history = history.Submit (txn 0 1) (Txn.General (plan (a ∷ []) [] (set a 9 ∷ [])))
      ∷ history.Read (txn 0 1) (None ∷ [])
      ∷ history.Told (record { 0 = 1 }) (txn 0 1) Answer.Aborted
      ∷ history.Answer (txn 0 1) Answer.Aborted
      ∷ [];
  order = ordered (txn 0 1) Outcome.Aborted 0 ((0, 1) ∷ [])
      ∷ [];
  replicas = line 0 0 Normal 0 0 3 3 0
      ∷ [];
  current = epoch 0;
  target = epoch 0;
  found = 0;
  dropped = 0;
  sent = 9;
})
unfolding all_rules
aborted_by_another_report = refl

-- AN ABORT BEFORE THE FIRST HALF, which is then refused.
abbrev pub aborted_before : List Event
aborted_before = (general 0 (plan (a ∷ []) [] (set a 9 ∷ [])) ∷ abort 1 (txn 0 1) ∷ deliver 1 ∷ deliver 2 ∷ deliver 3 ∷ deliver 0 ∷ []) ++ flow 100

aborted_before_report : reported (system 1 0 2) aborted_before ≡ Some (record {
  config = system 1 0 2;
  history = history.Submit (txn 0 1) (Txn.General (plan (a ∷ []) [] (set a 9 ∷ [])))
      ∷ history.Told (record { 0 = 1 }) (txn 0 1) Answer.Aborted
      ∷ history.Answer (txn 0 1) Answer.Aborted
      ∷ [];
  order = ordered (txn 0 1) Outcome.Aborted 0 ((0, 2) ∷ [])
      ∷ [];
  replicas = line 0 0 Normal 0 0 2 2 0
      ∷ [];
  current = epoch 0;
  target = epoch 0;
  found = 0;
  dropped = 0;
  sent = 6;
})
unfolding all_rules
aborted_before_report = refl

-- SHARED LOCKS: a read passes a holding preliminary that only reads the key.
abbrev pub shared_locks : List Event
shared_locks = (general 0 (plan (a ∷ (key 0 98) ∷ []) [] (plus (key 0 98) 1 ∷ [])) ∷ []) ++ flow 2 ++ (submit 1 (Get a ∷ []) ∷ deliver 3 ∷ deliver 4 ∷ deliver 5 ∷ []) ++ flow 100

shared_locks_report : reported (system 1 0 2) shared_locks ≡ Some (record {
  config = system 1 0 2;
  history = history.Submit (txn 0 1) (Txn.General (plan (a ∷ (key 0 98) ∷ []) [] (plus (key 0 98) 1 ∷ [])))
      ∷ history.Submit (txn 1 1) (Txn.Whole (Get a ∷ []))
      ∷ history.Answer (txn 1 1) (Answer.Ops (OpAnswer.Absent ∷ []))
      ∷ history.Read (txn 0 1) (None ∷ None ∷ [])
      ∷ history.Answer (txn 0 1) Answer.Committed
      ∷ [];
  order = ordered (txn 0 1) Outcome.Committed 0 ((0, 1) ∷ [])
      ∷ ordered (txn 1 1) Outcome.Done 0 ((0, 2) ∷ [])
      ∷ [];
  replicas = line 0 0 Normal 0 0 3 3 0
      ∷ [];
  current = epoch 0;
  target = epoch 0;
  found = 0;
  dropped = 0;
  sent = 9;
})
unfolding all_rules
shared_locks_report = refl
