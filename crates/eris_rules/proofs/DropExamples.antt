-- Runs in which packets are found or dropped, computed.
use Rattle.std.specs.Prelude.{◌≡◌, Some, List, [], ◌∷◌, ◌++◌, refl}
use Rattle.eris_txn.specs.declared.answer.Answer.{Answer}
use Rattle.eris_txn.specs.declared.history.HistoryEvent.TheVariants as history
use Rattle.eris_txn.specs.declared.op.Op.TheVariants.{Get, Put}
use Rattle.eris_txn.specs.declared.op.OpAnswer.{OpAnswer}
use Rattle.eris_txn.specs.declared.txn.Txn.{Txn}
use Rattle.eris_audit.specs.declared.outcome.Outcome.{Outcome}
use Rattle.eris_event.specs.declared.event.Event.{Event}
use Rattle.eris_event.specs.declared.report.ReplicaState.TheVariants.{Normal}
use Rattle.eris_rules.proofs.ExampleWords.{system, reported, epoch, a, b, txn, submit, retry, deliver, flow, lose, line, ordered}
use Rattle.eris_rules.proofs.Opened.{all_rules}

-- A LOST PACKET IS FOUND at the other shard.
abbrev pub found : List Event
found = (submit 0 (Put a 1 ∷ Put b 1 ∷ []) ∷ []) ++ flow 2 ++ lose 1 ++ (submit 0 (Get b ∷ []) ∷ []) ++ flow 100

found_report : reported (system 2 0 1) found ≡ Some (record {
  config = system 2 0 1;
  history = history.Submit (txn 0 1) (Txn.Whole (Put a 1 ∷ Put b 1 ∷ []))
      ∷ history.Submit (txn 0 2) (Txn.Whole (Get b ∷ []))
      ∷ history.Answer (txn 0 1) (Answer.Ops (OpAnswer.Done ∷ OpAnswer.Done ∷ []))
      ∷ history.Answer (txn 0 2) (Answer.Ops (OpAnswer.Value 1 ∷ []))
      ∷ [];
  order = ordered (txn 0 1) Outcome.Done 0 ((0, 1) ∷ (1, 1) ∷ [])
      ∷ ordered (txn 0 2) Outcome.Done 0 ((1, 2) ∷ [])
      ∷ [];
  replicas = line 0 0 Normal 0 0 1 1 0
      ∷ line 1 0 Normal 0 0 2 2 0
      ∷ [];
  current = epoch 0;
  target = epoch 0;
  found = 1;
  dropped = 0;
  sent = 15;
})
unfolding all_rules
found_report = refl

-- A PACKET THAT NO REPLICA HAS is dropped for good on both shards; its retry acts.
abbrev pub dropped : List Event
dropped = (submit 0 (Put a 1 ∷ Put b 1 ∷ []) ∷ []) ++ flow 1 ++ lose 2 ++ (submit 0 (Get b ∷ []) ∷ []) ++ flow 100 ++ (retry 0 1 ∷ []) ++ flow 100

dropped_report : reported (system 2 0 1) dropped ≡ Some (record {
  config = system 2 0 1;
  history = history.Submit (txn 0 1) (Txn.Whole (Put a 1 ∷ Put b 1 ∷ []))
      ∷ history.Submit (txn 0 2) (Txn.Whole (Get b ∷ []))
      ∷ history.Answer (txn 0 2) (Answer.Ops (OpAnswer.Absent ∷ []))
      ∷ history.Answer (txn 0 1) (Answer.Ops (OpAnswer.Done ∷ OpAnswer.Done ∷ []))
      ∷ [];
  order = ordered (txn 0 2) Outcome.Done 0 ((1, 2) ∷ [])
      ∷ ordered (txn 0 1) Outcome.Done 0 ((0, 2) ∷ (1, 3) ∷ [])
      ∷ [];
  replicas = line 0 0 Normal 0 0 1 2 0
      ∷ line 1 0 Normal 0 0 2 3 0
      ∷ [];
  current = epoch 0;
  target = epoch 0;
  found = 0;
  dropped = 2;
  sent = 25;
})
unfolding all_rules
dropped_report = refl

-- ONE REPLICA HOLDS WHAT A QUORUM DROPPED: it comes late to the others, and acts nowhere.
abbrev pub held_by_one : List Event
held_by_one = (submit 0 (Put a 1 ∷ []) ∷ []) ++ flow 1 ++ (deliver 3 ∷ []) ++ lose 2 ++ (submit 0 (Put a 2 ∷ []) ∷ []) ++ flow 100 ++ (deliver 1 ∷ deliver 2 ∷ [])

held_by_one_report : reported (system 1 1 1) held_by_one ≡ Some (record {
  config = system 1 1 1;
  history = history.Submit (txn 0 1) (Txn.Whole (Put a 1 ∷ []))
      ∷ history.Submit (txn 0 2) (Txn.Whole (Put a 2 ∷ []))
      ∷ history.Answer (txn 0 2) (Answer.Ops (OpAnswer.Done ∷ []))
      ∷ [];
  order = ordered (txn 0 2) Outcome.Done 0 ((0, 2) ∷ [])
      ∷ [];
  replicas = line 0 0 Normal 0 0 2 2 0
      ∷ line 0 1 Normal 0 0 2 2 0
      ∷ line 0 2 Normal 0 0 2 2 0
      ∷ [];
  current = epoch 0;
  target = epoch 0;
  found = 0;
  dropped = 1;
  sent = 23;
})
unfolding all_rules
held_by_one_report = refl
