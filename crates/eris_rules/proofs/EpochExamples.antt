-- Runs in which the sequencer is replaced, computed.
use Rattle.std.specs.Prelude.{◌≡◌, Some, List, [], ◌∷◌, ◌++◌, refl}
use Rattle.eris_txn.specs.declared.answer.Answer.{Answer}
use Rattle.eris_txn.specs.declared.history.HistoryEvent.TheVariants as history
use Rattle.eris_txn.specs.declared.op.Op.TheVariants.{Get, Put}
use Rattle.eris_txn.specs.declared.op.OpAnswer.{OpAnswer}
use Rattle.eris_txn.specs.declared.txn.Txn.{Txn}
use Rattle.eris_audit.specs.declared.outcome.Outcome.{Outcome}
use Rattle.eris_event.specs.declared.event.Event.{Event}
use Rattle.eris_event.specs.declared.report.ReplicaState.TheVariants.{Normal}
use Rattle.eris_rules.proofs.ExampleWords.{system, reported, epoch, a, b, txn, submit, retry, deliver, deliver_to, flow, line, ordered}
use Rattle.eris_rules.proofs.Opened.{all_rules}

-- THREE SEQUENCERS stamp at once: one epoch is closed with nothing in it, one is skipped.
abbrev pub mixed_epochs : List Event
mixed_epochs = (Event.Replace ∷ Event.Replace ∷ submit 0 (Put a 1 ∷ []) ∷ []) ++ flow 100 ++ (deliver 1 ∷ []) ++ flow 100 ++ (submit 0 (Put b 5 ∷ []) ∷ deliver_to 10 0 ∷ deliver_to 10 1 ∷ []) ++ flow 100 ++ (retry 0 2 ∷ []) ++ flow 100

mixed_epochs_report : reported (system 2 0 1) mixed_epochs ≡ Some (record {
  config = system 2 0 1;
  history = history.Submit (txn 0 1) (Txn.Whole (Put a 1 ∷ []))
      ∷ history.Answer (txn 0 1) (Answer.Ops (OpAnswer.Done ∷ []))
      ∷ history.Submit (txn 0 2) (Txn.Whole (Put b 5 ∷ []))
      ∷ history.Answer (txn 0 2) (Answer.Ops (OpAnswer.Done ∷ []))
      ∷ [];
  order = ordered (txn 0 1) Outcome.Done 2 ((0, 1) ∷ [])
      ∷ ordered (txn 0 2) Outcome.Done 2 ((1, 1) ∷ [])
      ∷ [];
  replicas = line 0 0 Normal 2 0 1 1 0
      ∷ line 1 0 Normal 2 0 1 1 0
      ∷ [];
  current = epoch 2;
  target = epoch 2;
  found = 0;
  dropped = 0;
  sent = 16;
})
unfolding all_rules
mixed_epochs_report = refl

-- A VALUE OUTLIVES ITS EPOCH: it is in the log from which the next epoch goes on.
abbrev pub outlives_its_epoch : List Event
outlives_its_epoch = (submit 0 (Put a 7 ∷ []) ∷ []) ++ flow 3 ++ (Event.Replace ∷ submit 0 (Get a ∷ []) ∷ []) ++ flow 100 ++ (deliver 4 ∷ []) ++ flow 1

outlives_its_epoch_report : reported (system 1 0 1) outlives_its_epoch ≡ Some (record {
  config = system 1 0 1;
  history = history.Submit (txn 0 1) (Txn.Whole (Put a 7 ∷ []))
      ∷ history.Answer (txn 0 1) (Answer.Ops (OpAnswer.Done ∷ []))
      ∷ history.Submit (txn 0 2) (Txn.Whole (Get a ∷ []))
      ∷ history.Answer (txn 0 2) (Answer.Ops (OpAnswer.Value 7 ∷ []))
      ∷ [];
  order = ordered (txn 0 1) Outcome.Done 0 ((0, 1) ∷ [])
      ∷ ordered (txn 0 2) Outcome.Done 1 ((0, 1) ∷ [])
      ∷ [];
  replicas = line 0 0 Normal 1 0 1 1 0
      ∷ [];
  current = epoch 1;
  target = epoch 1;
  found = 0;
  dropped = 0;
  sent = 10;
})
unfolding all_rules
outlives_its_epoch_report = refl
