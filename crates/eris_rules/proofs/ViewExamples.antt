-- Runs in which a learner crashes, or a log is settled, computed: one shard of three replicas.
use Rattle.std.specs.Prelude.{◌≡◌, Some, List, [], ◌∷◌, ◌++◌, refl}
use Rattle.eris_txn.specs.declared.answer.Answer.{Answer}
use Rattle.eris_txn.specs.declared.history.HistoryEvent.TheVariants as history
use Rattle.eris_txn.specs.declared.op.Op.TheVariants.{Get, Put}
use Rattle.eris_txn.specs.declared.op.OpAnswer.{OpAnswer}
use Rattle.eris_txn.specs.declared.txn.Txn.{Txn}
use Rattle.eris_audit.specs.declared.outcome.Outcome.{Outcome}
use Rattle.eris_event.specs.declared.event.Event.{Event}
use Rattle.eris_event.specs.declared.report.ReplicaState.TheVariants.{Crashed, Normal}
use Rattle.eris_rules.proofs.ExampleWords.{system, reported, epoch, a, txn, submit, flow, lose, suspect, sync, crash, line, ordered}
use Rattle.eris_rules.proofs.Opened.{all_rules}

-- THE LEARNER EXECUTES ALONE AND CRASHES: nobody was answered, and the packet is dropped.
abbrev pub learner_alone : List Event
learner_alone = (submit 0 (Put a 1 ∷ []) ∷ []) ++ flow 2 ++ lose 2 ++ (crash 0 0 ∷ suspect 0 1 ∷ suspect 0 2 ∷ []) ++ flow 2 ++ (submit 0 (Get a ∷ []) ∷ []) ++ flow 100

learner_alone_report : reported (system 1 1 1) learner_alone ≡ Some (record {
  config = system 1 1 1;
  history = history.Submit (txn 0 1) (Txn.Whole (Put a 1 ∷ []))
      ∷ history.Submit (txn 0 2) (Txn.Whole (Get a ∷ []))
      ∷ history.Answer (txn 0 2) (Answer.Ops (OpAnswer.Absent ∷ []))
      ∷ [];
  order = ordered (txn 0 2) Outcome.Done 0 ((0, 2) ∷ [])
      ∷ [];
  replicas = line 0 0 Crashed 0 0 1 1 0
      ∷ line 0 1 Normal 0 1 1 2 0
      ∷ line 0 2 Normal 0 1 1 2 0
      ∷ [];
  current = epoch 0;
  target = epoch 0;
  found = 0;
  dropped = 1;
  sent = 24;
})
unfolding all_rules
learner_alone_report = refl

-- THE LEARNER CRASHES AFTER AN ANSWER: the next learner has what was answered.
abbrev pub after_an_answer : List Event
after_an_answer = (submit 0 (Put a 7 ∷ []) ∷ []) ++ flow 7 ++ (crash 0 0 ∷ suspect 0 2 ∷ []) ++ flow 100 ++ (submit 0 (Get a ∷ []) ∷ []) ++ flow 100

after_an_answer_report : reported (system 1 1 1) after_an_answer ≡ Some (record {
  config = system 1 1 1;
  history = history.Submit (txn 0 1) (Txn.Whole (Put a 7 ∷ []))
      ∷ history.Answer (txn 0 1) (Answer.Ops (OpAnswer.Done ∷ []))
      ∷ history.Submit (txn 0 2) (Txn.Whole (Get a ∷ []))
      ∷ history.Answer (txn 0 2) (Answer.Ops (OpAnswer.Value 7 ∷ []))
      ∷ [];
  order = ordered (txn 0 1) Outcome.Done 0 ((0, 1) ∷ [])
      ∷ ordered (txn 0 2) Outcome.Done 0 ((0, 2) ∷ [])
      ∷ [];
  replicas = line 0 0 Crashed 0 0 1 1 0
      ∷ line 0 1 Normal 0 1 2 2 0
      ∷ line 0 2 Normal 0 1 2 2 0
      ∷ [];
  current = epoch 0;
  target = epoch 0;
  found = 0;
  dropped = 0;
  sent = 18;
})
unfolding all_rules
after_an_answer_report = refl

-- SETTLING: the learner asks how far the others are, and all settle the packet.
abbrev pub settled : List Event
settled = (submit 0 (Put a 7 ∷ []) ∷ []) ++ flow 7 ++ (sync 0 0 ∷ []) ++ flow 100

settled_report : reported (system 1 1 1) settled ≡ Some (record {
  config = system 1 1 1;
  history = history.Submit (txn 0 1) (Txn.Whole (Put a 7 ∷ []))
      ∷ history.Answer (txn 0 1) (Answer.Ops (OpAnswer.Done ∷ []))
      ∷ [];
  order = ordered (txn 0 1) Outcome.Done 0 ((0, 1) ∷ [])
      ∷ [];
  replicas = line 0 0 Normal 0 0 1 1 1
      ∷ line 0 1 Normal 0 0 1 1 1
      ∷ line 0 2 Normal 0 0 1 1 1
      ∷ [];
  current = epoch 0;
  target = epoch 0;
  found = 0;
  dropped = 0;
  sent = 13;
})
unfolding all_rules
settled_report = refl
