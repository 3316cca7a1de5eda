-- Runs in which nothing is dropped and no view or epoch changes, computed.
use Rattle.std.specs.Prelude.{◌≡◌, Some, List, [], ◌∷◌, ◌++◌, refl}
use Rattle.eris_txn.specs.declared.answer.Answer.{Answer}
use Rattle.eris_txn.specs.declared.history.HistoryEvent.TheVariants as history
use Rattle.eris_txn.specs.declared.op.Op.TheVariants.{Get, Put, Add}
use Rattle.eris_txn.specs.declared.op.OpAnswer.{OpAnswer}
use Rattle.eris_txn.specs.declared.txn.Txn.{Txn}
use Rattle.eris_audit.specs.declared.outcome.Outcome.{Outcome}
use Rattle.eris_event.specs.declared.event.Event.{Event}
use Rattle.eris_event.specs.declared.report.ReplicaState.TheVariants.{Normal}
use Rattle.eris_rules.proofs.ExampleWords.{system, reported, epoch, a, b, txn, submit, retry, deliver, flow, lose, line, ordered}
use Rattle.eris_rules.proofs.Opened.{all_rules}

-- ONE PUT is stamped, held and answered.
abbrev pub one_put : List Event
one_put = (submit 0 (Put a 7 ∷ []) ∷ []) ++ flow 3

one_put_report : reported (system 1 0 1) one_put ≡ Some (record {
  config = system 1 0 1;
  history = history.Submit (txn 0 1) (Txn.Whole (Put a 7 ∷ []))
      ∷ history.Answer (txn 0 1) (Answer.Ops (OpAnswer.Done ∷ []))
      ∷ [];
  order = ordered (txn 0 1) Outcome.Done 0 ((0, 1) ∷ [])
      ∷ [];
  replicas = line 0 0 Normal 0 0 1 1 0
      ∷ [];
  current = epoch 0;
  target = epoch 0;
  found = 0;
  dropped = 0;
  sent = 3;
})
unfolding all_rules
one_put_report = refl

-- TWO SHARDS of three replicas each: every replica vouches, and both learners answer.
abbrev pub two_shards : List Event
two_shards = (submit 0 (Put a 1 ∷ Put b 2 ∷ []) ∷ []) ++ flow 13

two_shards_report : reported (system 2 1 1) two_shards ≡ Some (record {
  config = system 2 1 1;
  history = history.Submit (txn 0 1) (Txn.Whole (Put a 1 ∷ Put b 2 ∷ []))
      ∷ history.Answer (txn 0 1) (Answer.Ops (OpAnswer.Done ∷ OpAnswer.Done ∷ []))
      ∷ [];
  order = ordered (txn 0 1) Outcome.Done 0 ((0, 1) ∷ (1, 1) ∷ [])
      ∷ [];
  replicas = line 0 0 Normal 0 0 1 1 0
      ∷ line 0 1 Normal 0 0 1 1 0
      ∷ line 0 2 Normal 0 0 1 1 0
      ∷ line 1 0 Normal 0 0 1 1 0
      ∷ line 1 1 Normal 0 0 1 1 0
      ∷ line 1 2 Normal 0 0 1 1 0
      ∷ [];
  current = epoch 0;
  target = epoch 0;
  found = 0;
  dropped = 0;
  sent = 13;
})
unfolding all_rules
two_shards_report = refl

-- TWO TRANSACTIONS ON TWO SHARDS come in different orders to the shards, and are stamped in one: the second waits for
-- the first, which the shard asks the coordinator about. Packet 6 is that question, which nobody delivers.
abbrev pub crossed : List Event
crossed = (submit 0 (Put a 1 ∷ Put b 1 ∷ []) ∷ submit 1 (Put a 2 ∷ Put b 2 ∷ []) ∷ deliver 0 ∷ deliver 1 ∷ deliver 4 ∷ deliver 3 ∷ deliver 7 ∷ deliver 2 ∷ deliver 8 ∷ deliver 9 ∷ deliver 5 ∷ deliver 10 ∷ [])

crossed_report : reported (system 2 0 2) crossed ≡ Some (record {
  config = system 2 0 2;
  history = history.Submit (txn 0 1) (Txn.Whole (Put a 1 ∷ Put b 1 ∷ []))
      ∷ history.Submit (txn 1 1) (Txn.Whole (Put a 2 ∷ Put b 2 ∷ []))
      ∷ history.Answer (txn 0 1) (Answer.Ops (OpAnswer.Done ∷ OpAnswer.Done ∷ []))
      ∷ history.Answer (txn 1 1) (Answer.Ops (OpAnswer.Done ∷ OpAnswer.Done ∷ []))
      ∷ [];
  order = ordered (txn 0 1) Outcome.Done 0 ((0, 1) ∷ (1, 1) ∷ [])
      ∷ ordered (txn 1 1) Outcome.Done 0 ((0, 2) ∷ (1, 2) ∷ [])
      ∷ [];
  replicas = line 0 0 Normal 0 0 2 2 0
      ∷ line 1 0 Normal 0 0 2 2 0
      ∷ [];
  current = epoch 0;
  target = epoch 0;
  found = 0;
  dropped = 0;
  sent = 11;
})
unfolding all_rules
crossed_report = refl

-- EVERY MESSAGE TWICE: the sum is added once. The repeated Ask is stamped anew and does nothing.
abbrev pub repeated : List Event
repeated = (submit 0 (Add a 5 ∷ []) ∷ deliver 0 ∷ deliver 0 ∷ deliver 1 ∷ deliver 1 ∷ deliver 2 ∷ deliver 2 ∷ deliver 3 ∷ deliver 3 ∷ submit 0 (Get a ∷ []) ∷ deliver 7 ∷ deliver 8 ∷ deliver 9 ∷ [])

repeated_report : reported (system 1 0 1) repeated ≡ Some (record {
  config = system 1 0 1;
  history = history.Submit (txn 0 1) (Txn.Whole (Add a 5 ∷ []))
      ∷ history.Answer (txn 0 1) (Answer.Ops (OpAnswer.Value 5 ∷ []))
      ∷ history.Submit (txn 0 2) (Txn.Whole (Get a ∷ []))
      ∷ history.Answer (txn 0 2) (Answer.Ops (OpAnswer.Value 5 ∷ []))
      ∷ [];
  order = ordered (txn 0 1) Outcome.Done 0 ((0, 1) ∷ [])
      ∷ ordered (txn 0 2) Outcome.Done 0 ((0, 3) ∷ [])
      ∷ [];
  replicas = line 0 0 Normal 0 0 3 3 0
      ∷ [];
  current = epoch 0;
  target = epoch 0;
  found = 0;
  dropped = 0;
  sent = 10;
})
unfolding all_rules
repeated_report = refl

-- A LOST ANSWER: the transaction acted unseen, and its retry acts no more.
abbrev pub unseen : List Event
unseen = (submit 0 (Add a 5 ∷ []) ∷ []) ++ flow 2 ++ lose 1 ++ (retry 0 1 ∷ []) ++ flow 10

unseen_report : reported (system 1 0 1) unseen ≡ Some (record {
  config = system 1 0 1;
  history = history.Submit (txn 0 1) (Txn.Whole (Add a 5 ∷ []))
      ∷ history.Answer (txn 0 1) (Answer.Ops (OpAnswer.Value 5 ∷ []))
      ∷ [];
  order = ordered (txn 0 1) Outcome.Done 0 ((0, 1) ∷ [])
      ∷ [];
  replicas = line 0 0 Normal 0 0 2 2 0
      ∷ [];
  current = epoch 0;
  target = epoch 0;
  found = 0;
  dropped = 0;
  sent = 6;
})
unfolding all_rules
unseen_report = refl
