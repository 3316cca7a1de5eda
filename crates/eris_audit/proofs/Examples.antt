use Rattle.std.proofs.Common.{ℕ, Some, None, List, [], ◌∷◌, ◌++◌, refl, inl, inr}
use Rattle.eris_base.specs.declared.ids.TxnId.{TxnId}
use Rattle.eris_txn.specs.declared.answer.Answer.{Answer}
use Rattle.eris_txn.specs.declared.history.HistoryEvent.{HistoryEvent}
use Rattle.eris_txn.specs.declared.history.HistoryEvent.TheVariants.{Submit, Read, Answer as Answered, Told}
use Rattle.eris_txn.specs.declared.key.Key.{Key}
use Rattle.eris_txn.specs.declared.op.Op.TheVariants.{Get, Put, Add}
use Rattle.eris_txn.specs.declared.op.OpAnswer.{OpAnswer}
use Rattle.eris_txn.specs.declared.plan.How.{How}
use Rattle.eris_txn.specs.declared.txn.Txn.TheVariants.{Whole, General}
use Rattle.eris_txn.specs.Keys.{same_key}
use Rattle.eris_txn.specs.PlanValues.{PlanValue}
use Rattle.eris_audit.specs.declared.outcome.Outcome.{Outcome}
use Rattle.eris_audit.specs.declared.outcome.Outcome.TheVariants.{Done, Committed, Aborted, Pending}
use Rattle.eris_audit.specs.IsSerial.{IsSerial}
use Rattle.eris_audit.specs.Lines.{Line}
use Rattle.eris_base.specs.TxnIds.{same_id}

-- Small histories that are serial in an order, and others that are not.

-- two transactions of client 0, and one of client 1
abbrev pub first : TxnId
first = record { client = record { 0 = 0 }; number = 1 }

abbrev pub second : TxnId
second = record { client = record { 0 = 0 }; number = 2 }

abbrev pub other : TxnId
other = record { client = record { 0 = 1 }; number = 1 }

-- the keys 0/a and 1/b
abbrev pub a : Key
a = record { shard = record { 0 = 0 }; name = 97 ∷ [] }

abbrev pub b : Key
b = record { shard = record { 0 = 1 }; name = 98 ∷ [] }

abbrev pub line : TxnId → Outcome → Line
line id outcome = record { id = id; outcome = outcome }

-- ---- A SUM: 5 is added to a, and a sum is answered

abbrev pub sum_history : ℕ → List HistoryEvent
sum_history sum = Submit first (Whole (Add a 5 ∷ [])) ∷ Answered first (Answer.Ops (OpAnswer.Value sum ∷ [])) ∷ []

pub right_sum_is_serial : IsSerial (sum_history 5) (line first Done ∷ [])
unfolding same_key same_id
right_sum_is_serial = record {
  order_lines = (record { once = refl; submitted = refl; kind = refl }, tt);
  have_lines = (tt, (refl, tt));
  guards = (λ committed. absurd (cc), tt);
  equal = (tt, (refl, tt));
  follows = (tt, (tt, tt));
  told = (tt, (tt, tt));
}

pub wrong_sum_is_not_serial : IsSerial (sum_history 6) (line first Done ∷ []) → ⊥
unfolding same_key same_id
wrong_sum_is_not_serial serial = cc serial.equal.1.0

pub answer_without_line_is_not_serial : IsSerial (sum_history 5) [] → ⊥
answer_without_line_is_not_serial serial = cc serial.have_lines.1.0

pub repeated_line_is_not_serial : IsSerial (sum_history 5) (line first Done ∷ line first Done ∷ []) → ⊥
unfolding same_id
repeated_line_is_not_serial serial = cc serial.order_lines.1.0.once

pub line_without_submit_is_not_serial : IsSerial (sum_history 5) (line first Done ∷ line second Done ∷ []) → ⊥
unfolding same_id
line_without_submit_is_not_serial serial = cc serial.order_lines.1.0.submitted

pub whole_without_done_is_not_serial : IsSerial (sum_history 5) (line first Pending ∷ []) → ⊥
unfolding same_id
whole_without_done_is_not_serial serial = cc serial.order_lines.0.kind

-- ---- ONE AFTER ANOTHER: the second transaction is submitted after the first one's answer

abbrev pub one_after_another : List HistoryEvent
one_after_another =
    Submit first (Whole (Put a 5 ∷ []))
    ∷ Answered first (Answer.Ops (OpAnswer.Done ∷ []))
    ∷ Submit second (Whole (Put b 1 ∷ []))
    ∷ Answered second (Answer.Ops (OpAnswer.Done ∷ []))
    ∷ []

pub order_of_submits_is_serial : IsSerial one_after_another (line first Done ∷ line second Done ∷ [])
unfolding same_key same_id
order_of_submits_is_serial = record {
  order_lines = (record { once = refl; submitted = refl; kind = refl }, (record { once = refl; submitted = refl; kind = refl }, tt));
  have_lines = (tt, (refl, (tt, (refl, tt))));
  guards = (λ committed. absurd (cc), (λ committed. absurd (cc), tt));
  equal = (tt, (refl, (tt, (refl, tt))));
  follows = (tt, (tt, ((tt, (λ answered submitted. refl, tt)), (tt, tt))));
  told = (tt, (tt, (tt, (tt, tt))));
}

pub answered_after_later_submit_is_not_serial : IsSerial one_after_another (line second Done ∷ line first Done ∷ []) → ⊥
unfolding same_key same_id
answered_after_later_submit_is_not_serial serial = cc (serial.follows.1.1.0.1.0 refl refl)

-- ---- A MOVE: 30 is moved from a to b, where a has at least so much

abbrev pub move_30 : ℕ → PlanValue
move_30 least = record {
  keys = a ∷ b ∷ [];
  guards = record { key = a; least = least } ∷ [];
  settings = record { key = a; how = How.Minus 30 } ∷ record { key = b; how = How.Plus 30 } ∷ [];
}

-- another client asked for its abort, and was told this
abbrev pub told_history : Answer → List HistoryEvent
told_history answer = Submit other (General (move_30 30)) ∷ Told (record { 0 = 2 }) other answer ∷ []

pub told_abort_without_line_is_serial : IsSerial (told_history Answer.Aborted) []
told_abort_without_line_is_serial = record {
  order_lines = tt;
  have_lines = (tt, (λ committed. absurd (cc), tt));
  guards = tt;
  equal = (tt, (tt, tt));
  follows = (tt, (tt, tt));
  told = (tt, (inr (refl, refl), tt));
}

pub told_commit_without_line_is_not_serial : IsSerial (told_history Answer.Committed) [] → ⊥
told_commit_without_line_is_not_serial serial = cc (serial.have_lines.1.0 refl)

pub told_commit_of_aborted_is_not_serial : IsSerial (told_history Answer.Committed) (line other Aborted ∷ []) → ⊥
unfolding same_id
told_commit_of_aborted_is_not_serial serial = elim serial.told.1.0 [ inl outcome ↦ cc outcome | inr aborted ↦ cc aborted.0 ]

-- the move stands between a put and two gets, which are answered these
abbrev pub move_history : ℕ → Answer → List HistoryEvent
move_history least gets =
    Submit first (Whole (Put a 30 ∷ []))
    ∷ Answered first (Answer.Ops (OpAnswer.Done ∷ []))
    ∷ Submit other (General (move_30 least))
    ∷ Submit second (Whole (Get a ∷ Get b ∷ []))
    ∷ Read other (Some 30 ∷ None ∷ [])
    ∷ Answered second gets
    ∷ []

abbrev pub moved : Answer
moved = Answer.Ops (OpAnswer.Value 0 ∷ OpAnswer.Value 30 ∷ [])

abbrev pub move_order : Outcome → List Line
move_order outcome = line first Done ∷ line other outcome ∷ line second Done ∷ []

pub committed_move_is_serial : IsSerial (move_history 30 moved ++ Answered other Answer.Committed ∷ []) (move_order Committed)
unfolding same_key same_id
committed_move_is_serial = record {
  order_lines = (
    record { once = refl; submitted = refl; kind = refl },
    (record { once = refl; submitted = refl; kind = refl }, (record { once = refl; submitted = refl; kind = refl }, tt)),
  );
  have_lines = (tt, (refl, (tt, (tt, (refl, (refl, (refl, tt)))))));
  guards = (λ committed. absurd (cc), (λ committed. refl, (λ committed. absurd (cc), tt)));
  equal = (tt, (refl, (tt, (tt, (refl, (refl, (refl, tt)))))));
  follows = (tt, (tt, ((tt, (λ answered submitted. refl, tt)), ((tt, (λ answered submitted. refl, (tt, tt))), (tt, (tt, (tt, tt)))))));
  told = (tt, (tt, (tt, (tt, (tt, (tt, (tt, tt)))))));
}

pub wrong_outcome_is_not_serial : IsSerial (move_history 30 moved ++ Answered other Answer.Aborted ∷ []) (move_order Committed) → ⊥
unfolding same_key same_id
wrong_outcome_is_not_serial serial = cc serial.equal.1.1.1.1.1.1.0

pub failing_guard_is_not_serial : IsSerial (move_history 31 moved) (move_order Committed) → ⊥
unfolding same_key same_id
failing_guard_is_not_serial serial = cc (serial.guards.1.0 refl)

pub pending_move_writes_nothing : IsSerial (move_history 30 moved) (move_order Pending) → ⊥
unfolding same_key same_id
pending_move_writes_nothing serial = cc serial.equal.1.1.1.1.1.0
