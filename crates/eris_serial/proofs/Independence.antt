-- No premise of the evidence follows from the others, and none can be dropped: for each there is a history that has
-- all others by an order and isn't serial. Nothing rests on this file.
use Rattle.std.proofs.Common.{◌≡◌, ℕ, Bool, true, false, cond, ◌||◌, ◌==◌, is_some, option_map, Some, None, List, [], ◌∷◌, refl, subst, ◌⊎◌, inl, inr}
use Rattle.std.proofs.lemmas.Bool.{both_ways, eqb-true, or_cases}
use Rattle.std.specs.Prelude.{IsTrue}
use Rattle.eris_base.specs.declared.ids.Phase.{Phase}
use Rattle.eris_base.specs.declared.ids.ShardId.{ShardId}
use Rattle.eris_base.specs.declared.ids.TxnId.{TxnId}
use Rattle.eris_base.specs.Each.{Each, EachAfter}
use Rattle.eris_base.specs.Places.{number_in}
use Rattle.eris_base.specs.TxnIds.{same_id}
use Rattle.eris_base.proofs.TxnIdLaws.{same_id-from}
use Rattle.eris_txn.specs.declared.answer.Answer.{Answer}
use Rattle.eris_txn.specs.declared.body.Body.TheVariants.{Independent, Commit, Prelim}
use Rattle.eris_txn.specs.declared.history.HistoryEvent.{HistoryEvent}
use Rattle.eris_txn.specs.declared.history.HistoryEvent.TheVariants.{Submit, Read}
use Rattle.eris_txn.specs.declared.key.Key.{Key}
use Rattle.eris_txn.specs.declared.op.Op.{Op}
use Rattle.eris_txn.specs.declared.op.Op.TheVariants.{Get, Put}
use Rattle.eris_txn.specs.declared.op.OpAnswer.{OpAnswer}
use Rattle.eris_txn.specs.declared.packet.Packet.{Packet}
use Rattle.eris_txn.specs.declared.txn.Txn.TheVariants.{General, Whole}
use Rattle.eris_txn.specs.Keys.{same_key}
use Rattle.eris_locks.specs.Locks.{conflict}
use Rattle.eris_locks.specs.Shards.{names_shard}
use Rattle.eris_audit.specs.Histories.{is_submitted, txn_of}
use Rattle.eris_audit.specs.IsSerial.{IsSerial}
use Rattle.eris_order.specs.Orders.{lines}
use Rattle.eris_serial.specs.Evidence.{AnswerEvidence, BodyOrigin, ByOutcome, ByWhole, Counted, Evidence, HasCommitOrigin, SaidOn, SubmitsWell, SubmittedLater}
use Rattle.eris_serial.specs.Transactions.{takes_part}
use Rattle.eris_serial.proofs.Premises.{abort_alone, abort_alone_history, abort_alone_is_not_serial, abort_of_whole, abort_of_whole_history, abort_of_whole_is_not_serial, half_commit, half_commit_history, half_commit_is_not_serial, no_key, other_body, other_body_history, other_body_is_not_serial, other_writes, other_writes_history, other_writes_is_not_serial, put_both, put_second, read_of_nothing_is_not_serial, set_twice, set_twice_history, set_twice_is_not_serial, shared_lock, shared_lock_history, shared_lock_is_not_serial, turned, turned_history, turned_is_not_serial, twice, unguarded, unguarded_history, unguarded_is_not_serial, unsubmitted, unsubmitted_is_not_serial}
use Rattle.eris_serial.proofs.StampedLater.{behind_old}
use Rattle.eris_serial.proofs.Transfer.{a, b, exclusive, on_second, own, shard, transfer, txn}
use Rattle.eris_serial.proofs.TransferEvidence.{both_named, of_ops, of_values, two_shards}

-- the premises by name
data Premise : Type 0 where
  Submitted : Premise
  Submits : Premise
  Shards : Premise
  Bodies : Premise
  Commits : Premise
  Rests : Premise
  Later : Premise

abbrev Holds : Premise → List HistoryEvent → List Packet → Type 0
Holds Submitted history order = Each (λ packet. IsTrue (is_submitted history packet.id)) order
Holds Submits history order = Each SubmitsWell history
Holds Shards history order = Each (λ packet. (s : ShardId) → names_shard s packet ≡ takes_part s (txn_of history packet.id)) order
Holds Bodies history order = Each (λ packet. BodyOrigin (txn_of history packet.id) packet.body) order
Holds Commits history order = Each (λ packet. HasCommitOrigin history packet.id packet.body) order
Holds Rests history order = Each (Counted history order) history
Holds Later history order = EachAfter (SubmittedLater order) [] history

-- they are the evidence
all_premises : (history : List HistoryEvent) (order : List Packet) → ((premise : Premise) → Holds premise history order) → Evidence history order
all_premises history order holds = record {
  submitted = holds Submitted;
  submits = holds Submits;
  shards = holds Shards;
  bodies = holds Bodies;
  commits = holds Commits;
  counted = holds Rests;
  later = holds Later;
}

-- all hold but this one, and the history isn't serial
record IsNeeded (dropped : Premise) : Type 0 where
  history : List HistoryEvent
  order : List Packet
  others : (premise : Premise) → (premise ≡ dropped → ⊥) → Holds premise history order
  not_serial : IsSerial history (lines order) → ⊥

one_shard : (of : ℕ) (P : ShardId → Type 0) → P (shard of) → (s : ShardId) → ((of == s.0) || false) ≡ true → P s
one_shard of P there s one = by_case (or_cases (of == s.0) false one)
  where
    by_case : (((of == s.0) ≡ true) ⊎ (false ≡ true)) → P s
    by_case (inl is) = subst (λ n. P (record { 0 = n })) (eqb-true of s.0 is) there
    by_case (inr is) = absurd (both_ways _ refl is)

one_named : (of number : ℕ) (s : ShardId) → is_some (number_in ((shard of, number) ∷ []) s) ≡ ((of == s.0) || false)
one_named of number s = by_test (of == s.0)
  where
    by_test : (t : Bool) → is_some (option_map (λ (place : ShardId × ℕ). place.1) (cond t (Some (shard of, number)) None)) ≡ (t || false)
    by_test true = refl
    by_test false = refl

some_get : (key : Key) → Get key ∷ [] ≡ [] → ⊥
some_get key is = cc

some_put : (key : Key) (value : ℕ) → Put key value ∷ [] ≡ [] → ⊥
some_put key value is = cc

both_keys : a ∷ b ∷ [] ≡ [] → ⊥
both_keys is = cc

one_key : (key : Key) → key ∷ [] ≡ [] → ⊥
one_key key is = cc

-- the answer of a whole transaction of one operation
one_op : (history : List HistoryEvent) (order : List Packet) (id : TxnId) (op : Op) (answer : OpAnswer)
    → (op ∷ [] ≡ [] → ⊥) → txn_of history id ≡ Whole (op ∷ [])
    → ((s : ShardId) → takes_part s (txn_of history id) ≡ true → SaidOn s id Phase.Whole (of_ops (op ∷ []) (answer ∷ []) s) order) → AnswerEvidence history id (Answer.Ops (answer ∷ [])) order
one_op history order id op answer some is said =
    ByWhole (record { operations = op ∷ []; answers = answer ∷ []; is = is; some_operation = some; answer_is = refl; each = tt; said = said })

-- `shards`
half_others : (premise : Premise) → (premise ≡ Shards → ⊥) → Holds premise half_commit_history half_commit
unfolding same_key same_id conflict
half_others Submitted other = (refl, (refl, (refl, tt)))
half_others Submits other = (record { some_key = both_keys; sets_once = refl; names_locked = refl }, (tt, (tt, (tt, tt))))
half_others Shards other = absurd (other refl)
half_others Bodies other = ((put_both, refl, refl), (tt, (tt, tt)))
half_others Commits other = (tt, (record { values = None ∷ None ∷ []; read = inr (inl refl); plan = put_both; is = refl; guards = refl; writes_are = refl }, (tt, tt)))
half_others Rests other = (
  tt,
  (
    record {
      plan = put_both;
      is = refl;
      each = tt;
      said = two_shards (λ s. SaidOn s (txn 0 1) Phase.Prelim (of_values (a ∷ b ∷ []) (None ∷ None ∷ []) s) half_commit) (inl (refl, refl, refl)) (inl (refl, refl, refl));
    },
    (
      ByOutcome (record {
        values = None ∷ None ∷ [];
        read = inr (inl refl);
        outcome = record { plan = put_both; is = refl; shard = shard 0; part = refl; said = inr (inl (refl, refl, refl)) };
      }),
      (record { plan = put_both; is = refl; shard = shard 1; part = refl; said = inr (inl (refl, refl, refl)) }, tt),
    ),
  ),
)
half_others Later other = (tt, (tt, (tt, (tt, tt))))

shards_are_needed : IsNeeded Shards
shards_are_needed = record { history = half_commit_history; order = half_commit; others = half_others; not_serial = half_commit_is_not_serial }

-- `bodies`: of an Independent
body_others : (premise : Premise) → (premise ≡ Bodies → ⊥) → Holds premise other_body_history other_body
unfolding same_key same_id conflict
body_others Submitted other = (refl, tt)
body_others Submits other = (some_get a, (tt, tt))
body_others Shards other = (one_named 0 1, tt)
body_others Bodies other = absurd (other refl)
body_others Commits other = (tt, tt)
body_others Rests other = (
  tt,
  (one_op other_body_history other_body (txn 0 1) (Get a) OpAnswer.Done (some_get a) refl (one_shard 0 (λ s. SaidOn s (txn 0 1) Phase.Whole (of_ops (Get a ∷ []) (OpAnswer.Done ∷ []) s) other_body) (inl (refl, refl, refl))), tt),
)
body_others Later other = (tt, (tt, tt))

bodies_are_needed : IsNeeded Bodies
bodies_are_needed = record { history = other_body_history; order = other_body; others = body_others; not_serial = other_body_is_not_serial }

-- and of a Prelim
lock_others : (premise : Premise) → (premise ≡ Bodies → ⊥) → Holds premise shared_lock_history shared_lock
unfolding same_key same_id conflict
lock_others Submitted other = (refl, (refl, (refl, tt)))
lock_others Submits other = (record { some_key = one_key b; sets_once = refl; names_locked = refl }, (some_get b, (tt, (tt, (tt, tt)))))
lock_others Shards other = (one_named 1 1, (one_named 1 2, (one_named 1 3, tt)))
lock_others Bodies other = absurd (other refl)
lock_others Commits other = (tt, (tt, (record { values = None ∷ []; read = inr (inr (inl refl)); plan = put_second; is = refl; guards = refl; writes_are = refl }, tt)))
lock_others Rests other = (
  tt,
  (
    tt,
    (
      record {
        plan = put_second;
        is = refl;
        each = tt;
        said = one_shard 1 (λ s. SaidOn s (txn 0 1) Phase.Prelim (of_values (b ∷ []) (None ∷ []) s) shared_lock) (inl (refl, refl, refl));
      },
      (
        ByOutcome (record {
          values = None ∷ [];
          read = inr (inr (inl refl));
          outcome = record { plan = put_second; is = refl; shard = shard 1; part = refl; said = inr (inr (inl (refl, refl, refl))) };
        }),
        (
          one_op shared_lock_history shared_lock (txn 0 2) (Get b) OpAnswer.Absent (some_get b) refl
              (one_shard 1 (λ s. SaidOn s (txn 0 2) Phase.Whole (of_ops (Get b ∷ []) (OpAnswer.Absent ∷ []) s) shared_lock) (inr (inl (refl, refl, refl)))),
          tt,
        ),
      ),
    ),
  ),
)
lock_others Later other = (tt, ((tt, tt), (tt, (tt, (tt, tt)))))

locks_are_needed : IsNeeded Bodies
locks_are_needed = record { history = shared_lock_history; order = shared_lock; others = lock_others; not_serial = shared_lock_is_not_serial }

-- `commits`: the guards
guard_others : (premise : Premise) → (premise ≡ Commits → ⊥) → Holds premise unguarded_history unguarded
unfolding same_key same_id conflict
guard_others Submitted other = (refl, (refl, tt))
guard_others Submits other = (record { some_key = both_keys; sets_once = refl; names_locked = refl }, (tt, (tt, tt)))
guard_others Shards other = (both_named 1 1, (both_named 2 2, tt))
guard_others Bodies other = ((transfer, refl, refl), (tt, tt))
guard_others Commits other = absurd (other refl)
guard_others Rests other = (
  tt,
  (
    record {
      plan = transfer;
      is = refl;
      each = tt;
      said = two_shards (λ s. SaidOn s (txn 0 1) Phase.Prelim (of_values (a ∷ b ∷ []) (None ∷ None ∷ []) s) unguarded) (inl (refl, refl, refl)) (inl (refl, refl, refl));
    },
    (
      ByOutcome (record {
        values = None ∷ None ∷ [];
        read = inr (inl refl);
        outcome = record { plan = transfer; is = refl; shard = shard 0; part = refl; said = inr (inl (refl, refl, refl)) };
      }),
      tt,
    ),
  ),
)
guard_others Later other = (tt, (tt, (tt, tt)))

guards_are_needed : IsNeeded Commits
guards_are_needed = record { history = unguarded_history; order = unguarded; others = guard_others; not_serial = unguarded_is_not_serial }

-- and the writes
write_others : (premise : Premise) → (premise ≡ Commits → ⊥) → Holds premise other_writes_history other_writes
unfolding same_key same_id conflict
write_others Submitted other = (refl, (refl, (refl, tt)))
write_others Submits other = (record { some_key = one_key b; sets_once = refl; names_locked = refl }, (tt, (tt, (some_get b, (tt, tt)))))
write_others Shards other = (one_named 1 1, (one_named 1 2, (one_named 1 3, tt)))
write_others Bodies other = ((put_second, refl, refl), (tt, (refl, tt)))
write_others Commits other = absurd (other refl)
write_others Rests other = (
  tt,
  (
    record {
      plan = put_second;
      is = refl;
      each = tt;
      said = one_shard 1 (λ s. SaidOn s (txn 0 1) Phase.Prelim (of_values (b ∷ []) (None ∷ []) s) other_writes) (inl (refl, refl, refl));
    },
    (
      ByOutcome (record {
        values = None ∷ [];
        read = inr (inl refl);
        outcome = record { plan = put_second; is = refl; shard = shard 1; part = refl; said = inr (inl (refl, refl, refl)) };
      }),
      (
        tt,
        (
          one_op other_writes_history other_writes (txn 0 2) (Get b) (OpAnswer.Value 9) (some_get b) refl
              (one_shard 1 (λ s. SaidOn s (txn 0 2) Phase.Whole (of_ops (Get b ∷ []) (OpAnswer.Value 9 ∷ []) s) other_writes) (inr (inr (inl (refl, refl, refl))))),
          tt,
        ),
      ),
    ),
  ),
)
write_others Later other = (
  tt,
  (
    tt,
    (
      tt,
      (
        (
          tt,
          (
            tt,
            (
              behind_old (txn 0 1) (txn 0 2) (own (on_second 1) (txn 0 1) (Prelim (exclusive b ∷ [])) ∷ [])
                  (own (on_second 2) (txn 0 1) (Commit (b ∷ []) (record { key = b; value = 9 } ∷ [])) ∷ own (on_second 3) (txn 0 2) (Independent (Get b ∷ [])) ∷ [])
                  (inl (refl, refl)) ((λ is. both_ways _ refl (same_id-from (txn 0 1) (txn 0 2) is.of_id)), tt),
              tt,
            ),
          ),
        ),
        (tt, tt),
      ),
    ),
  ),
)

writes_are_needed : IsNeeded Commits
writes_are_needed = record { history = other_writes_history; order = other_writes; others = write_others; not_serial = other_writes_is_not_serial }

-- `later`
turned_others : (premise : Premise) → (premise ≡ Later → ⊥) → Holds premise turned_history turned
unfolding same_key same_id conflict
turned_others Submitted other = (refl, (refl, tt))
turned_others Submits other = (some_put a 30, (tt, (some_get a, (tt, tt))))
turned_others Shards other = (one_named 0 1, (one_named 0 2, tt))
turned_others Bodies other = (refl, (refl, tt))
turned_others Commits other = (tt, (tt, tt))
turned_others Rests other = (
  tt,
  (
    one_op turned_history turned (txn 0 1) (Put a 30) OpAnswer.Done (some_put a 30) refl
        (one_shard 0 (λ s. SaidOn s (txn 0 1) Phase.Whole (of_ops (Put a 30 ∷ []) (OpAnswer.Done ∷ []) s) turned) (inr (inl (refl, refl, refl)))),
    (
      tt,
      (
        one_op turned_history turned (txn 1 1) (Get a) OpAnswer.Absent (some_get a) refl
            (one_shard 0 (λ s. SaidOn s (txn 1 1) Phase.Whole (of_ops (Get a ∷ []) (OpAnswer.Absent ∷ []) s) turned) (inl (refl, refl, refl))),
        tt,
      ),
    ),
  ),
)
turned_others Later other = absurd (other refl)

later_is_needed : IsNeeded Later
later_is_needed = record { history = turned_history; order = turned; others = turned_others; not_serial = turned_is_not_serial }

-- `submits`: some key
nothing_others : (premise : Premise) → (premise ≡ Submits → ⊥) → Holds premise (Submit (txn 0 1) (General no_key) ∷ Read (txn 0 1) [] ∷ []) []
unfolding same_id
nothing_others Submitted other = tt
nothing_others Submits other = absurd (other refl)
nothing_others Shards other = tt
nothing_others Bodies other = tt
nothing_others Commits other = tt
nothing_others Rests other = (tt, (record { plan = no_key; is = refl; each = tt; said = λ s part. absurd (both_ways _ refl part) }, tt))
nothing_others Later other = (tt, (tt, tt))

keys_are_needed : IsNeeded Submits
keys_are_needed = record { history = Submit (txn 0 1) (General no_key) ∷ Read (txn 0 1) [] ∷ []; order = []; others = nothing_others; not_serial = read_of_nothing_is_not_serial }

-- and no key set twice
twice_others : (premise : Premise) → (premise ≡ Submits → ⊥) → Holds premise set_twice_history set_twice
unfolding same_key same_id conflict
twice_others Submitted other = (refl, (refl, (refl, tt)))
twice_others Submits other = absurd (other refl)
twice_others Shards other = (one_named 1 1, (one_named 1 2, (one_named 1 3, tt)))
twice_others Bodies other = ((twice, refl, refl), (tt, (refl, tt)))
twice_others Commits other = (tt, (record { values = None ∷ []; read = inr (inl refl); plan = twice; is = refl; guards = refl; writes_are = refl }, (tt, tt)))
twice_others Rests other = (
  tt,
  (
    record {
      plan = twice;
      is = refl;
      each = tt;
      said = one_shard 1 (λ s. SaidOn s (txn 0 1) Phase.Prelim (of_values (b ∷ []) (None ∷ []) s) set_twice) (inl (refl, refl, refl));
    },
    (
      ByOutcome (record {
        values = None ∷ [];
        read = inr (inl refl);
        outcome = record { plan = twice; is = refl; shard = shard 1; part = refl; said = inr (inl (refl, refl, refl)) };
      }),
      (
        tt,
        (
          one_op set_twice_history set_twice (txn 0 2) (Get b) (OpAnswer.Value 1) (some_get b) refl
              (one_shard 1 (λ s. SaidOn s (txn 0 2) Phase.Whole (of_ops (Get b ∷ []) (OpAnswer.Value 1 ∷ []) s) set_twice) (inr (inr (inl (refl, refl, refl))))),
          tt,
        ),
      ),
    ),
  ),
)
twice_others Later other = (
  tt,
  (
    tt,
    (
      tt,
      (
        (
          tt,
          (
            tt,
            (
              behind_old (txn 0 1) (txn 0 2) (own (on_second 1) (txn 0 1) (Prelim (exclusive b ∷ [])) ∷ [])
                  (own (on_second 2) (txn 0 1) (Commit (b ∷ []) (record { key = b; value = 1 } ∷ record { key = b; value = 1 } ∷ [])) ∷ own (on_second 3) (txn 0 2) (Independent (Get b ∷ [])) ∷ [])
                  (inl (refl, refl)) ((λ is. both_ways _ refl (same_id-from (txn 0 1) (txn 0 2) is.of_id)), tt),
              tt,
            ),
          ),
        ),
        (tt, tt),
      ),
    ),
  ),
)

settings_are_needed : IsNeeded Submits
settings_are_needed = record { history = set_twice_history; order = set_twice; others = twice_others; not_serial = set_twice_is_not_serial }

-- `submitted`
unsubmitted_others : (premise : Premise) → (premise ≡ Submitted → ⊥) → Holds premise [] unsubmitted
unsubmitted_others Submitted other = absurd (other refl)
unsubmitted_others Submits other = tt
unsubmitted_others Shards other = ((λ s. refl), tt)
unsubmitted_others Bodies other = (refl, tt)
unsubmitted_others Commits other = (tt, tt)
unsubmitted_others Rests other = tt
unsubmitted_others Later other = tt

submits_are_needed : IsNeeded Submitted
submits_are_needed = record { history = []; order = unsubmitted; others = unsubmitted_others; not_serial = unsubmitted_is_not_serial }

-- `counted`: an outcome that is told is of a general transaction
abort_others : (premise : Premise) → (premise ≡ Rests → ⊥) → Holds premise abort_of_whole_history abort_of_whole
unfolding same_id
abort_others Submitted other = (refl, (refl, tt))
abort_others Submits other = (some_put a 30, (tt, tt))
abort_others Shards other = (one_named 0 1, (one_named 0 2, tt))
abort_others Bodies other = (refl, (tt, tt))
abort_others Commits other = (tt, (tt, tt))
abort_others Rests other = absurd (other refl)
abort_others Later other = (tt, (tt, tt))

general_is_needed : IsNeeded Rests
general_is_needed = record { history = abort_of_whole_history; order = abort_of_whole; others = abort_others; not_serial = abort_of_whole_is_not_serial }

-- and an own one comes after a Read
alone_others : (premise : Premise) → (premise ≡ Rests → ⊥) → Holds premise abort_alone_history abort_alone
unfolding same_key same_id
alone_others Submitted other = (refl, tt)
alone_others Submits other = (record { some_key = one_key a; sets_once = refl; names_locked = refl }, (tt, tt))
alone_others Shards other = (one_named 0 1, tt)
alone_others Bodies other = (tt, tt)
alone_others Commits other = (tt, tt)
alone_others Rests other = absurd (other refl)
alone_others Later other = (tt, (tt, tt))

read_is_needed : IsNeeded Rests
read_is_needed = record { history = abort_alone_history; order = abort_alone; others = alone_others; not_serial = abort_alone_is_not_serial }
