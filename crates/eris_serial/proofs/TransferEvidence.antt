-- There is evidence for the transfer's history by its order: what the protocol owes can be had, also with a read that
-- waits behind locks, and with an abort told of a transaction that isn't in the order. Nothing rests on it.
use Rattle.std.proofs.Common.{◌≡◌, ℕ, Bool, true, false, cond, ◌||◌, ◌==◌, is_some, option_map, Option, Some, None, List, [], ◌∷◌, refl, subst, ◌⊎◌, inl, inr}
use Rattle.std.proofs.lemmas.Bool.{both_ways, eqb-true, or_cases}
use Rattle.eris_base.specs.declared.ids.Phase.{Phase}
use Rattle.eris_base.specs.declared.ids.ShardId.{ShardId}
use Rattle.eris_base.specs.declared.ids.TxnId.{TxnId}
use Rattle.eris_base.specs.Places.{number_in}
use Rattle.eris_base.specs.TxnIds.{same_id}
use Rattle.eris_base.proofs.TxnIdLaws.{same_id-from}
use Rattle.eris_txn.specs.declared.answer.Answer.{Answer}
use Rattle.eris_txn.specs.declared.body.Body.TheVariants.{Independent, Commit, Abort}
use Rattle.eris_txn.specs.declared.key.Key.{Key}
use Rattle.eris_txn.specs.declared.op.Op.{Op}
use Rattle.eris_txn.specs.declared.op.Op.TheVariants.{Get, Put}
use Rattle.eris_txn.specs.declared.op.OpAnswer.{OpAnswer}
use Rattle.eris_txn.specs.Keys.{same_key}
use Rattle.eris_txn.specs.Operations.{key_of}
use Rattle.eris_locks.specs.Locks.{conflict}
use Rattle.eris_locks.specs.Shards.{is_on}
use Rattle.eris_audit.specs.Histories.{txn_of}
use Rattle.eris_serial.specs.Evidence.{ByOutcome, ByWhole, CommitOrigin, Evidence, OutcomeEvidence, ReadEvidence, SaidOn, StandsBehind, WholeEvidence}
use Rattle.eris_serial.specs.Shares.{share}
use Rattle.eris_serial.proofs.StampedLater.{behind_old}
use Rattle.eris_serial.proofs.Transfer.{a, asked, b, client, filled, history, locked, look, on_both, on_second, order, own, shard, transfer, txn}

-- what holds of both shards holds of each shard that is one of them
pub two_shards : (P : ShardId → Type 0) → P (shard 0) → P (shard 1) → (s : ShardId) → ((0 == s.0) || ((1 == s.0) || false)) ≡ true → P s
two_shards P first second s one = by_first (or_cases (0 == s.0) ((1 == s.0) || false) one)
  where
    by_second : (((1 == s.0) ≡ true) ⊎ (false ≡ true)) → P s
    by_second (inl is) = subst (λ n. P (record { 0 = n })) (eqb-true 1 s.0 is) second
    by_second (inr is) = absurd (both_ways _ refl is)

    by_first : (((0 == s.0) ≡ true) ⊎ (((1 == s.0) || false) ≡ true)) → P s
    by_first (inl is) = subst (λ n. P (record { 0 = n })) (eqb-true 0 s.0 is) first
    by_first (inr is) = by_second (or_cases (1 == s.0) false is)

-- the shares of an answer and of values
abbrev pub of_ops : List Op → List OpAnswer → ShardId → Answer
of_ops ops answers s = Answer.Ops (share (λ op. is_on s (key_of op)) ops answers)

abbrev pub of_values : List Key → List (Option ℕ) → ShardId → Answer
of_values keys values s = Answer.Values (share (is_on s) keys values)

-- a stamp of both shards names these, and a stamp of one that one
pub both_named : (first second : ℕ) (s : ShardId) → is_some (number_in ((shard 0, first) ∷ (shard 1, second) ∷ []) s) ≡ ((0 == s.0) || ((1 == s.0) || false))
both_named first second s = by_tests (0 == s.0) (1 == s.0)
  where
    by_tests : (t u : Bool) → is_some (option_map (λ (place : ShardId × ℕ). place.1) (cond t (Some (shard 0, first)) (cond u (Some (shard 1, second)) None))) ≡ (t || (u || false))
    by_tests true u = refl
    by_tests false true = refl
    by_tests false false = refl

one_named : (number : ℕ) (s : ShardId) → is_some (number_in ((shard 1, number) ∷ []) s) ≡ ((1 == s.0) || false)
one_named number s = by_test (1 == s.0)
  where
    by_test : (t : Bool) → is_some (option_map (λ (place : ShardId × ℕ). place.1) (cond t (Some (shard 1, number)) None)) ≡ (t || false)
    by_test true = refl
    by_test false = refl

some_puts : Put a 30 ∷ Put b 5 ∷ [] ≡ [] → ⊥
some_puts is = cc

some_gets : Get a ∷ Get b ∷ [] ≡ [] → ⊥
some_gets is = cc

both_keys : a ∷ b ∷ [] ≡ [] → ⊥
both_keys is = cc

one_key : b ∷ [] ≡ [] → ⊥
one_key is = cc

-- both shards say that the values were put
filled_evidence : WholeEvidence (txn_of history) (txn 0 1) (Answer.Ops (OpAnswer.Done ∷ OpAnswer.Done ∷ [])) order
unfolding same_key same_id conflict
filled_evidence = record {
  operations = Put a 30 ∷ Put b 5 ∷ [];
  answers = OpAnswer.Done ∷ OpAnswer.Done ∷ [];
  is = refl;
  some_operation = some_puts;
  answer_is = refl;
  each = tt;
  said = two_shards (λ s. SaidOn s (txn 0 1) Phase.Whole (of_ops (Put a 30 ∷ Put b 5 ∷ []) (OpAnswer.Done ∷ OpAnswer.Done ∷ []) s) order) (inl (refl, refl, refl)) (inl (refl, refl, refl));
}

-- and what they have for the transfer
transfer_read : ReadEvidence (txn_of history) (txn 0 2) (Some 30 ∷ Some 5 ∷ []) order
unfolding same_key same_id conflict
transfer_read = record {
  plan = transfer;
  is = refl;
  each = tt;
  said = two_shards (λ s. SaidOn s (txn 0 2) Phase.Prelim (of_values (a ∷ b ∷ []) (Some 30 ∷ Some 5 ∷ []) s) order) (inr (inl (refl, refl, refl))) (inr (inl (refl, refl, refl)));
}

-- and, late, what the transfer left
both_read : WholeEvidence (txn_of history) (txn 1 1) (Answer.Ops (OpAnswer.Value 0 ∷ OpAnswer.Value 35 ∷ [])) order
unfolding same_key same_id conflict
both_read = record {
  operations = Get a ∷ Get b ∷ [];
  answers = OpAnswer.Value 0 ∷ OpAnswer.Value 35 ∷ [];
  is = refl;
  some_operation = some_gets;
  answer_is = refl;
  each = tt;
  said = two_shards (λ s. SaidOn s (txn 1 1) Phase.Whole (of_ops (Get a ∷ Get b ∷ []) (OpAnswer.Value 0 ∷ OpAnswer.Value 35 ∷ []) s) order) (inr (inr (inr (inl (refl, refl, refl))))) (inr (inr (inr (inl (refl, refl, refl)))));
}

-- one shard is enough for an outcome
committed : OutcomeEvidence (txn_of history) (txn 0 2) Answer.Committed order
unfolding same_key same_id conflict
committed = record { plan = transfer; is = refl; shard = shard 0; part = refl; said = inr (inr (inl (refl, refl, refl))) }

aborted : OutcomeEvidence (txn_of history) (txn 2 1) Answer.Aborted order
unfolding same_key same_id conflict
aborted = record { plan = look; is = refl; shard = shard 1; part = refl; said = inr (inr (inr (inr (inl (refl, refl, refl))))) }

commit_origin : CommitOrigin history (txn 0 2) (record { key = a; value = 0 } ∷ record { key = b; value = 35 } ∷ [])
unfolding same_key same_id
commit_origin = record { values = Some 30 ∷ Some 5 ∷ []; read = inr (inr (inr (inr (inr (inl refl))))); plan = transfer; is = refl; guards = refl; writes_are = refl }

-- an id other than the first's stands behind the first
behind_filled : (id : TxnId) → same_id (txn 0 1) id ≡ false → StandsBehind order (txn 0 1) id
behind_filled id apart =
    behind_old (txn 0 1) id (filled ∷ [])
    (locked
    ∷ own (on_both 3 3) (txn 1 1) (Independent (Get a ∷ Get b ∷ []))
    ∷ own (on_both 4 4) (txn 0 2) (Commit (a ∷ b ∷ []) (record { key = a; value = 0 } ∷ record { key = b; value = 35 } ∷ []))
    ∷ asked (on_second 5) (client 1) (txn 2 1) (Abort (b ∷ []))
    ∷ [])
    (inl (refl, refl)) ((λ own. both_ways _ apart (same_id-from (txn 0 1) id own.of_id)), tt)

-- THE EVIDENCE
pub transfer_evidence : Evidence history order
unfolding same_key same_id
transfer_evidence = record {
  submitted = (refl, (refl, (refl, (refl, (refl, tt)))));
  submits = (some_puts, (tt, (record { some_key = both_keys; sets_once = refl; names_locked = refl }, (some_gets, (record { some_key = one_key; sets_once = refl; names_locked = refl }, (tt, (tt, (tt, (tt, tt)))))))));
  shards = (both_named 1 1, (both_named 2 2, (both_named 3 3, (both_named 4 4, (one_named 5, tt)))));
  bodies = (refl, ((transfer, refl, refl), (refl, (tt, (tt, tt)))));
  commits = (tt, (tt, (tt, (commit_origin, (tt, tt)))));
  counted = (tt, (ByWhole filled_evidence, (tt, (tt, (tt, (transfer_read, (ByOutcome (record { values = Some 30 ∷ Some 5 ∷ []; read = inr (inr (inr (inr (inr (inl refl))))); outcome = committed }), (ByWhole both_read, (aborted, tt)))))))));
  later = (tt, (tt, ((tt, (behind_filled (txn 0 2) refl, tt)), ((tt, (behind_filled (txn 1 1) refl, (tt, tt))), ((tt, (behind_filled (txn 2 1) refl, (tt, (tt, tt)))), (tt, (tt, (tt, (tt, tt)))))))));
}
