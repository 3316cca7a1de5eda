-- A client's transactions by id: after one is put, it is found at its id, and every other as before. Used where a
-- client's step changes one transaction.
use Rattle.std.proofs.Common.{◌≡◌, ℕ, Bool, true, false, cond, ◌==◌, Option, Some, List, [], ◌∷◌, refl, ap, sym, ◌∙◌, subst, arith, ◌⊎◌, inl, inr}
use Rattle.std.proofs.lemmas.Bool.{cases_Bool, both_ways}
use Rattle.std.proofs.lemmas.Bool.Decides.{nat_tests}
use Rattle.std.specs.BTreeMap.{is_at, insert_entry}
use Rattle.std.specs.Cmp.{tied_then}
use Rattle.std.specs.Map.{lookup}
use Rattle.std.specs.Ordering.{nat_cmp, is_eq, match_ordering}
use Rattle.std.specs.declared.cmp.Ordering.{Ordering}
use Rattle.std.specs.declared.cmp.Ordering.TheVariants.{Less, Equal, Greater}
use Rattle.eris_base.specs.declared.ids.TxnId.{TxnId}
use Rattle.eris_base.specs.TxnIds.{same_id}
use Rattle.eris_base.proofs.TxnIdLaws.{same_id-true, same_id-refl, same_id-from}
use Rattle.eris_rules.specs.declared.transaction.Transaction.{Transaction}
use Rattle.eris_rules.specs.ClientStates.{ClientState, transaction_at, txn_id_cmp, with_transaction}
use Rattle.eris_rules.proofs.ClientIds.{one_id}

equal_numbers : (m n : ℕ) → is_eq (nat_cmp m n) ≡ (m == n)
equal_numbers m n = grind (arith, nat_tests)

-- the comparison of ids finds equal ones
equal_ids : (some other : TxnId) → is_at (txn_id_cmp some) other ≡ same_id some other
unfolding same_id
equal_ids some other = sym (tied_then (nat_cmp some.client.0 other.client.0) (nat_cmp some.number other.number)) ∙ rw (equal_numbers some.client.0 other.client.0, equal_numbers some.number other.number) refl

-- and others aren't
two_ids : (some other : TxnId) → txn_id_cmp some other ≡ Greater → same_id some other ≡ false
two_ids some other is = sym (equal_ids some other) ∙ ap is_eq is

-- what is found after an entry is put
found_after : (entries : List (TxnId × Transaction)) (id : TxnId) (transaction : Transaction) (other : TxnId)
    → lookup (is_at (txn_id_cmp other)) (insert_entry txn_id_cmp entries id transaction) ≡ cond (is_at (txn_id_cmp other) id) (Some transaction) (lookup (is_at (txn_id_cmp other)) entries)
found_after [] id transaction other = refl
found_after (entry ∷ entries) id transaction other = by_order (txn_id_cmp id entry.0) refl (found_after entries id transaction other)
  where
    found : List (TxnId × Transaction) → Option Transaction
    found some = lookup (is_at (txn_id_cmp other)) some

    by_order : (order : Ordering) → txn_id_cmp id entry.0 ≡ order
        → found (insert_entry txn_id_cmp entries id transaction) ≡ cond (is_at (txn_id_cmp other) id) (Some transaction) (found entries)
        → found (match_ordering order ((id, transaction) ∷ entry ∷ entries) ((entry.0, transaction) ∷ entries) (entry ∷ insert_entry txn_id_cmp entries id transaction))
        ≡ cond (is_at (txn_id_cmp other) id) (Some transaction) (cond (is_at (txn_id_cmp other) entry.0) (Some entry.1) (found entries))
    by_order Less is rest = refl
    by_order Equal is rest = subst (λ (at : TxnId). cond (is_at (txn_id_cmp other) at) (Some transaction) (found entries) ≡ cond (is_at (txn_id_cmp other) id) (Some transaction) (cond (is_at (txn_id_cmp other) at) (Some entry.1) (found entries))) (one_id id entry.0 is) (twice (is_at (txn_id_cmp other) id))
      where
        twice : (test : Bool) → cond test (Some transaction) (found entries) ≡ cond test (Some transaction) (cond test (Some entry.1) (found entries))
        twice true = refl
        twice false = refl
    by_order Greater is rest = by_tests (cases_Bool (is_at (txn_id_cmp other) id)) (cases_Bool (is_at (txn_id_cmp other) entry.0))
      where
        by_tests : ((is_at (txn_id_cmp other) id ≡ true) ⊎ (is_at (txn_id_cmp other) id ≡ false)) → ((is_at (txn_id_cmp other) entry.0 ≡ true) ⊎ (is_at (txn_id_cmp other) entry.0 ≡ false))
            → cond (is_at (txn_id_cmp other) entry.0) (Some entry.1) (found (insert_entry txn_id_cmp entries id transaction))
            ≡ cond (is_at (txn_id_cmp other) id) (Some transaction) (cond (is_at (txn_id_cmp other) entry.0) (Some entry.1) (found entries))
        by_tests (inl same) (inl here) =
            let e : id ≡ entry.0 = sym (same_id-true other id (sym (equal_ids other id) ∙ same)) ∙ same_id-true other entry.0 (sym (equal_ids other entry.0) ∙ here) in
            absurd (both_ways _ (two_ids id entry.0 is) (same_id-from id entry.0 e))
        by_tests (inl same) (inr apart) = rw (apart, rest, same) refl
        by_tests (inr other_one) (inl here) = rw (here, other_one) refl
        by_tests (inr other_one) (inr apart) = rw (apart, rest, other_one) refl

-- A TRANSACTION THAT IS PUT IS FOUND AT ITS ID
pub found_put : (state : ClientState) (id : TxnId) (transaction : Transaction) → transaction_at (with_transaction state id transaction) id ≡ Some transaction
unfolding transaction_at with_transaction
found_put state id transaction = found_after state.transactions id transaction id ∙ rw (equal_ids id id, same_id-refl id) refl

-- and every other as before
pub found_other : (state : ClientState) (id : TxnId) (transaction : Transaction) (other : TxnId) → same_id other id ≡ false
    → transaction_at (with_transaction state id transaction) other ≡ transaction_at state other
unfolding transaction_at with_transaction
found_other state id transaction other apart = found_after state.transactions id transaction other ∙ rw (equal_ids other id, apart) refl
