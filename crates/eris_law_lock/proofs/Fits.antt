-- A list of the examples is well formed, so the law isn't empty.
use Rattle.std.proofs.Common.{◌≡◌, false, refl}
use Rattle.std.proofs.lemmas.Bool.{both_ways}
use Rattle.eris_base.specs.declared.ids.TxnId.{TxnId}
use Rattle.eris_txn.specs.Keys.{same_key}
use Rattle.eris_locks.specs.Locks.{conflict}
use Rattle.eris_base.specs.TxnIds.{same_id}
use Rattle.eris_locks.specs.WellFormed.{WellFormed}
use Rattle.eris_locks.proofs.Examples.{read_behind_a_lock, txn}
use Rattle.eris_base.proofs.TxnIdLaws.{same_id-from}

differ : (some other : TxnId) → same_id some other ≡ false → some ≡ other → ⊥
differ some other test equal = both_ways _ test (same_id-from some other equal)

one_is_not_two : txn 0 1 ≡ txn 0 2 → ⊥
unfolding same_id
one_is_not_two = differ (txn 0 1) (txn 0 2) refl

two_is_not_one : txn 0 2 ≡ txn 0 1 → ⊥
unfolding same_id
two_is_not_one = differ (txn 0 2) (txn 0 1) refl

owner_is_not_other : txn 0 2 ≡ txn 1 1 → ⊥
unfolding same_id
owner_is_not_other = differ (txn 0 2) (txn 1 1) refl

other_is_not_owner : txn 1 1 ≡ txn 0 2 → ⊥
unfolding same_id
other_is_not_owner = differ (txn 1 1) (txn 0 2) refl

pub a_read_behind_a_lock_fits : WellFormed read_behind_a_lock
unfolding same_key same_id conflict
a_read_behind_a_lock_fits = record {
  agree = (
    ((λ h. tt), ((λ h. absurd (one_is_not_two h)), ((λ h. tt), ((λ h. tt), tt)))),
    (
      ((λ h. absurd (two_is_not_one h)), ((λ h. refl), ((λ h. absurd (owner_is_not_other h)), ((λ h. (refl, tt)), tt)))),
      (
        ((λ h. tt), ((λ h. absurd (other_is_not_owner h)), ((λ h. tt), ((λ h. tt), tt)))),
        (
          ((λ h. tt), ((λ h. (refl, tt)), ((λ h. tt), ((λ h. tt), tt)))),
          tt,
        ),
      ),
    ),
  );
  finds =
      ((λ c d. absurd (both_ways _ refl c)), ((λ c d. absurd (both_ways _ refl c)), ((λ c d. absurd (both_ways _ refl c)), ((λ c d. refl), tt))));
}
