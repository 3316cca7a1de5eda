-- What the test of two ids says.
use Rattle.std.proofs.Common.{◌≡◌, true, false, refl, ap, sym, ◌∙◌, ◌⊎◌, inl, inr}
use Rattle.std.proofs.lemmas.Bool.{and_parts, and_from, eq-eqb, eqb-true, cases_Bool, both_ways}
use Rattle.eris_base.specs.contracts.ids.TxnIdPartialEq.TheImpl as derived
use Rattle.eris_base.specs.declared.ids.TxnId.{TxnId}
use Rattle.eris_base.specs.TxnIds.{same_id}

-- the test is true for equal ids alone
pub same_id-true : (some other : TxnId) → same_id some other ≡ true → some ≡ other
unfolding same_id
same_id-true some other test =
    let parts = and_parts _ _ test in
    λ i. record { client = record { 0 = eqb-true some.client.0 other.client.0 parts.0 i }; number = eqb-true some.number other.number parts.1 i }

pub same_id-refl : (id : TxnId) → same_id id id ≡ true
unfolding same_id
same_id-refl id = and_from _ _ (eq-eqb id.client.0 id.client.0 refl) (eq-eqb id.number id.number refl)

-- and for all of them
pub same_id-from : (some other : TxnId) → some ≡ other → same_id some other ≡ true
same_id-from some other equal = ap (same_id some) (sym equal) ∙ same_id-refl some

-- its sides may be turned
pub same_id-turned : (some other : TxnId) → same_id some other ≡ same_id other some
same_id-turned some other = by_tests (cases_Bool (same_id some other)) (cases_Bool (same_id other some))
  where
    by_tests : ((same_id some other ≡ true) ⊎ (same_id some other ≡ false))
        → ((same_id other some ≡ true) ⊎ (same_id other some ≡ false)) → same_id some other ≡ same_id other some
    by_tests (inl h) (inl k) = h ∙ sym k
    by_tests (inr h) (inr k) = h ∙ sym k
    by_tests (inl h) (inr k) = absurd (both_ways _ k (same_id-from other some (sym (same_id-true some other h))))
    by_tests (inr h) (inl k) = absurd (both_ways _ h (same_id-from some other (sym (same_id-true other some k))))

-- and where it fails
pub same_id-apart : (some other : TxnId) → same_id some other ≡ false → same_id other some ≡ false
same_id-apart some other test = same_id-turned other some ∙ test

-- the comparison that ids derive is this test
pub same_id-derived : (some other : TxnId) → derived.eq-value.it some other ≡ same_id some other
unfolding same_id
same_id-derived some other = refl
