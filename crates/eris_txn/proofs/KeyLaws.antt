-- Keys are totally ordered, and `same_key` tells exactly which ones are equal.
use Rattle.std.proofs.Common.{◌≡◌, true, false, nat_eq, ◌&&◌, ◌==◌, refl, ap, sym, ◌∙◌, ◌⊎◌, inl, inr}
use Rattle.std.proofs.lemmas.Bool.{cases_Bool}
use Rattle.std.proofs.lemmas.Cmp.{nat_cmp_total, nat_list_cmp_total, on_total, then_total, eq_by_cmp_equiv}
use Rattle.std.proofs.lemmas.Map.Lookups.{CmpEqualImpliesEq, exact_unsigned, exact_bytes, exact_pairs}
use Rattle.std.specs.Cmp.{IsTotalOrder}
use Rattle.std.specs.Cmp.Lexicographic.{slice_cmp, texts_ties}
use Rattle.std.specs.Ordering.{nat_cmp, ordering_then, is_eq}
use Rattle.std.specs.declared.cmp.Ordering.{Ordering}
use Rattle.std.specs.declared.cmp.Ordering.TheVariants.{Less, Equal, Greater}
use Rattle.eris_base.proofs.Orders.{equal_from, nat_tie}
use lib.Pointwise.{pointwise}
use Rattle.eris_txn.specs.declared.key.Key.{Key}
use Rattle.eris_txn.specs.Keys.{key_cmp, same_key}

pub key_cmp-total : IsTotalOrder key_cmp
key_cmp-total = then_total (on_total (λ (key : Key). key.shard.0) nat_cmp_total) (on_total (λ (key : Key). key.name) nat_list_cmp_total)

-- keys that the order ties are equal
pub key_cmp-exact : CmpEqualImpliesEq key_cmp
key_cmp-exact some other tied =
    ap (λ parts. record { shard = record { 0 = parts.0 }; name = parts.1 })
    (exact_pairs nat_cmp (slice_cmp nat_cmp) exact_unsigned exact_bytes (some.shard.0, some.name) (other.shard.0, other.name) tied)

pub same_key-true : (some other : Key) → same_key some other ≡ true → some ≡ other
unfolding same_key
same_key-true some other h = key_cmp-exact some other (equal_from (key_cmp some other) h)

pub same_key-refl : (key : Key) → same_key key key ≡ true
unfolding same_key
same_key-refl key = (eq_by_cmp_equiv key_cmp-total).refl key

pub same_key-symm : (some other : Key) → same_key some other ≡ same_key other some
unfolding same_key
same_key-symm some other = (eq_by_cmp_equiv key_cmp-total).symm some other

-- keys that differ
pub same_key-false : (some other : Key) → (some ≡ other → ⊥) → same_key some other ≡ false
same_key-false some other differ = by_test (cases_Bool (same_key some other))
  where
    by_test : ((same_key some other ≡ true) ⊎ (same_key some other ≡ false)) → same_key some other ≡ false
    by_test (inl h) = absurd (differ (same_key-true some other h))
    by_test (inr h) = h

is_eq-then : (o p : Ordering) → is_eq (ordering_then o p) ≡ (is_eq o && is_eq p)
is_eq-then Less p = refl
is_eq-then Equal p = refl
is_eq-then Greater p = refl

-- equal keys are equal part by part
pub same_key-parts : (some other : Key) → ((some.shard.0 == other.shard.0) && pointwise nat_eq some.name other.name) ≡ same_key some other
unfolding same_key
same_key-parts some other =
    ap (λ b. b && pointwise nat_eq some.name other.name) (nat_tie some.shard.0 other.shard.0)
    ∙ ap (λ b. is_eq (nat_cmp some.shard.0 other.shard.0) && b) (texts_ties some.name other.name)
    ∙ sym (is_eq-then (nat_cmp some.shard.0 other.shard.0) (slice_cmp nat_cmp some.name other.name))
