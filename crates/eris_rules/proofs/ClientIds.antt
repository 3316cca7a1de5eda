-- Ids that the order of a client's transactions ties are one.
use Rattle.std.proofs.Common.{◌≡◌, ℕ, ap}
use Rattle.std.proofs.lemmas.Map.Lookups.{exact_unsigned, exact_pairs}
use Rattle.std.specs.Ordering.{nat_cmp}
use Rattle.std.specs.declared.cmp.Ordering.TheVariants.{Equal}
use Rattle.eris_base.specs.declared.ids.TxnId.{TxnId}
use Rattle.eris_rules.specs.ClientStates.{txn_id_cmp}

pub one_id : (some other : TxnId) → txn_id_cmp some other ≡ Equal → some ≡ other
one_id some other tied =
    ap (λ (parts : ℕ × ℕ). record { client = record { 0 = parts.0 }; number = parts.1 })
    (exact_pairs nat_cmp nat_cmp exact_unsigned exact_unsigned (some.client.0, some.number) (other.client.0, other.number) tied)
